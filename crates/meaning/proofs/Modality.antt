-- The laws of diamond and box, each said once for both: a choice joins two rows, a sequence nests them, a test is a
-- gate, a move looks at the instant beside, and a star joins its continuation with one pass and then the star. The two
-- sides of a law are within the same numbers, because they are so at each instant.
use Prim.Native.Nat.{ℕ, ◌≤◌, ◌<◌, max}
use mathlib.Core.Path.{◌≡◌, refl, ◌∙◌, ap₂}
use native.Mathlib.Omega.{arith}
use Rattle.meaning.specs.Record.{Mode, diamond, box, Way}
use Rattle.meaning.specs.Value.{Row, Square, move_square, test_square, choice_square, sequence_square, passes, star_square, diamond_row, box_row, modal_row}
use Rattle.meaning.proofs.Bounds.{greatest_within, least_bound}
use Rattle.meaning.proofs.Reach.{only_there, value_there, Beside, beside_one, move_beside, beside_move}
use Rattle.meaning.proofs.Star.{star_unfold}
use Rattle.meaning.proofs.Within.{joined, gate, edge, within_less, within_positive, within_max, within_greatest, within_joined, within_gate, within_edge, within_row, fits, row_is, gate_two}

-- A modality over values has a value.
pub modal_bound : (m : Mode) (L : ℕ) (p : Square) (c : Row) (k : ℕ) → ((j : ℕ) → j < L → c j ≤ 2) → modal_row m L p c k ≤ 2
unfolding modal_row diamond_row box_row
modal_bound diamond L p c k b = greatest_within L _ 2 (λ j l. omega (arith, b j l))
modal_bound box L p c k b = least_bound L _

module _ (m : Mode) (L : ℕ) where
  -- Only the instants that the path leads to count.
  pub modal_congruence : (p : Square) (c d : Row) (k : ℕ) → ((j : ℕ) → j < L → 0 < p k j → c j ≡ d j) →
      modal_row m L p c k ≡ modal_row m L p d k
  modal_congruence p c d k e = row_is m L p c k _ (search fits) (λ a y. simp within_row (
    λ h j l. within_positive m a _ _ y (λ z. rw (e j l z) at (h j l)),
    λ h j l. within_positive m a _ _ y (λ z. rw (e j l z) (h j l)),
  ))

  -- A path that is worth the greater of two joins their rows.
  modal_max : (r p q : Square) (c : Row) (k : ℕ) → ((j : ℕ) → r k j ≡ max (p k j) (q k j)) →
      modal_row m L r c k ≡ joined m (modal_row m L p c k) (modal_row m L q c k)
  modal_max r p q c k e = row_is m L r c k _ (search fits) (λ a y. simp (within_joined, within_row, e, within_max) (
    λ h. (λ j l. (h j l).0, λ j l. (h j l).1),
    λ h j l. (h.0 j l, h.1 j l),
  ))

  pub modal_choice : (p q : Square) (c : Row) (k : ℕ) →
      modal_row m L (choice_square p q) c k ≡ joined m (modal_row m L p c k) (modal_row m L q c k)
  unfolding choice_square
  modal_choice p q c k = modal_max _ p q c k (λ j. refl)

  pub modal_sequence : (p q : Square) (c : Row) (k : ℕ) →
      modal_row m L (sequence_square L p q) c k ≡ modal_row m L p (modal_row m L q c) k
  unfolding sequence_square
  modal_sequence p q c k = row_is m L _ c k _ (search fits) (λ a y. simp (within_row, within_greatest) (
    λ h i il j jl. within_less m _ _ (c j) y (omega arith) (h j jl i il),
    λ h j jl i il. within_less m _ _ (c j) y (omega arith) (h i il j jl),
  ))

  -- A path that leads from k to i alone is a gate.
  modal_one : (p : Square) (c : Row) (k i : ℕ) → i < L → c i ≤ 2 → ((j : ℕ) → 0 < p k j → j ≡ i) →
      modal_row m L p c k ≡ gate m (p k i) (c i)
  modal_one p c k i l b one = row_is m L p c k _ (search fits) (λ a y. simp within_gate (
    λ h. h i l,
    λ h j _. within_positive m a _ _ y (λ z. rw (one j z) h),
  ))

  -- With the value 2, it leaves the value at i.
  modal_two : (p : Square) (c : Row) (k i : ℕ) → i < L → c i ≤ 2 → ((j : ℕ) → 0 < p k j → j ≡ i) → p k i ≡ 2 →
      modal_row m L p c k ≡ c i
  modal_two p c k i l b one e = modal_one p c k i l b one ∙ rw e (gate_two m (c i) b)

  pub modal_test : (f c : Row) (k : ℕ) → k < L → c k ≤ 2 → modal_row m L (test_square f) c k ≡ gate m (f k) (c k)
  unfolding test_square
  modal_test f c k l b = modal_one (test_square f) c k k l b (λ j. only_there j k (f k)) ∙ rw (value_there k k (f k) refl)

  -- A move where there is an instant beside.
  pub modal_move : (w : Way) (c : Row) (k j : ℕ) → j < L → c j ≤ 2 → Beside w k j → modal_row m L (move_square w) c k ≡ c j
  modal_move w c k j l b e =
      modal_two (move_square w) c k j l b (λ i z. beside_one w k j i e (move_beside w k i z)) (beside_move w k j e)

  -- A move where there is none.
  pub modal_edge : (w : Way) (c : Row) (k : ℕ) → ((j : ℕ) → j < L → ¬ (Beside w k j)) →
      modal_row m L (move_square w) c k ≡ edge m
  modal_edge w c k none = row_is m L (move_square w) c k _ (search fits) (λ a y. (
    λ _. within_edge m a y,
    λ _ j l. within_positive m a _ _ y (λ z. absurd (none j l (move_beside w k j z))),
  ))

  -- No pass of a star.
  modal_still : (p : Square) (c : Row) (k : ℕ) → k < L → c k ≤ 2 → modal_row m L (passes L p 0) c k ≡ c k
  unfolding passes
  modal_still p c k l b = modal_two (passes L p 0) c k k l b (λ j. only_there j k 2) (value_there k k 2 refl)

  pub modal_star : (p : Square) (c : Row) (k : ℕ) → k < L → c k ≤ 2 →
      modal_row m L (star_square L p) c k ≡ joined m (c k) (modal_row m L p (modal_row m L (star_square L p) c) k)
  modal_star p c k l b =
      modal_max (star_square L p) (passes L p 0) (sequence_square L p (star_square L p)) c k (λ j. star_unfold L p k j l)
      ∙ ap₂ (joined m) (modal_still p c k l b) (modal_sequence p (star_square L p) c k)
