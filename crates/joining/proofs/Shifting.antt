-- A move before a path leads from k to the one instant i beside it, so the value from k to j is the path's from i, or 0 if there
-- is no such instant: whole rows move. A move after a path is the same with from and to exchanged and the move turned.
use Prim.Native.Nat.{ℕ, zero, suc, ◌+◌, ◌-◌, ◌*◌, ◌<◌, ◌≤◌, zero-le, min}
use mathlib.Core.Path.{◌≡◌, sym, ap, ◌∙◌}
use mathlib.Core.Bool.{cond}
use mathlib.Core.Logic.{inl, inr}
use mathlib.Core.List.{List}
use native.Mathlib.Nat.{le_refl, le_trans, le_antisymm, zero-add, min_comm}
use native.Mathlib.Omega.{arith}
use native.Mathlib.Decide.{ℕ_discrete}
use lib.Dec.{eqb, ltb}
use lib.ListN.{get_or, replicate, get_or-replicate}
use borrow.Author.Tests.{eq-eqb, ne_eqb, lt-ltb, le-ltb}
use Rattle.meaning.specs.{Record.Way, Record.ahead, Record.back, Value.Square, Value.move_square, Value.sequence_square}
use Rattle.meaning.proofs.Reach.{Beside, beside_one, move_beside, beside_move, sequence_elim, sequence_intro}
use Rattle.meaning.proofs.Bounds.{le_or_lt, le_above, greatest_same}
use Rattle.rows.specs.Cells.{width, at, row_at, Put}
use Rattle.joining.specs.Joining.{beside_of, value_at, turned, shift_of}

-- ---- a move before a path
module _ (w : Way) (L : ℕ) (q : Square) (k j : ℕ) where
  -- It leads to no instant below L.
  led_nowhere : ((i : ℕ) → i < L → Beside w k i → ⊥) → 0 ≡ sequence_square L (move_square w) q k j
  led_nowhere none = sym (le_antisymm
      (le_above (sequence_square L (move_square w) q k j) 0 (λ v z a.
      let (o, ol, x, y) = sequence_elim L (move_square w) q k j v z a in
      absurd (none o ol (move_beside w k o (le_trans z x)))))
      zero-le)

  -- It leads to the instant i, which may be below L or not.
  led_to : (i : ℕ) → Beside w k i → ((i : ℕ) → i < L → q i j ≤ 2)
      → cond (ltb i L) (q i j) 0 ≡ sequence_square L (move_square w) q k j
  led_to i b low = elim (le_or_lt L i) [
    | inl n ↦ rw (le-ltb i L n) (led_nowhere (λ o l d. omega (arith, beside_one w k i o b d)))
    | inr l ↦ rw (lt-ltb i L l) (sym (le_antisymm
        (le_above (sequence_square L (move_square w) q k j) _ (λ v z a.
        let (o, ol, x, y) = sequence_elim L (move_square w) q k j v z a in
        rw (beside_one w k i o b (move_beside w k o (le_trans z x))) at y))
        (sequence_intro L (move_square w) q k i j _ l (rw (beside_move w k i b) (low i l)) (le_refl _))))
  ]

pub led_by_move : (w : Way) (L : ℕ) (q : Square) (k j : ℕ) → ((i : ℕ) → i < L → q i j ≤ 2)
    → value_at L (λ i. q i j) (beside_of w k) ≡ sequence_square L (move_square w) q k j
unfolding beside_of Beside
led_by_move ahead L q k j low = led_to ahead L q k j (suc k) (omega arith) low
led_by_move back L q zero j low = led_nowhere back L q zero j (λ i l b. omega arith)
led_by_move back L q (suc k) j low = led_to back L q (suc k) j k (omega arith) low

-- ---- a move after a path
turned_back : (i j : ℕ) → eqb (i + 1) j ≡ eqb j (i + 1)
turned_back i j = elim (ℕ_discrete j (i + 1)) [
  | yes e ↦ rw (eq-eqb j (i + 1) e, eq-eqb (i + 1) j (sym e))
  | no n ↦ rw (ne_eqb j (i + 1) n, ne_eqb (i + 1) j (λ z. n (sym z)))
]

turned_move : (w : Way) (i j : ℕ) → move_square (turned w) j i ≡ move_square w i j
unfolding move_square turned
turned_move ahead i j = rw (turned_back i j)
turned_move back i j = rw (turned_back j i)

pub moved_by_move : (w : Way) (L : ℕ) (p : Square) (k j : ℕ) → ((i : ℕ) → i < L → p k i ≤ 2)
    → value_at L (p k) (beside_of (turned w) j) ≡ sequence_square L p (move_square w) k j
unfolding sequence_square
moved_by_move w L p k j low =
    led_by_move (turned w) L (λ i k. p k i) j k low
    ∙ greatest_same L _ _ (λ i l. min_comm _ _ ∙ ap (min (p k i)) (turned_move w i j))

-- A row of zeros with the values of row k but one, a place further on or back.
module _ {L : ℕ} (s : List ℕ) {row : List ℕ} (k : ℕ) (short : L ≤ width) where
  moved_on : (j : ℕ) → j < L → Put (L - 1) 1 (row_at s (k * width)) (replicate width 0) row
      → get_or row j 0 ≡ value_at L (at s k) (beside_of back j)
  unfolding beside_of
  moved_on zero h w = w.before 0 (omega arith) ∙ get_or-replicate width 0 0 0 (omega arith)
  moved_on (suc j) h w =
      let e : suc j ≡ 1 + j = omega arith in
      rw (lt-ltb j L (omega arith)) (ap (λ (i : ℕ). get_or row i 0) e ∙ w.here j (omega arith))

  moved_back : (j : ℕ) → j < L → Put (L - 1) 0 (row_at s (k * width + 1)) (replicate width 0) row
      → get_or row j 0 ≡ value_at L (at s k) (beside_of ahead j)
  unfolding beside_of
  moved_back j h w = elim (le_or_lt L (suc j)) [
    | inl l ↦ rw (le-ltb (suc j) L l) (w.after j (omega arith) ∙ get_or-replicate width j 0 0 (omega arith))
    | inr l ↦
        let f : k * width + 1 + j ≡ k * width + suc j = omega arith in
        rw (lt-ltb (suc j) L l) (rw (zero-add, f) at (w.here j (omega arith)))
  ]

  pub moved_row : (j : ℕ) → j < L → (w : Way)
      → Put (L - 1) (shift_of w) (row_at s (k * width + 1 - shift_of w)) (replicate width 0) row
      → get_or row j 0 ≡ value_at L (at s k) (beside_of (turned w) j)
  unfolding shift_of turned
  moved_row j h ahead w = let e : k * width + 1 - 1 ≡ k * width = omega arith in moved_on j h (rw e at w)
  moved_row j h back w = let e : k * width + 1 - 0 ≡ k * width + 1 = omega arith in moved_back j h (rw e at w)
