-- The star, though defined as the greatest over 0 .. L passes, is that over any number of them. For a value v and a
-- goal j, take the instants from which fewer than n passes reach j with a value of at least v. With n these grow,
-- until one pass more adds none, and then no number of passes does; and they can't grow more than L times.
use Prim.Native.Nat.{ℕ, zero, suc, ◌+◌, ◌-◌, ◌≤◌, ◌<◌, min, max, zero-le}
use mathlib.Core.Path.{◌≡◌}
use mathlib.Core.Logic.{◌⊎◌, inl, inr}
use native.Mathlib.Nat.{le_refl, le_trans, le_antisymm, max-le, le_of_suc-le-suc}
use native.Mathlib.Omega.{arith}
use Rattle.meaning.specs.Three.{greatest}
use Rattle.meaning.specs.Value.{Row, Square, sequence_square, passes, star_square}
use Rattle.meaning.proofs.Bounds.{le_or_lt, all_suc, le_above, greatest_member, greatest_attained, greatest_reached}
use Rattle.meaning.proofs.Reach.{sequence_elim, sequence_intro}

-- ---- counting
module _ (v : ℕ) where
  -- How many of f 0 .. f (n - 1) are at least v.
  tally : ℕ → Row → ℕ
  tally zero f = 0
  tally (suc n) f = tally n f + min 1 (suc (f n) - v)

  -- No more than there are.
  tally_bound : (n : ℕ) (f : Row) → tally n f ≤ n
  unfolding tally
  tally_bound zero f = zero-le
  tally_bound (suc n) f = omega (arith, tally_bound n f)

  -- A greater row has no fewer.
  tally_grows : (n : ℕ) (f g : Row) → ((k : ℕ) → k < n → f k ≤ g k) → tally n f ≤ tally n g
  unfolding tally
  tally_grows zero f g h = zero-le
  tally_grows (suc n) f g h = omega (arith, h n (le_refl _), tally_grows n f g (λ k l. h k (omega arith)))

  -- A greater row with no more has the same ones.
  tally_stays : (n : ℕ) (f g : Row) → ((k : ℕ) → k < n → f k ≤ g k) → tally n g ≤ tally n f →
      (k : ℕ) → k < n → v ≤ g k → v ≤ f k
  unfolding tally
  tally_stays zero f g h s = λ k l a. absurd (omega arith)
  tally_stays (suc n) f g h s =
      let h' : (k : ℕ) → k < n → f k ≤ g k = λ k l. h k (omega arith) in
      let last : f n ≤ g n = h n (le_refl _) in
      let before : tally n f ≤ tally n g = tally_grows n f g h' in
      all_suc (λ k. v ≤ g k → v ≤ f k) n (tally_stays n f g h' (omega arith)) (omega arith)

-- ---- L passes are enough
module _ (v : ℕ) (z : 0 < v) (L : ℕ) (p : Square) (j : ℕ) where
  -- The greatest value over fewer than n passes.
  abbrev sooner : ℕ → Row
  sooner n k = greatest n (λ m. passes L p m k j)

  -- What any number of passes reaches, fewer than n reach.
  abbrev Enough : ℕ → Type 0
  Enough n = (m k : ℕ) → k < L → v ≤ passes L p m k j → v ≤ sooner n k

  -- It grows with n.
  sooner_grows : (n k : ℕ) → sooner n k ≤ sooner (suc n) k
  unfolding greatest
  sooner_grows n k = omega arith

  -- If one pass more adds no instant, then no number of passes does.
  closed_enough : (n : ℕ) → ((k : ℕ) → k < L → v ≤ sooner (suc n) k → v ≤ sooner n k) → Enough n
  unfolding passes
  closed_enough n c zero k l a = c k l (le_trans a (greatest_member (suc n) (λ m. passes L p m k j) 0 (omega arith)))
  closed_enough n c (suc m) k l a =
      let (i, il, b, d) = sequence_elim L p (passes L p m) k j v z a in
      let (q, ql, e) = greatest_reached n _ v z (closed_enough n c m i il d) in
      let w : v ≤ passes L p (suc q) k j = sequence_intro L p (passes L p q) k i j v il b e in
      c k l (le_trans w (greatest_member (suc n) (λ m. passes L p m k j) (suc q) (omega arith)))

  -- Up to n passes each has added an instant, or they are enough.
  grown_or_enough : (n : ℕ) → (n ≤ tally v L (sooner n)) ⊎ Enough n
  grown_or_enough zero = inl zero-le
  grown_or_enough (suc n) =
      let later : Enough n → Enough (suc n) = λ e m k l a. le_trans (e m k l a) (sooner_grows n k) in
      elim (grown_or_enough n) [
        | inl a ↦ elim (le_or_lt (tally v L (sooner (suc n))) (tally v L (sooner n))) [
          | inl s ↦ inr (later (closed_enough n (tally_stays v L (sooner n) (sooner (suc n)) (λ k _. sooner_grows n k) s)))
          | inr g ↦ inl (omega arith)
        ]
        | inr e ↦ inr (later e)
      ]

  -- There is no room for one instant more than L.
  star_enough : Enough (suc L)
  star_enough = elim (grown_or_enough (suc L))
      [ inl a ↦ absurd (omega (arith, tally_bound v L (sooner (suc L)))) | inr e ↦ e ]

-- ---- the star's law
-- No number of passes gives more than the star.
pub star_greatest : (L : ℕ) (p : Square) (n k j : ℕ) → k < L → passes L p n k j ≤ star_square L p k j
unfolding star_square
star_greatest L p n k j l = le_above _ _ (λ v z a. star_enough v z L p j n k l a)

-- Some number of passes, at most L, gives as much.
pub star_attained : (L : ℕ) (p : Square) (k j : ℕ) → (n : ℕ) × (n ≤ L) × (star_square L p k j ≡ passes L p n k j)
unfolding star_square
star_attained L p k j = let (n, l, e) = greatest_attained L (λ n. passes L p n k j) in (n, le_of_suc-le-suc l, e)

-- A star is no pass, or one pass and then a star.
pub star_unfold : (L : ℕ) (p : Square) (k j : ℕ) → k < L →
    star_square L p k j ≡ max (passes L p 0 k j) (sequence_square L p (star_square L p) k j)
unfolding passes
star_unfold L p k j l =
    let (n, _, e) = star_attained L p k j in
    le_antisymm (there n e) (max-le (star_greatest L p 0 k j l) (le_above _ _ back))
  where
    again : ℕ
    again = sequence_square L p (star_square L p) k j

    there : (n : ℕ) → star_square L p k j ≡ passes L p n k j → star_square L p k j ≤ max (passes L p 0 k j) again
    there zero e = omega arith
    there (suc n) e = le_above _ _ (λ v z a.
        let (i, il, b, d) = sequence_elim L p (passes L p n) k j v z (omega arith) in
        omega (arith, sequence_intro L p (star_square L p) k i j v il b (le_trans d (star_greatest L p n i j il))))

    back : (v : ℕ) → 0 < v → v ≤ again → v ≤ star_square L p k j
    back v z a =
        let (i, il, b, d) = sequence_elim L p (star_square L p) k j v z a in
        let (n, _, e) = star_attained L p i j in
        let w : v ≤ passes L p (suc n) k j = sequence_intro L p (passes L p n) k i j v il b (omega arith) in
        le_trans w (star_greatest L p (suc n) k j l)
