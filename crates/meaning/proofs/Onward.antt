-- Formulas and paths have values, 0 to 2. And a path whose own moves all go one way leads that way, at least one
-- instant far if it may not stand still: a move leads one instant far and a test none, and in one way distances add up,
-- along a sequence and along the passes of a star.
use Prim.Native.Nat.{ℕ, zero, suc, ◌+◌, ◌≤◌, ◌<◌, zero-le}
use mathlib.Core.Path.{◌≡◌, refl}
use mathlib.Core.Bool.{Bool, true, false, cond, ◌&&◌, ◌||◌, true≢false}
use mathlib.Core.Logic.{inl, inr}
use native.Mathlib.Nat.{le_refl}
use native.Mathlib.Omega.{arith}
use Rattle.meaning.specs.Record.{Way, ahead, back}
use Rattle.meaning.specs.Formula.{Form, Path, constant, atom, modal, move, test, choice, sequence, star, may_stand, same_way, goes}
use Rattle.meaning.specs.Value.{Square, move_square, test_square, choice_square, sequence_square, passes, value_of, square_of}
use Rattle.meaning.proofs.Fails.{or_fails}
use Rattle.meaning.proofs.Bounds.{le_or_lt, greatest_within}
use Rattle.meaning.proofs.Reach.{only_there, there_bound, Beside, move_beside, sequence_elim}
use Rattle.meaning.proofs.Star.{star_attained}
use Rattle.meaning.proofs.Modality.{modal_bound}

-- ---- values
-- A move has a value.
pub move_bound : (w : Way) (k j : ℕ) → move_square w k j ≤ 2
unfolding move_square
move_bound ahead k j = there_bound j (k + 1) 2
move_bound back k j = there_bound (j + 1) k 2

-- Any number of passes has a value.
passes_bound : (L : ℕ) (p : Square) (n k j : ℕ) → passes L p n k j ≤ 2
unfolding passes sequence_square
passes_bound L p zero k j = there_bound j k 2
passes_bound L p (suc n) k j = greatest_within L _ 2 (λ i _. omega (arith, passes_bound L p n i j))

module _ (L : ℕ) (cell : ℕ → ℕ → ℕ) (cells : (k i : ℕ) → k < L → cell k i ≤ 2) where
  -- A formula has a value at each instant.
  pub values_bound : (f : Form) (k : ℕ) → k < L → value_of L cell f k ≤ 2
  unfolding value_of
  values_bound (constant false) k l = zero-le
  values_bound (constant true) k l = le_refl 2
  values_bound (atom i) k l = cells k i l
  values_bound (modal m p f) k l = modal_bound m L (square_of L cell p) (value_of L cell f) k (values_bound f)

  -- A path has a value from each instant.
  pub square_bound : (p : Path) (k j : ℕ) → k < L → square_of L cell p k j ≤ 2
  unfolding square_of test_square choice_square sequence_square
  square_bound (move w) k j l = move_bound w k j
  square_bound (test f) k j l = omega (arith, there_bound j k (value_of L cell f k), values_bound f k l)
  square_bound (choice p q) k j l = omega (arith, square_bound p k j l, square_bound q k j l)
  square_bound (sequence p q) k j l = greatest_within L _ 2 (λ i _. omega (arith, square_bound p k i l))
  square_bound (star p) k j l =
      let (n, _, e) = star_attained L (square_of L cell p) k j in
      omega (arith, passes_bound L (square_of L cell p) n k j)

-- ---- ways
unfoldable pub other : Way → Way
other ahead = back
other back = ahead

-- In the way w, j is at least d instants from k.
unfoldable pub Leads : Way → ℕ → ℕ → ℕ → Type 0
Leads ahead d k j = k + d ≤ j
Leads back d k j = j + d ≤ k

abbrev pub Along : Way → ℕ → ℕ → Type 0
Along w k j = Leads w 0 k j

abbrev pub Strictly : Way → ℕ → ℕ → Type 0
Strictly w k j = Leads w 1 k j

-- Standing still is along either way.
leads_same : (w : Way) (k j : ℕ) → j ≡ k → Along w k j
unfolding Leads
leads_same ahead k j e = omega arith
leads_same back k j e = omega arith

-- Two stretches add up.
leads_add : (w : Way) (r s t k i j : ℕ) → r ≤ s + t → Leads w s k i → Leads w t i j → Leads w r k j
unfolding Leads
leads_add ahead r s t k i j l = omega arith
leads_add back r s t k i j l = omega arith

-- At least s is at least what is less.
leads_less : (w : Way) (r s k j : ℕ) → r ≤ s → Leads w s k j → Leads w r k j
leads_less w r s k j l a = leads_add w r s 0 k j j (omega arith) a (leads_same w j j refl)

-- A move that doesn't go the other way leads one instant far.
beside_leads : (w v : Way) (k j : ℕ) → same_way (other w) v ≡ false → Beside v k j → Strictly w k j
unfolding same_way other Beside Leads
beside_leads ahead ahead k j = λ g b. omega arith
beside_leads ahead back k j = λ g b. absurd (true≢false g)
beside_leads back ahead k j = λ g b. absurd (true≢false g)
beside_leads back back k j = λ g b. omega arith

-- ---- how far a path leads at least, by whether it may stand still
pace : Bool → ℕ
pace b = cond b 0 1

-- A choice, no farther than either arm.
pace_or : (a b : Bool) → (pace (a || b) ≤ pace a) × (pace (a || b) ≤ pace b)
unfolding pace
pace_or true b = omega arith
pace_or false true = omega arith
pace_or false false = omega arith

-- A sequence, no farther than both parts together.
pace_and : (a b : Bool) → pace (a && b) ≤ pace a + pace b
unfolding pace
pace_and true true = omega arith
pace_and true false = omega arith
pace_and false true = omega arith
pace_and false false = omega arith

module _ (L : ℕ) (cell : ℕ → ℕ → ℕ) (w : Way) where
  -- Passes lead along the way that one leads.
  passes_along : (p : Square) → ((k j : ℕ) → 0 < p k j → Along w k j) → (n k j : ℕ) → 0 < passes L p n k j → Along w k j
  unfolding passes
  passes_along p h zero k j z = leads_same w k j (only_there j k 2 z)
  passes_along p h (suc n) k j z =
      let (i, _, a, b) = sequence_elim L p (passes L p n) k j 1 (le_refl 1) z in
      leads_add w 0 0 0 k i j zero-le (h k i a) (passes_along p h n i j b)

  -- A path that doesn't go the other way leads as far as its pace.
  path_leads : (p : Path) → goes (other w) p ≡ false → (k j : ℕ) → 0 < square_of L cell p k j →
      Leads w (pace (may_stand p)) k j
  unfolding goes may_stand square_of test_square choice_square pace
  path_leads (move v) g k j z = beside_leads w v k j g (move_beside v k j z)
  path_leads (test f) g k j z = leads_same w k j (only_there j k (value_of L cell f k) z)
  path_leads (choice p q) g k j z =
      let (gp, gq) = (or_fails _ _).0 g in
      let (a, b) = pace_or (may_stand p) (may_stand q) in
      elim (le_or_lt 1 (square_of L cell p k j)) [
        | inl y ↦ leads_less w _ _ k j a (path_leads p gp k j y)
        | inr n ↦ leads_less w _ _ k j b (path_leads q gq k j (omega arith))
      ]
  path_leads (sequence p q) g k j z =
      let (gp, gq) = (or_fails _ _).0 g in
      let (i, _, a, b) = sequence_elim L (square_of L cell p) (square_of L cell q) k j 1 (le_refl 1) z in
      leads_add w _ _ _ k i j (pace_and (may_stand p) (may_stand q)) (path_leads p gp k i a) (path_leads q gq i j b)
  path_leads (star p) g k j z =
      let (n, _, e) = star_attained L (square_of L cell p) k j in
      passes_along (square_of L cell p) (λ k j a. leads_less w 0 _ k j zero-le (path_leads p g k j a)) n k j (omega arith)

  -- So it leads along its way, and strictly so if it may not stand still.
  pub onward : (p : Path) → goes (other w) p ≡ false → (k j : ℕ) → 0 < square_of L cell p k j →
      Along w k j × (may_stand p ≡ false → Strictly w k j)
  unfolding pace
  onward p g k j z =
      let a = path_leads p g k j z in
      (leads_less w 0 _ k j zero-le a, λ s. rw s at a)
