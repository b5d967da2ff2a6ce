-- Why the translation is as it is.
--   second_line    At the last instant a body that leads strictly ahead leads to no instant, so its row is an edge, and a star's label, being
--                  the join with it, is its continuation's. A body that goes back leads from there to the instant before.
--   standing       The rules of ⟨(p?)*⟩q say that p's label is p and q's is q, that the test's is the smaller of p's and the star's, the star's
--                  the greater of q's and the test's, and the diamond's is the star's. Where p is 2 and q is 0, that asks of the last three only
--                  that they be the same value: so there are three fillings.
--   box_test       Each answer is computed.
use Prim.Native.Nat.{ℕ, zero, suc, ◌+◌, ◌*◌, ◌≤◌, ◌<◌, zero-le, min, max}
use mathlib.Core.Path.{◌≡◌, refl, sym, ◌∙◌}
use mathlib.Core.Bool.{false, cond}
use mathlib.Core.List.{List, [], ◌∷◌, ◌++◌}
use mathlib.Core.Logic.Iff
use mathlib.Core.Logic.{◌↔◌}
use native.Mathlib.Nat.{le_refl}
use native.Mathlib.Omega.{arith}
use lib.ListN.{length, get_or}
use lib.Seq.{ext_get_or}
use lib.Dec.{eqb}
use Rattle.meaning.specs.Run.{each, tabulate, cell_of}
use Rattle.meaning.specs.Three.{greatest}
use Rattle.meaning.specs.Record.{Mode, diamond, box, ahead, back, count, kinds, kind_of, number_of, columns_of, names, uses, parent_in}
use Rattle.meaning.specs.Formula.{Path, may_stand, goes}
use Rattle.meaning.specs.Value.{Row, Square, move_square, sequence_square, passes, star_square, square_of, diamond_row, modal_row}
use Rattle.meaning.specs.Rule.{Rule, symbol_value, plain, literal}
use Rattle.meaning.specs.Translation.{handed, context_in, same_rules, join_rules, test_rules, rules_of, rules_at}
use Rattle.meaning.specs.Examples.{standing, short_h}
use Rattle.meaning.proofs.Runs.{length_tabulate, get_d_tabulate}
use Rattle.meaning.proofs.Onward.{other, Leads, onward}
use Rattle.meaning.proofs.Within.{joined, gate, edge, within_positive, within_edge, fits, row_is}
use Rattle.meaning.proofs.Modality.{modal_star}
use Rattle.meaning.proofs.Examples.{open_all}
use Rattle.theorems.specs.Filling.{Filling, Meets}
use Rattle.theorems.specs.Why.{SecondLine, standing_with, Standing, BoxTest}
use Rattle.theorems.proofs.Saying.{AllKept, all_hold, append_kept, same_says, join_says, test_says}

-- ---- the second line for a star
-- A path that leads nowhere has an edge for its row.
nowhere : (m : Mode) (L : ℕ) (p : Square) (c : Row) (k : ℕ) → ((j : ℕ) → j < L → ¬ (0 < p k j))
    → modal_row m L p c k ≡ edge m
nowhere m L p c k none = row_is m L p c k _ (search fits) (λ a y. (
  λ _. within_edge m a y,
  λ _ j l. within_positive m a _ _ y (λ z. absurd (none j l z)),
))

-- A value joined with an edge.
joined_edge : (m : Mode) (v : ℕ) → v ≤ 2 → joined m v (edge m) ≡ v
unfolding joined edge
joined_edge diamond v b = omega arith
joined_edge box v b = omega arith

-- At the last instant, a star whose body goes forward.
forward : (m : Mode) (L : ℕ) (cell : ℕ → ℕ → ℕ) (p : Path) (c : Row) → goes back p ≡ false → may_stand p ≡ false
    → ((j : ℕ) → j < L → c j ≤ 2) → (k : ℕ) → suc k ≡ L → modal_row m L (star_square L (square_of L cell p)) c k ≡ c k
unfolding other Leads
forward m L cell p c g s low k e =
    let l : k < L = omega arith in
    modal_star m L (square_of L cell p) c k l (low k l)
    ∙ rw (nowhere m L (square_of L cell p) _ k (λ j h z. omega (arith, (onward L cell ahead p g k j z).1 s)))
    (joined_edge m (c k) (low k l))

pub second_line : SecondLine
unfolding greatest move_square sequence_square passes star_square diamond_row modal_row
second_line = record { forward = forward; backward = (λ k. cond (eqb k 0) 2 0, refl, refl) }

-- ---- a star that stands still
-- The rules; symbols 2 and 3 are p and q, and 4 to 8 the labels.
rules : List Rule
rules = same_rules 0 4 2 ++ (test_rules diamond 5 4 6 ++ (join_rules diamond 6 7 5 ++ (same_rules 0 7 3 ++ same_rules 0 8 6)))

-- They are the translation's.
are_rules : each (count standing) (rules_at standing 2) ≡ rules
unfolding rules each kinds kind_of number_of columns_of names uses parent_in handed context_in rules_of rules_at test_rules join_rules
are_rules = refl

-- What they say of the seven cells of a filling.
abbrev Said : List ℕ → Type 0
Said f =
    let a : ℕ → ℕ = λ i. get_or f i 0 in
    (a 2 ≡ a 0) × (a 3 ≡ min (a 2) (a 4)) × (a 4 ≡ max (a 5) (a 3)) × (a 5 ≡ a 1) × (a 6 ≡ a 4)

module _ (f : List ℕ) (low : (i : ℕ) → get_or f i 0 ≤ 2) where
  abbrev cell : ℕ → ℕ → ℕ
  cell = cell_of 7 f

  -- At the one instant.
  kept : AllKept 1 cell rules 0 ↔ Said f
  unfolding rules joined gate literal plain symbol_value
  kept =
      let values : (k i : ℕ) → cell k i ≤ 2 = λ k i. low _ in
      let tests = test_says 1 cell values 0 diamond 5 4 6 (omega arith) (omega arith) in
      simp (append_kept, same_says 1 cell values, join_says 1 cell values, tests)
      (λ (a, (b, (c, (d, e)))). (a, b, c, d, e), λ (a, b, c, d, e). (a, (b, (c, (d, e)))))

  -- As the judge reads them.
  says : Meets standing 2 1 f ↔ Said f
  says = Iff.trans (all_hold 1 cell _) (rw are_rules (
    λ h. kept.0 (h 0 (omega arith)),
    λ h k l. let e : k ≡ 0 = omega arith in rw e (kept.1 h),
  ))

-- A list is its members, one after the other.
members : (f : List ℕ) → tabulate (length f) (λ i. get_or f i 0) ≡ f
members f = ext_get_or 0 _ f (length_tabulate _ _) (λ i l. get_d_tabulate _ _ i (rw length_tabulate at l))

-- A list that begins with a value and goes on with values.
low_cons : (a : ℕ) (xs : List ℕ) → a ≤ 2 → ((i : ℕ) → get_or xs i 0 ≤ 2) → (i : ℕ) → get_or (a ∷ xs) i 0 ≤ 2
low_cons a xs l h zero = l
low_cons a xs l h (suc i) = h i

-- The first two cells, at the one instant.
two_same : (W a b : ℕ) (f : List ℕ) (k i : ℕ) → k < 1 → i < 2 → cell_of W (a ∷ b ∷ f) k i ≡ cell_of 2 (a ∷ b ∷ []) k i
two_same W a b f zero zero l h = let e : W * 0 + 0 ≡ 0 = omega arith in rw e
two_same W a b f zero (suc zero) l h = let e : W * 0 + 1 ≡ 1 = omega arith in rw e
two_same W a b f zero (suc (suc i)) l h = absurd (omega arith)
two_same W a b f (suc k) i l h = absurd (omega arith)

-- The list with the value v is a filling.
filled : (v : ℕ) → v ≤ 2 → Filling 2 5 1 (2 ∷ 0 ∷ []) (standing_with v)
filled v b = record { size = refl; low = search (low_cons, zero-le, le_refl) depth 9; same = two_same 7 2 0 (2 ∷ v ∷ v ∷ 0 ∷ v ∷ []) }

-- A filling that meets the rules is one of these, and these meet them.
three : (f : List ℕ) → Filling 2 5 1 (2 ∷ 0 ∷ []) f → Meets standing 2 1 f ↔ ((v : ℕ) × (v ≤ 2) × (f ≡ standing_with v))
unfolding tabulate each
three f φ = (
  λ h.
      let (a, b, c, d, e) = (says f φ.low).0 h in
      let p : get_or f 0 0 ≡ 2 = φ.same 0 0 (omega arith) (omega arith) in
      let q : get_or f 1 0 ≡ 0 = φ.same 0 1 (omega arith) (omega arith) in
      let t : tabulate 7 (λ i. get_or f i 0) ≡ f = rw φ.size at (members f) in
      let r : get_or f 4 0 ≡ get_or f 3 0 = omega arith in
      (get_or f 3 0, φ.low 3, sym t ∙ cc),
  λ (v, b, e). (says f φ.low).1 (rw e (refl, omega arith, omega arith, refl, refl)),
)

pub standing_three : Standing
standing_three = record { three = three; filled = filled }

-- ---- the box test without its last rule
short_filled : Filling 2 4 1 (1 ∷ 1 ∷ []) short_h
short_filled =
    let one : 1 ≤ 2 = omega arith in
    record { size = refl; low = search (low_cons, zero-le) depth 9; same = two_same 6 1 1 (1 ∷ 1 ∷ 1 ∷ 1 ∷ []) }

pub box_test : BoxTest
unfolding open_all
box_test = record { due = refl; filled = short_filled; without = refl; with_it = refl }
