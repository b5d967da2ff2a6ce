-- Counts of places, up to two. A field adds one to the count of the record that it has as its child, and nothing to the
-- others. So the counts after a record more are those before with both fields added, and at the end a count is 1 exactly
-- where the record is the child of one place.
use Prim.Native.Nat.{ℕ, zero, suc, ◌+◌, ◌<◌, ◌≤◌, min}
use mathlib.Core.Path.{◌≡◌, refl, sym, ◌∙◌}
use mathlib.Core.List.{List, [], ◌∷◌, ◌++◌}
use native.Mathlib.Decide.{ℕ_discrete}
use native.Mathlib.Numerals.{add-one}
use native.Mathlib.Omega.{arith}
use borrow.Author.Tests.{eq-eqb, ne_eqb}
use mathlib.Core.Bool.{Bool, true, false, cond, not, ◌||◌}
use lib.Dec.{eqb, lit<}
use lib.ListN.{length, get_or, take, set, replicate, length-set, get_or-replicate}
use lib.Seq.{get_or-set_same, get_or-set_other}
use Rattle.meaning.specs.Record.{Sort, Use, unused, atomNumber, child, count, most_records, names, uses, places_in}
use Rattle.meaning.specs.Refusal.{Ground, ground, of_first, first_of, ground7}
use Rattle.meaning.specs.Run.{each}
use Rattle.std.specs.Prelude.{Result, Ok}
use Rattle.meaning.proofs.First.{Numbered, clear_skip, found_stop, none_clear, numbered_each}
use Rattle.std.specs.List.{list_any}
use Rattle.std.proofs.lemmas.List.Folds.{list_any_more}
use Rattle.refusals.specs.declared.Refusal.{Refusal}
use Rattle.refusals.specs.Refused.{refused}
use Rattle.checks.specs.Places.{field_grounds, Places, FieldTaken}
use Rattle.checks.proofs.Fields.{Read}

-- ---- what a field adds
names_other : (held : Use) (v i : ℕ) → (v ≡ i → ⊥) → names held v i ≡ 0
unfolding names
names_other unused v i h = refl
names_other atomNumber v i h = refl
names_other (child sort) v i h = rw (ne_eqb v i h)

names_one : (sort : Sort) (v : ℕ) → names (child sort) v v ≡ 1
unfolding names
names_one sort v = rw (eq-eqb v v refl)

-- ---- one field
module _ {s old : List ℕ} {A r v : ℕ} (size : length old ≡ most_records) where
  -- The counts stay, where there is a refusal or no child.
  pub kept : {held : Use} {answer : Result Unit Refusal} → refused answer ≡ first_of (field_grounds s A r held v)
      → (refused answer ≡ 0 → (i : ℕ) → names held v i ≡ 0) → FieldTaken s A r held v old old answer
  kept e none = record { refusal = e; size = size; counted = λ ok i h l. omega (arith, none ok i) }

  pub stored : {sort : Sort} {n : ℕ} → 0 ≡ first_of (field_grounds s A r (child sort) v) → v < most_records → n ≡ min 2 (get_or old v 0 + 1)
      → FieldTaken s A r (child sort) v old (set old v n) (Ok tt)
  stored {sort} {n} e w m = record {
    refusal = e;
    size = length-set old v n ∙ size;
    counted = λ ok i b l. go i l (ℕ_discrete v i);
  }
    where
      go : (i : ℕ) → get_or old i 0 ≤ 2 → Dec (v ≡ i) → get_or (set old v n) i 0 ≡ min 2 (get_or old i 0 + names (child sort) v i)
      go i l (yes q) = rw (← q, get_or-set_same old v n 0 (omega arith), names_one sort v) m
      go i l (no q) = rw (get_or-set_other old v i n 0 (λ z. q (sym z)), names_other (child sort) v i q) (omega arith)

-- ---- record after record
pub none : {s : List ℕ} → Places s 0 (replicate most_records 0)
unfolding places_in
none = record { size = refl; counted = λ i h. get_or-replicate most_records i 0 0 h }

pub more : {s old mid new : List ℕ} {A r a b : ℕ} {held_a held_b : Use} {x y : Result Unit Refusal} → Read s r held_a held_b a b
    → Places s r old → FieldTaken s A r held_a a old mid x → FieldTaken s A r held_b b mid new y → refused x ≡ 0 → refused y ≡ 0
    → Places s (r + 1) new
unfolding places_in uses
more read p first second none-a none-b = record {
  size = second.size;
  counted = λ i h.
      let before = p.counted i h in
      let one = simp (read.use_a_of, read.at_a) at (first.counted none-a i h (omega arith)) in
      let two = simp (read.use_b_of, read.at_b) at (second.counted none-b i h (omega arith)) in
      rw add-one (omega arith);
}

-- ---- ground 7, by the counts
once : (n k : ℕ) → n ≡ min 2 k → eqb n 1 ≡ eqb k 1
once n k e = elim (ℕ_discrete k 1) [
  | yes o ↦ rw (eq-eqb k 1 o) (eq-eqb n 1 (omega arith))
  | no m ↦ rw (ne_eqb k 1 m) (ne_eqb n 1 (λ z. m (omega arith)))
]

-- One more ground, of the same number.
one_more : (gs : List Ground) (a b : Bool) → Numbered gs → cond a 7 0 ≡ first_of gs → cond (a || b) 7 0 ≡ first_of (gs ++ (ground 7 b ∷ []))
unfolding of_first
one_more gs true b n e = e ∙ sym (found_stop gs _ (λ z. omega arith))
one_more gs false b n e = sym (clear_skip gs _ (none_clear gs n (sym e)))

-- It applies to the first n records where one of their counts is not 1.
pub by_counts : {s counts : List ℕ} (n : ℕ) → n ≤ most_records → Places s (count s) counts
    → cond (list_any (λ x. not (eqb x 1)) (take n counts)) 7 0 ≡ first_of (each n (λ q. ground7 s q ∷ []))
unfolding each of_first ground7
by_counts zero h p = refl
by_counts {s} {counts} (suc n) h p =
    let counted = rw add-one at (list_any_more (λ x. not (eqb x 1)) counts n 0 (omega (arith, p.size))) in
    rw (counted, once _ _ (p.counted n (omega arith))) (one_more _ _ _ (numbered_each _ n (λ q. (lit< tt, tt))) (by_counts n (omega arith) p))
