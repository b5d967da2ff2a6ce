-- One pass over the records: what the code finds at a field, at a record and at the first of them, and the counts of places that
-- it keeps on the way.
--   field_grounds s A r held v      the conditions 3 to 6 on one field of record r, which holds that and has v in it
--   fields_grounds s A r            those on both
--   sooner x y                      of two refusals' numbers the lesser one; 0 is none
--   Places s m counts               count i is in how many places of the first m records record i is the child, two or more where it says 2
--   FieldTaken s A r held v old new answer   the answer is the field's first refusal; where there is none, the field's child is counted
--   Taken gs s m counts answer      the answer is the first of the refusals gs; where there is none, the counts are those of the first m records
use Rattle.std.specs.Prelude.{ℕ, ◌+◌, ◌<◌, ◌≤◌, min, ◌≡◌, cond, ◌||◌, List, [], ◌∷◌, eqb, length, get_or, Result}
use Rattle.meaning.specs.Record.{Use, most_records, kind_at, use_a, use_b, field_a, field_b, names, places_in}
use Rattle.meaning.specs.Refusal.{Ground, ground, first_of, stray, late, beyond, misfit, ground4, ground5, ground6}
use Rattle.refusals.specs.declared.Refusal.{Refusal}
use Rattle.refusals.specs.Refused.{refused}

unfoldable pub field_grounds : List ℕ → ℕ → ℕ → Use → ℕ → List Ground
field_grounds s A r held v =
    ground 3 (stray held v) ∷ ground 4 (late held v r) ∷ ground 5 (beyond held v A) ∷ ground 6 (misfit s held v) ∷ []

unfoldable pub fields_grounds : List ℕ → ℕ → ℕ → List Ground
fields_grounds s A r =
    ground 3 (stray (use_a (kind_at s r)) (field_a s r) || stray (use_b (kind_at s r)) (field_b s r)) ∷ ground4 s r ∷ ground5 s A r ∷ ground6 s r ∷ []

abbrev pub sooner : ℕ → ℕ → ℕ
sooner x y = cond (eqb x 0) y (cond (eqb y 0) x (min x y))

pub record Places (s : List ℕ) (m : ℕ) (counts : List ℕ) : Type 0 where
  pub size : length counts ≡ most_records
  pub counted : (i : ℕ) → i < most_records → get_or counts i 0 ≡ min 2 (places_in s i m)

pub record FieldTaken (s : List ℕ) (A r : ℕ) (held : Use) (v : ℕ) (old new : List ℕ) (answer : Result Unit Refusal) : Type 0 where
  pub refusal : refused answer ≡ first_of (field_grounds s A r held v)
  pub size : length new ≡ most_records
  pub counted : refused answer ≡ 0 → (i : ℕ) → i < most_records → get_or old i 0 ≤ 2
      → get_or new i 0 ≡ min 2 (get_or old i 0 + names held v i)

pub record Taken (gs : List Ground) (s : List ℕ) (m : ℕ) (counts : List ℕ) (answer : Result Unit Refusal) : Type 0 where
  pub refusal : refused answer ≡ first_of gs
  pub places : refused answer ≡ 0 → Places s m counts
