-- The grounds of records as a scan meets them. Every number is above 0, so a result of 0 says that no ground applies.
-- After clear records comes the last record's sort, and after that the places: what is found first is the number of
-- the whole list.
use Prim.Native.Nat.{ℕ, pred, ◌-◌}
use mathlib.Core.Path.{◌≡◌, sym, ap, ◌∙◌}
use mathlib.Core.List.{List, [], ◌∷◌}
use native.Mathlib.Numerals.{sub-one}
use lib.Dec.{lit<}
use Rattle.meaning.specs.Run.{each}
use Rattle.meaning.specs.Record.{Language, formula, path, sort_of, kind_at, count}
use Rattle.meaning.specs.Refusal.{differ, of_first, first_of, ground2, ground3, ground4, ground5, ground6, ground6_last, ground7, record_grounds, tree_grounds}
use Rattle.std.specs.Prelude.{Result, Ok, Err}
use Rattle.std.specs.Result.{IsErrAnd}
use Rattle.refusals.specs.declared.Refusal.{Refusal}
use Rattle.meaning.proofs.First.{Numbered, none_clear, clear_skip, found_stop, numbered_each}

pub record_numbered : (ℓ : Language) (s : List ℕ) (A r : ℕ) → Numbered (record_grounds ℓ s A r)
unfolding record_grounds ground2 ground3 ground4 ground5 ground6
record_numbered ℓ s A r = (lit< tt, (lit< tt, (lit< tt, (lit< tt, (lit< tt, tt)))))

-- ---- what `?` returns
pub handed_on : (answer : Result Unit Refusal) (r : Refusal) → IsErrAnd answer (λ e. e ≡ r) → answer ≡ Err r
handed_on (Ok x) r e = absurd e
handed_on (Err q) r e = ap Err e

-- ---- all records
module _ (ℓ : Language) (s : List ℕ) (A : ℕ) where
  pub tree_record : {x : ℕ} → x ≡ first_of (each (count s) (record_grounds ℓ s A)) → (x ≡ 0 → ⊥)
      → x ≡ first_of (tree_grounds ℓ s A)
  unfolding tree_grounds
  tree_record e q = e ∙ sym (found_stop _ _ (λ z. q (e ∙ z)))

  -- After clear records, the last record's sort decides, and then the places.
  module _ (none : first_of (each (count s) (record_grounds ℓ s A)) ≡ 0) where
    pub by_formula : formula ≡ sort_of (kind_at s (count s - 1)) → first_of (each (pred (count s)) (λ r. ground7 s r ∷ [])) ≡ first_of (tree_grounds ℓ s A)
    unfolding tree_grounds of_first ground6_last differ
    by_formula e = rw (clear_skip _ _ (none_clear _ (numbered_each _ (count s) (record_numbered ℓ s A)) none)) (rw (← sub-one, ← e))

    pub by_path : path ≡ sort_of (kind_at s (count s - 1)) → 6 ≡ first_of (tree_grounds ℓ s A)
    unfolding tree_grounds of_first ground6_last differ
    by_path e = rw (clear_skip _ _ (none_clear _ (numbered_each _ (count s) (record_numbered ℓ s A)) none)) (rw (← sub-one, ← e))
