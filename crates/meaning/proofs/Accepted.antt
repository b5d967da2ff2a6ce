-- Refusal 0 means a tree. The first ground's number is 0 only where no ground applies; and a ground is a test, or several joined,
-- that fails exactly where a plain fact about the records holds. So no ground applies exactly where all these facts hold.
use Prim.Native.Nat.{ℕ, ◌*◌, ◌<◌, ◌≤◌}
use mathlib.Core.Path.{◌≡◌, refl}
use mathlib.Core.Bool.{true, false}
use mathlib.Core.Logic.{◌↔◌}
use mathlib.Core.List.{List, [], ◌∷◌}
use native.Mathlib.Omega.{arith}
use lib.ListN.{length}
use Rattle.meaning.specs.Record.{Language, core, record_size, most_records, count, kind_at, zero_byte, field_a, field_b, known}
use Rattle.meaning.specs.Record.{Use, unused, atomNumber, child, use_a, use_b}
use Rattle.meaning.specs.Refusal.{first_of, record_grounds, tree_grounds, star_grounds, formula_grounds, check_grounds, starred_grounds, stray, late, beyond, misfit}
use Rattle.meaning.specs.Refusal.{ground1, ground2, ground3, ground4, ground5, ground6, ground6_last, ground7, ground8, ground11, ground12}
use Rattle.meaning.specs.WellFormed.{Fits, WellFormed}
use Rattle.meaning.specs.Service.{check_answer}
use Rattle.meaning.proofs.Fails.{tests}
use Rattle.meaning.proofs.Refusing.{tree_ordered, atoms_ordered, starred_ordered}
use Rattle.meaning.proofs.First.{Clear, Numbered, clear_none, none_clear, clear_append, clear_each, each_clears}

-- ---- where a ground does not apply
-- 1: the bytes are whole records, at least one and not too many.
pub ground1_fails : (s : List ℕ)
    → ((ground1 s).applies ≡ false) ↔ ((length s ≡ record_size * count s) × (0 < count s) × (count s ≤ most_records))
unfolding ground1
ground1_fails s = simp tests (omega arith)

module _ (ℓ : Language) (s : List ℕ) (A : ℕ) where
  module _ (r : ℕ) where
    -- 3 to 6 for one field, by what it holds: v is what may stand there.
    field_fits : (u : Use) (v : ℕ)
        → ((stray u v ≡ false) × (late u v r ≡ false) × (beyond u v A ≡ false) × (misfit s u v ≡ false)) ↔ Fits s A r u v
    unfolding stray late beyond misfit
    field_fits unused v = simp tests (λ h. h.0, λ h. (h, refl, refl, refl))
    field_fits atomNumber v = simp tests (λ h. h.2, λ h. (refl, refl, h, refl))
    field_fits (child σ) v = simp tests (λ h. (h.1, h.3), λ h. (refl, h.0, refl, h.1))

    -- What is asked of one record: its kind, its zero byte, its two fields.
    abbrev pub Sound : Type 0
    Sound =
        (known ℓ (kind_at s r) ≡ true) × (zero_byte s r ≡ 0)
        × Fits s A r (use_a (kind_at s r)) (field_a s r) × Fits s A r (use_b (kind_at s r)) (field_b s r)

    -- 2 to 6 for one record.
    record_clears : Clear (record_grounds ℓ s A r) ↔ Sound
    unfolding record_grounds ground2 ground3 ground4 ground5 ground6
    record_clears = simp tests (
      λ (k, (((z, sa), sb), ((la, lb), ((ba, bb), ((ma, mb), u))))).
          (k, z, (field_fits _ _).0 (sa, la, ba, ma), (field_fits _ _).0 (sb, lb, bb, mb)),
      λ (k, z, a, b).
          let (sa, la, ba, ma) = (field_fits _ _).1 a in
          let (sb, lb, bb, mb) = (field_fits _ _).1 b in
          (k, (((z, sa), sb), ((la, lb), ((ba, bb), ((ma, mb), tt))))),
    )

  -- All of them: the records are a tree.
  pub clear_well_formed : Clear (formula_grounds ℓ s A) ↔ WellFormed ℓ s A
  unfolding tree_grounds ground8 ground6_last ground7
  clear_well_formed = simp (clear_append, each_clears, ground1_fails, record_clears, tests) (
    λ ((w, m, f), (a, (h, (l, o)))). record {
      whole = w;
      some = m;
      few = f;
      atoms = omega arith;
      kinds = λ r b. (h r b).0;
      zeros = λ r b. (h r b).1;
      first = λ r b. (h r b).2;
      second = λ r b. (h r b).3;
      last = l;
      once = λ r b. (o r (omega arith)).0;
    },
    λ w.
        let h : (r : ℕ) → r < count s → Sound r = λ r b. (w.kinds r b, w.zeros r b, w.first r b, w.second r b) in
        ((w.whole, w.some, w.few), (omega arith, (h, (w.last, λ r b. (w.once r (omega arith), tt))))),
  )

  -- ---- where the number is 0
  -- Each ground of a tree has a number above 0.
  pub tree_numbered : Numbered (tree_grounds ℓ s A)
  tree_numbered = (tree_ordered ℓ s A).numbered

  -- So the first number is 0 where the records are a tree, and only there.
  pub accepted : (first_of (formula_grounds ℓ s A) ≡ 0) ↔ WellFormed ℓ s A
  accepted =
      (λ e. clear_well_formed.0 (none_clear _ (atoms_ordered s A ℓ).numbered e), λ w. clear_none _ (clear_well_formed.1 w))

-- Check takes the core kinds alone.
pub check_accepts : (s : List ℕ) (A : ℕ) → (check_answer s A ≡ 0) ↔ WellFormed core s A
unfolding check_answer check_grounds
check_accepts = accepted core

-- ---- with the stars' grounds
-- Each has a number above 0.
pub starred_numbered : (s : List ℕ) (A : ℕ) → Numbered (starred_grounds s A)
starred_numbered s A = (starred_ordered s A).numbered

module _ (s : List ℕ) (A : ℕ) (e : first_of (starred_grounds s A) ≡ 0) where
  -- So where the first number is 0, none applies, of check and of the stars:
  both_clear : Clear (check_grounds s A) × Clear (star_grounds s)
  both_clear = (clear_append (check_grounds s A) (star_grounds s)).0 (none_clear (starred_grounds s A) (starred_numbered s A) e)

  -- the records are a tree,
  pub starred_formed : WellFormed core s A
  unfolding check_grounds
  starred_formed = (clear_well_formed core s A).0 both_clear.0

  -- and no star is refused.
  pub stars_clear : (r : ℕ) → r < count s → Clear (ground12 s r ∷ ground11 s r ∷ [])
  unfolding star_grounds
  stars_clear = clear_each _ (count s) both_clear.1

  pub starred_clear : Clear (starred_grounds s A)
  starred_clear = (clear_append (check_grounds s A) (star_grounds s)).1 both_clear
