-- Lists stored one after another. What is stored after a list follows it, and the two are one list that was stored. So
-- follow the words of rows, the rules of records, the signs of a text.
use Prim.Native.Nat.{ℕ, ◌+◌, ◌≤◌}
use mathlib.Core.Path.{◌≡◌, refl, ap, ◌∙◌}
use mathlib.Core.List.{List, [], ◌∷◌, ◌++◌}
use native.Mathlib.Omega.{arith}
use lib.ListN.{length, set, length-append}
use lib.Seq.{length-sets}
use Rattle.meaning.specs.Run.{each, written}
use Rattle.meaning.proofs.{Runs.each_more, Stores.sets_append, Stores.sets_written}
use Rattle.copying.specs.Appended.{Appended}

module _ {old t mid : List ℕ} {at e : ℕ} (p : Appended old at t e mid) where
  pub append_length : length mid ≡ length old
  append_length = ap length p.whole ∙ length-sets old at t

  pub append_more : {u new : List ℕ} {f : ℕ} → Appended mid e u f new → Appended old at (t ++ u) f new
  append_more {u} q = record {
    place = rw length-append (omega (arith, p.place, q.place));
    whole = q.whole ∙ rw (p.place, p.whole) (sets_append t u old at);
  }

-- ---- lists laid out by a rule
module _ (f : ℕ → List ℕ) where
  pub append_none : (old : List ℕ) (at : ℕ) → Appended old at (each 0 f) at old
  unfolding each
  append_none old at = record { place = omega arith; whole = refl }

  pub append_next : {old mid new : List ℕ} {at e e' : ℕ} (j : ℕ) → Appended old at (each j f) e mid → Appended mid e (f j) e' new
      → Appended old at (each (j + 1) f) e' new
  append_next j p q = rw each_more (append_more p q)

-- ---- at the start
pub append_written : {old t new : List ℕ} {e : ℕ} → Appended old 0 t e new → e ≤ length old → (e ≡ length t) × (new ≡ written t old)
append_written {old} {t} p h = (omega (arith, p.place), p.whole ∙ sets_written t old (omega (arith, p.place)))
