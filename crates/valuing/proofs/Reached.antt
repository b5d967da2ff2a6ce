-- Every record is under the last one. A record before the last is the child of one place, so it has a parent, which is
-- later; going from parent to parent one comes to the last record, and the way back goes down the tree.
use Prim.Native.Nat.{ℕ, zero, suc, pred, ◌+◌, ◌<◌, ◌≤◌}
use mathlib.Core.Path.{◌≡◌}
use mathlib.Core.List.{List}
use mathlib.Core.Logic.{◌⊎◌, inl, inr}
use native.Mathlib.Omega.{arith}
use Rattle.meaning.specs.Record.{Language, count, parent}
use Rattle.meaning.specs.WellFormed.{WellFormed}
use Rattle.meaning.proofs.Bounds.{le_or_lt}
use Rattle.meaning.proofs.Parents.{InFirst, InSecond, used_in, has_parent, child_earlier}
use Rattle.valuing.specs.Valuing.{Under, itself, first, second}

under_trans : {s : List ℕ} {r q p : ℕ} → Under s r q → Under s q p → Under s r p
under_trans itself v = v
under_trans (first σ e u) v = first σ e (under_trans u v)
under_trans (second σ e u) v = second σ e (under_trans u v)

-- A record that names another has it under it.
named_under : (s : List ℕ) (q p : ℕ) → InFirst s q p ⊎ InSecond s q p → Under s p q
named_under s q p (inl (σ, e, f)) = first {q = q} σ e (rw f itself)
named_under s q p (inr (σ, e, f)) = second {q = q} σ e (rw f itself)

module _ {ℓ : Language} {s : List ℕ} {A : ℕ} (w : WellFormed ℓ s A) where
  -- In n steps from parent to parent.
  climb : (m q : ℕ) → q < count s → count s ≤ q + m → Under s (pred (count s)) q
  climb zero q l h = absurd (omega arith)
  climb (suc m) q l h = elim (le_or_lt (count s) (suc q)) [
    | inl e ↦ let z : pred (count s) ≡ q = omega arith in rw z itself
    | inr o ↦
        let p = parent s q in
        let (pl, u) = has_parent w q o in
        let later = child_earlier w q p pl u in
        under_trans (climb m p pl (omega arith)) (named_under s q p (used_in s q p u))
  ]

  pub all_under : (q : ℕ) → q < count s → Under s (pred (count s)) q
  all_under q l = climb (count s) q l (omega arith)
