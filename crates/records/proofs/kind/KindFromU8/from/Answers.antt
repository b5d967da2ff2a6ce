-- At a kind's number the definition's table computes to the kind; no other number is a kind's.
use Rattle.std.proofs.Common.{◌≡◌, ℕ, ◌<◌, ◌≤◌, refl, inl, inr, arith}
use Rattle.meaning.specs.Record.{kind_of, kinds, unknown}
use Rattle.meaning.proofs.Bounds.{le_or_lt}
use Rattle.records.proofs.Ranges.{stretch, onward}
use Rattle.records.proofs.kind.KindFromU8.from.Goals as goal

no_kind : (n : ℕ) → (n < 11 → ⊥) → (32 ≤ n → n < 48 → ⊥) → unknown ≡ kind_of n
unfolding kinds
no_kind n core shorthands = elim (le_or_lt 32 n) [
  | inl h ↦ onward (λ κ. κ) 48 0 refl n (elim (le_or_lt 48 n) [ inl m ↦ m | inr l ↦ absurd (shorthands h l) ])
  | inr l ↦ stretch (λ κ. κ) unknown 11 21 refl n (elim (le_or_lt 11 n) [ inl m ↦ m | inr k ↦ absurd (core k) ]) l
]

pub returns-in_default : goal.returns-in_default
returns-in_default c = no_kind _ (λ l. omega arith) (λ h l. omega arith)
