-- The implication is the right adjoint of the smaller of two: t is at most the implication of v by u exactly if the
-- smaller of t and u is at most v. Either u ≤ v, and both hold of every value t; or v < u, and both say that t ≤ v.
use Prim.Native.Nat.{ℕ, zero, suc, ◌-◌, ◌*◌, ◌≤◌, ◌<◌, min}
use mathlib.Core.Path.{◌≡◌, refl}
use mathlib.Core.Logic.{◌↔◌, ◌⊎◌, inl, inr}
use native.Mathlib.Omega.{arith}
use borrow.Author.Tests.{le-leb, lt-leb, ne_eqb}
use Rattle.meaning.specs.Three.{imp, negation}
use Rattle.meaning.proofs.Bounds.{le_or_lt}

-- An implication by comparing its two sides.
pub by_comparison : (u v : ℕ) → ((u ≤ v) × (imp u v ≡ 2)) ⊎ ((v < u) × (imp u v ≡ v))
unfolding imp
by_comparison u v = elim (le_or_lt u v) [ inl l ↦ inl (l, rw (le-leb u v l)) | inr l ↦ inr (l, rw (lt-leb u v l)) ]

-- From t at most the implication, and the premise, the conclusion.
pub imp_elim : (t u v : ℕ) → t ≤ imp u v → min t u ≤ v
imp_elim t u v h = elim (by_comparison u v) [ inl c ↦ omega arith | inr c ↦ omega arith ]

-- A value that gives the conclusion with the premise is at most the implication.
pub imp_intro : (t u v : ℕ) → t ≤ 2 → min t u ≤ v → t ≤ imp u v
imp_intro t u v b h = elim (by_comparison u v) [ inl c ↦ omega arith | inr c ↦ omega arith ]

-- An implication of a value is a value.
pub imp_bound : (u v : ℕ) → v ≤ 2 → imp u v ≤ 2
imp_bound u v b = elim (by_comparison u v) [ inl c ↦ omega arith | inr c ↦ omega arith ]

-- A premise that holds leaves the conclusion.
pub imp_two : (v : ℕ) → v ≤ 2 → imp 2 v ≡ v
imp_two v b = elim (by_comparison 2 v) [ inl c ↦ omega arith | inr c ↦ omega arith ]

-- An implication holds exactly where its premise is at most its conclusion.
pub imp_is_two : (u v : ℕ) → u ≤ 2 → (imp u v ≡ 2) ↔ (u ≤ v)
imp_is_two u v b = elim (by_comparison u v) [ inl c ↦ (omega arith, omega arith) | inr c ↦ (omega arith, omega arith) ]

-- The negation of a value, as a difference.
pub negation_value : (u : ℕ) → negation u ≡ 2 - 2 * u
unfolding negation
negation_value zero = refl
negation_value (suc u) = rw (ne_eqb (suc u) 0 (omega arith)) (omega arith)
