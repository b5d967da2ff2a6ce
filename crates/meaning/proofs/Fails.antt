-- Where a test holds or fails: a plain fact for each, so that a ground that does not apply becomes what it says by `simp tests`.
use Prim.Native.Nat.{ℕ, ◌<◌}
use mathlib.Core.Path.{◌≡◌, refl, sym}
use mathlib.Core.Bool.{Bool, true, false, not, ◌&&◌, ◌||◌, true≢false}
use mathlib.Core.Logic.{◌≢◌, ◌↔◌}
use lib.Dec.{leb, ltb, eqb}
use borrow.Author.Tests.{ltb-true, lt-ltb, leb-false, eqb-true, eqb-false, not-true, not-false, lt-leb, eq-eqb, ne_eqb}
use Rattle.meaning.specs.Record.{Sort, formula, path}
use Rattle.meaning.specs.Refusal.{differ}

-- Both of two.
pub and_holds : (a b : Bool) → ((a && b) ≡ true) ↔ ((a ≡ true) × (b ≡ true))
and_holds true b = (λ e. (refl, e), λ p. p.1)
and_holds false b = (λ e. absurd (true≢false (sym e)), λ p. p.0)

-- Neither of two.
pub or_fails : (a b : Bool) → ((a || b) ≡ false) ↔ ((a ≡ false) × (b ≡ false))
or_fails true b = (λ e. absurd (true≢false e), λ p. p.0)
or_fails false b = (λ e. (refl, e), λ p. p.1)

-- A negated one holds where the test fails, and fails where it holds.
pub not_holds : (b : Bool) → (not b ≡ true) ↔ (b ≡ false)
not_holds b = (not-true b, λ e. rw e)

pub not_fails : (b : Bool) → (not b ≡ false) ↔ (b ≡ true)
not_fails b = (not-false b, λ e. rw e)

-- Tests of numbers.
pub eqb_holds : (a b : ℕ) → (eqb a b ≡ true) ↔ (a ≡ b)
eqb_holds a b = (eqb-true a b, eq-eqb a b)

pub eqb_fails : (a b : ℕ) → (eqb a b ≡ false) ↔ (a ≢ b)
eqb_fails a b = (eqb-false a b, ne_eqb a b)

pub ltb_holds : (a b : ℕ) → (ltb a b ≡ true) ↔ (a < b)
ltb_holds a b = (ltb-true a b, lt-ltb a b)

pub leb_fails : (a b : ℕ) → (leb a b ≡ false) ↔ (b < a)
leb_fails a b = (leb-false a b, lt-leb a b)

-- The test of sorts.
pub differ_fails : (σ τ : Sort) → (differ σ τ ≡ false) ↔ (τ ≡ σ)
unfolding differ
differ_fails formula = elim [ formula ↦ (λ e. refl, λ e. refl) | path ↦ (λ e. absurd (true≢false e), λ e. cc) ]
differ_fails path = elim [ formula ↦ (λ e. absurd (true≢false e), λ e. cc) | path ↦ (λ e. refl, λ e. refl) ]

pub ruleset tests = (or_fails, not_fails, eqb_holds, eqb_fails, leb_fails, differ_fails)
