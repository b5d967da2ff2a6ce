-- What a literal is worth, by its marks: the marks are two binary digits above those of the symbol. And over cells that are values, 0 to 2,
-- all literals have values; so a rule holds exactly where its body is worth no more than its head.
use Prim.Native.Nat.{ℕ, suc, pred, ◌+◌, ◌*◌, ◌/◌, ◌%◌, ◌<◌, zero, ◌≤◌, zero-le}
use mathlib.Core.Path.{◌≡◌}
use mathlib.Core.Bool.{true}
use mathlib.Core.Logic.{◌↔◌}
use native.Mathlib.Omega.{arith}
use native.Mathlib.Nat.{le_refl}
use lib.Dec.{eqb}
use Rattle.meaning.specs.Three.{negation}
use Rattle.meaning.specs.Rule.{previously, negated, symbol_value, plain, literal, Rule, symbol_of, is_negated, body_value, head_value, holds}
use Rattle.meaning.specs.Translation.{atom_symbol}
use Rattle.meaning.proofs.Bounds.{cond_within}
use Rattle.meaning.proofs.Fails.{eqb_holds}
use Rattle.meaning.proofs.Implication.{imp_is_two}

-- ---- marks
-- A symbol x with the marks d, read back.
pub marks : (w x d : ℕ) → x < 16_384 → w ≡ x + 16_384 * d → (w % 16_384 ≡ x) × (w / 16_384 ≡ d) × (w / 32_768 ≡ d / 2)
marks w x d l e = (omega arith, omega arith, omega arith)

module _ (cell : ℕ → ℕ → ℕ) where
  -- A symbol without marks.
  literal_plain : (x k : ℕ) → x < 16_384 → literal cell x k ≡ symbol_value cell x k
  unfolding literal plain
  literal_plain x k h = let (e, p, n) = marks x x 0 h (omega arith) in rw (p, n, e)

  -- With the mark for the previous instant.
  pub literal_previous : (x k : ℕ) → x < 16_384 → literal cell (previously x) k ≡ literal cell x (pred k)
  unfolding literal plain
  literal_previous x k h = let (e, p, n) = marks (previously x) x 1 h (omega arith) in rw (p, n, e, literal_plain x (pred k))

  -- With the mark for negation.
  pub literal_negated : (x k : ℕ) → x < 16_384 → literal cell (negated x) k ≡ negation (literal cell x k)
  unfolding literal plain
  literal_negated x k h = let (e, p, n) = marks (negated x) x 2 h (omega arith) in rw (p, n, e, literal_plain x k)

  -- The symbols of false and true.
  pub literal_false : (k : ℕ) → literal cell 0 k ≡ 0
  unfolding symbol_value
  literal_false k = literal_plain 0 k (omega arith)

  pub literal_true : (k : ℕ) → literal cell 1 k ≡ 2
  unfolding symbol_value
  literal_true k = literal_plain 1 k (omega arith)

  -- The symbol of a column.
  pub literal_column : (i k : ℕ) → i < 16_000 → literal cell (atom_symbol i) k ≡ cell k i
  unfolding symbol_value
  literal_column i k h =
      let e : 2 + i ≡ suc (suc i) = omega arith in
      rw (literal_plain (2 + i) k (omega arith), e)

-- ---- rules
module _ (cell : ℕ → ℕ → ℕ) (low : (k i : ℕ) → cell k i ≤ 2) where
  -- A symbol has a value.
  symbol_low : (x k : ℕ) → symbol_value cell x k ≤ 2
  unfolding symbol_value
  symbol_low zero k = zero-le
  symbol_low (suc zero) k = le_refl 2
  symbol_low (suc (suc i)) k = low k i

  -- So has a negation.
  negation_low : (u : ℕ) → negation u ≤ 2
  unfolding negation
  negation_low u = cond_within (eqb u 0) (le_refl 2) zero-le

  -- So has a literal.
  pub literal_low : (w k : ℕ) → literal cell w k ≤ 2
  unfolding literal plain
  literal_low w k = cond_within (is_negated w) (negation_low (plain cell w k)) (symbol_low (symbol_of w) _)

  -- When a rule holds.
  pub rule_holds : (ρ : Rule) (k : ℕ) → (holds cell ρ k ≡ true) ↔ (body_value cell ρ k ≤ head_value cell ρ k)
  unfolding holds body_value
  rule_holds ρ k = simp eqb_holds (imp_is_two _ _ (omega (arith, literal_low ρ.body1 k)))
