-- Specification, Judging: the first rule that fails, and its first failing instant.
--   failures ws L cell    the pairs of a rule and one of its instants where it fails, rules in order, instants in order
--   verdict ..            yes, or the first of these pairs
--   AllHold ..            every rule holds at all its instants: what a yes means (proofs/Judging)
--   FirstFailure .. i k   rule i is the first that fails, and k its first failing instant: what a no means
use Rattle.std.specs.Prelude.{ℕ, ◌/◌, ◌<◌, ◌≡◌, Bool, true, false, cond, not, ◌&&◌, List, [], ◌∷◌, length}
use Rattle.meaning.specs.Run.{each}
use Rattle.meaning.specs.Rule.{Rule, rule_at, rule_size, placed, holds}

pub data Verdict : Type 0 where
  yes : Verdict
  no : ℕ → ℕ → Verdict

abbrev pub rule_count : List ℕ → ℕ
rule_count ws = length ws / rule_size

unfoldable pub fails_at : ℕ → (ℕ → ℕ → ℕ) → Rule → ℕ → Bool
fails_at L cell ρ k = placed L ρ.place k && not (holds cell ρ k)

unfoldable pub failures : List ℕ → ℕ → (ℕ → ℕ → ℕ) → List Verdict
failures ws L cell = each (rule_count ws) (λ i. each L (λ k. cond (fails_at L cell (rule_at ws i) k) (Verdict.no i k ∷ []) []))

unfoldable pub first_failure : List Verdict → Verdict
first_failure [] = Verdict.yes
first_failure (v ∷ vs) = v

unfoldable pub verdict : List ℕ → ℕ → (ℕ → ℕ → ℕ) → Verdict
verdict ws L cell = first_failure (failures ws L cell)

-- ---- what a verdict means
abbrev pub HoldsAt : List ℕ → ℕ → (ℕ → ℕ → ℕ) → ℕ → ℕ → Type 0
HoldsAt ws L cell i k = placed L (rule_at ws i).place k ≡ true → holds cell (rule_at ws i) k ≡ true

abbrev pub AllHold : List ℕ → ℕ → (ℕ → ℕ → ℕ) → Type 0
AllHold ws L cell = (i k : ℕ) → i < rule_count ws → k < L → HoldsAt ws L cell i k

pub record FirstFailure (ws : List ℕ) (L : ℕ) (cell : ℕ → ℕ → ℕ) (i k : ℕ) : Type 0 where
  pub rule : i < rule_count ws
  pub instant : k < L
  pub placed_there : placed L (rule_at ws i).place k ≡ true
  pub fails_there : holds cell (rule_at ws i) k ≡ false
  pub rules_before : (q j : ℕ) → q < i → j < L → HoldsAt ws L cell q j
  pub instants_before : (j : ℕ) → j < k → HoldsAt ws L cell i j
