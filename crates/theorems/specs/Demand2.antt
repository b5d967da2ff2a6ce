-- Demand 2: each formula's value at each instant is the one that the three-valued reading gives; and the judge's answer is what it says.
use Rattle.std.specs.Prelude.{ℕ, ◌<◌, ◌≤◌, ◌≡◌, List, [], length}
use Rattle.meaning.specs.Run.{cell_of}
use Rattle.meaning.specs.Three.{imp}
use Rattle.meaning.specs.Value.{passes, value_of, square_of}
use Rattle.meaning.specs.Reading.{Reading}
use Rattle.meaning.specs.Rule.{rule_at}
use Rattle.meaning.specs.Judge.{FirstFailure}
use Rattle.meaning.specs.Service.{value_answer, value_after, judge_answer}
use Rattle.meaning.specs.Outcome.{RowsAre, VerdictIs, RulesRead}

pub record Demand2 : Type 0 where
  -- An implication is worth 2 where its premise is worth no more than its conclusion, and else what the conclusion is worth.
  pub implied : (u v : ℕ) → (u ≤ v → imp u v ≡ 2) × (v < u → imp u v ≡ v)
  -- Every trace of values has a reading: loops that stand still or turn round included.
  pub read : (L : ℕ) (cell : ℕ → ℕ → ℕ) → ((k i : ℕ) → k < L → cell k i ≤ 2)
      → Reading L cell (value_of L cell) (square_of L cell) (λ p. passes L (square_of L cell p))
  -- Where valuing refuses nothing, its table has each formula's values, by whatever reading, and 0 for paths; its answer is the first
  -- value of the last row.
  pub valued : (s : List ℕ) (A L : ℕ) (cells out : List ℕ) → (value_answer s A L cells (length out)).refusal ≡ 0
      → RowsAre s A L cells (value_after s A L cells out) (value_answer s A L cells (length out)).value
  -- Rules read as the specification says, and where the judge refuses nothing, a yes means that every rule holds at all its instants;
  -- a no names the first that fails.
  pub ruled : (L : ℕ) (cell : ℕ → ℕ → ℕ) → ((k i : ℕ) → cell k i ≤ 2) → RulesRead L cell
  pub judged : (ws : List ℕ) (W L : ℕ) (cells : List ℕ) → (judge_answer ws W L cells).refusal ≡ 0
      → VerdictIs ws L (cell_of W cells) (judge_answer ws W L cells)
  -- No rules: yes. At L = 1 a rule of place 2 never fails.
  pub no_rules : (W L : ℕ) (cells : List ℕ) → (judge_answer [] W L cells).refusal ≡ 0 → (judge_answer [] W L cells).holds ≡ 1
  pub one_instant : (ws : List ℕ) (cell : ℕ → ℕ → ℕ) (i k : ℕ) → (rule_at ws i).place ≡ 2 → FirstFailure ws 1 cell i k → ⊥
