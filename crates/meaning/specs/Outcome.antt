-- Specification: what a call answers and leaves, in plain facts.
--   Answered ..     of a service that lends a buffer: its refusal and its other number, how much it writes, the buffer before and after
--   RowsAre ..      of valuing: the table that it leaves, and its answer
--   VerdictIs ..    of the judge: its answer
--   RulesRead ..    of rules: their places, their literals, and when they hold
use Rattle.std.specs.Prelude.{ℕ, suc, pred, ◌+◌, ◌*◌, ◌≤◌, ◌<◌, min, max, ◌≡◌, true, ◌↔◌, ◌≢◌, List, length, get_or}
use Rattle.meaning.specs.Run.{cell_of}
use Rattle.meaning.specs.Record.{count, kind_at, sort_of, formula, path}
use Rattle.meaning.specs.Formula.{Form, Path}
use Rattle.meaning.specs.Tree.{form_at}
use Rattle.meaning.specs.Value.{Row, Square}
use Rattle.meaning.specs.Reading.{Reading}
use Rattle.meaning.specs.Rule.{Rule, placed, previously, negated, literal, holds}
use Rattle.meaning.specs.Judge.{AllHold, FirstFailure}
use Rattle.meaning.specs.Service.{Judged}
use Rattle.meaning.specs.Reason.{Reason, First}

pub record Answered (Refused : Reason → Type 0) (refusal other size : ℕ) (before after : List ℕ) : Type 0 where
  -- A refusal is the first reason's number; the other number is 0, and the buffer is as it was.
  pub first : First Refused refusal
  pub no_number : refusal ≢ 0 → other ≡ 0
  pub untouched : refusal ≢ 0 → after ≡ before
  -- Where nothing is refused, the buffer is as it was past what is written.
  pub as_long : length after ≡ length before
  pub rest : refusal ≡ 0 → (i : ℕ) → size ≤ i → get_or after i 0 ≡ get_or before i 0

-- A formula's row has its values, by whatever reading of the specification; a path's row is 0; the answer is the last row's first value.
pub record RowsAre (s : List ℕ) (A L : ℕ) (cells table : List ℕ) (answer : ℕ) : Type 0 where
  pub formulas : (value : Form → Row) (square : Path → Square) (pass : Path → ℕ → Square)
      → Reading L (cell_of A cells) value square pass
      → (r k : ℕ) → r < count s → k < L → sort_of (kind_at s r) ≡ formula → get_or table (r * L + k) 0 ≡ value (form_at s r) k
  pub paths : (r k : ℕ) → r < count s → k < L → sort_of (kind_at s r) ≡ path → get_or table (r * L + k) 0 ≡ 0
  pub whole : answer ≡ get_or table (pred (count s) * L) 0

-- A yes means that every rule holds at all its instants; a no names the first rule that fails and its first failing instant.
pub record VerdictIs (ws : List ℕ) (L : ℕ) (cell : ℕ → ℕ → ℕ) (answer : Judged) : Type 0 where
  pub yes : (answer.holds ≡ 1) ↔ AllHold ws L cell
  pub yes_numbers : answer.holds ≡ 1 → (answer.rule ≡ 0) × (answer.instant ≡ 0)
  pub no : answer.holds ≢ 1 → (answer.holds ≡ 0) × FirstFailure ws L cell answer.rule answer.instant

-- Over cells that are values.
pub record RulesRead (L : ℕ) (cell : ℕ → ℕ → ℕ) : Type 0 where
  pub every_instant : (k : ℕ) → placed L 0 k ≡ true
  pub first_instant : (k : ℕ) → (placed L 1 k ≡ true) ↔ (k ≡ 0)
  pub later_instants : (k : ℕ) → (placed L 2 k ≡ true) ↔ (0 < k)
  pub last_instant : (k : ℕ) → (placed L 3 k ≡ true) ↔ (suc k ≡ L)
  pub false_symbol : (k : ℕ) → literal cell 0 k ≡ 0
  pub true_symbol : (k : ℕ) → literal cell 1 k ≡ 2
  pub column : (i k : ℕ) → i < 16_000 → literal cell (2 + i) k ≡ cell k i
  pub previous : (x k : ℕ) → x < 16_384 → literal cell (previously x) k ≡ literal cell x (pred k)
  pub negation : (x k : ℕ) → x < 16_384
      → (literal cell x k ≡ 0 → literal cell (negated x) k ≡ 2) × (literal cell x k ≢ 0 → literal cell (negated x) k ≡ 0)
  -- The body is worth no more than the head.
  pub hold : (ρ : Rule) (k : ℕ) → (holds cell ρ k ≡ true)
      ↔ (min (literal cell ρ.body1 k) (literal cell ρ.body2 k)
      ≤ max (max (literal cell ρ.head1 k) (literal cell ρ.head2 k)) (literal cell ρ.head3 k))
