-- Demand 3: the rules of a translated formula have one filling, and in it each label has its formula's value.
use Rattle.std.specs.Prelude.{ℕ, pred, ◌+◌, ◌*◌, ◌<◌, ◌≤◌, ◌≡◌, ◌↔◌, List, length, take}
use Rattle.meaning.specs.Run.{cell_of}
use Rattle.meaning.specs.Record.{count, kind_at, sort_of, formula, path}
use Rattle.meaning.specs.Tree.{form_at, path_at}
use Rattle.meaning.specs.Value.{value_of, square_of, modal_row}
use Rattle.meaning.specs.Rule.{rule_size, words}
use Rattle.meaning.specs.Translation.{translation, context, rule_sum}
use Rattle.meaning.specs.Judge.{AllHold}
use Rattle.meaning.specs.Refusal.{first_of, starred_grounds}
use Rattle.meaning.specs.Service.{translate_answer, translate_after, judge_answer}
use Rattle.meaning.specs.WellFormed.{Trace}
use Rattle.theorems.specs.Filling.{Filling, label_of, others, Meets}

-- The translator accepts the formula; whether its output has room is another matter.
abbrev pub Accepted : List ℕ → ℕ → Type 0
Accepted s A = first_of (starred_grounds s A) ≡ 0

-- Over one trace; n is the number of records.
pub record OneFilling (s : List ℕ) (A L : ℕ) (cells : List ℕ) : Type 0 where
  -- Without the rule that asserts the whole formula, one filling of the labels meets all other rules at all their instants.
  pub filling : List ℕ
  pub fills : Filling A (count s) L cells filling
  pub meets : Meets s A L filling
  pub only : (f : List ℕ) → Filling A (count s) L cells f → Meets s A L f → f ≡ filling
  -- In it each formula's label has that formula's value, and a path's label the value of its modality over its continuation's label.
  pub formulas : (r k : ℕ) → r < count s → k < L → sort_of (kind_at s r) ≡ formula
      → label_of A (count s) filling r k ≡ value_of L (cell_of A cells) (form_at s r) k
  pub paths : (r k : ℕ) → r < count s → k < L → sort_of (kind_at s r) ≡ path
      → label_of A (count s) filling r k
      ≡ modal_row (context s r).mode L (square_of L (cell_of A cells) (path_at s r)) (label_of A (count s) filling (context s r).continuation) k
  -- With that rule, a filling exists exactly if the whole formula has the value 2 at the first instant.
  pub asserted : ((f : List ℕ) × Filling A (count s) L cells f × AllHold (words (translation s A)) L (cell_of (A + count s) f))
      ↔ (value_of L (cell_of A cells) (form_at s (pred (count s))) 0 ≡ 2)

pub record Demand3 : Type 0 where
  -- Where the translator refuses nothing, the formula is accepted, and the rules' words stand at the output's start.
  pub written : (s : List ℕ) (A : ℕ) (out : List ℕ) → (translate_answer s A (length out)).refusal ≡ 0
      → Accepted s A × (take (rule_size * (translate_answer s A (length out)).count) (translate_after s A out) ≡ words (translation s A))
  -- All but the last are the rules without the one that asserts the whole formula.
  pub others_written : (s : List ℕ) (A : ℕ) (out : List ℕ) → (translate_answer s A (length out)).refusal ≡ 0
      → take (rule_size * pred (translate_answer s A (length out)).count) (translate_after s A out) ≡ others s A
  pub one_filling : (s : List ℕ) (A L : ℕ) (cells : List ℕ) → Accepted s A → Trace A L cells → OneFilling s A L cells
  -- The judge refuses these rules over no filling, and says yes to one filling alone.
  pub judge_takes : (s : List ℕ) (A L : ℕ) (cells f : List ℕ) → Accepted s A → Trace A L cells → Filling A (count s) L cells f
      → (judge_answer (others s A) (A + count s) L f).refusal ≡ 0
  pub judge_says : (s : List ℕ) (A L : ℕ) (cells f : List ℕ) → Accepted s A → Trace A L cells → Filling A (count s) L cells f
      → ((judge_answer (others s A) (A + count s) L f).holds ≡ 1) ↔ Meets s A L f
  pub judge_picks : (s : List ℕ) (A L : ℕ) (cells f : List ℕ) → Accepted s A → Trace A L cells → Filling A (count s) L cells f
      → (one : OneFilling s A L cells) → ((judge_answer (others s A) (A + count s) L f).holds ≡ 1) ↔ (f ≡ one.filling)
  -- The count is the sum over the records and one that asserts the whole formula: at most 4 n + 1.
  pub counted : (s : List ℕ) (A : ℕ) → length (translation s A) ≡ rule_sum s (count s) + 1
  pub few_rules : (s : List ℕ) (A : ℕ) → length (translation s A) ≤ 4 * count s + 1
