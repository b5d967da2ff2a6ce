-- Demand 1: any input gets an answer. A refusal gives the number of the first reason that applies, other numbers are 0, and the lent
-- buffer stays as it was; where nothing is refused, the buffer stays as it was past what is written.
use Rattle.std.specs.Prelude.{ℕ, ◌*◌, ◌≡◌, ◌≢◌, List, length}
use Rattle.meaning.specs.Record.{record_size, count}
use Rattle.meaning.specs.Rule.{rule_size}
use Rattle.meaning.specs.Service.{check_answer, expand_answer, expand_after, value_answer, value_after, translate_answer, translate_after, judge_answer}
use Rattle.meaning.specs.Service.{write_answer, write_after, read_answer, read_after}
use Rattle.meaning.specs.Outcome.{Answered}
use Rattle.meaning.specs.Reason.{First, CheckRefused, ExpandRefused, ValueRefused, TranslateRefused, WriteRefused, ReadRefused, JudgeRefused}

pub record Demand1 : Type 0 where
  pub check : (s : List ℕ) (A : ℕ) → First (CheckRefused s A) (check_answer s A)
  pub expand : (s : List ℕ) (A : ℕ) (out : List ℕ) →
      let answer = expand_answer s A (length out) in
      Answered (ExpandRefused s A (length out)) answer.refusal answer.count (record_size * answer.count) out (expand_after s A out)
  pub value : (s : List ℕ) (A L : ℕ) (cells out : List ℕ) →
      let answer = value_answer s A L cells (length out) in
      Answered (ValueRefused s A L cells (length out)) answer.refusal answer.value (count s * L) out (value_after s A L cells out)
  pub translate : (s : List ℕ) (A : ℕ) (out : List ℕ) →
      let answer = translate_answer s A (length out) in
      Answered (TranslateRefused s A (length out)) answer.refusal answer.count (rule_size * answer.count) out (translate_after s A out)
  pub write_text : (s : List ℕ) (A : ℕ) (out : List ℕ) →
      let answer = write_answer s A (length out) in
      Answered (WriteRefused s A (length out)) answer.refusal answer.count answer.count out (write_after s A out)
  pub read_text : (t : List ℕ) (A : ℕ) (out : List ℕ) →
      let answer = read_answer t A (length out) in
      Answered (ReadRefused t A (length out)) answer.refusal answer.count (record_size * answer.count) out (read_after t A out)
  -- The judge lends nothing.
  pub judge : (ws : List ℕ) (W L : ℕ) (cells : List ℕ) → First (JudgeRefused ws W L cells) (judge_answer ws W L cells).refusal
  pub judge_no_numbers : (ws : List ℕ) (W L : ℕ) (cells : List ℕ) → (judge_answer ws W L cells).refusal ≢ 0
      → ((judge_answer ws W L cells).holds ≡ 0) × ((judge_answer ws W L cells).rule ≡ 0) × ((judge_answer ws W L cells).instant ≡ 0)
