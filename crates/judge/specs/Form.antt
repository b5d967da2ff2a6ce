-- What judging asks of rules once the refusals are past.
--   Formed ws W    each rule of the words is in form over W columns
use Rattle.std.specs.Prelude.{ℕ, ◌<◌, ◌≡◌, false, List}
use Rattle.meaning.specs.Rule.{rule_at}
use Rattle.meaning.specs.Judge.{rule_count}
use Rattle.meaning.specs.Refusal.{bad_rule}

abbrev pub Formed : List ℕ → ℕ → Type 0
Formed ws W = (i : ℕ) → i < rule_count ws → bad_rule W (rule_at ws i) ≡ false
