-- An answer of the judge: the verdict that a search gives, and the numbers beside a refusal's.
--   verdict_of found    yes where no failure was found, else no, with the failure
--   holds_of answer     1 where all rules hold, else 0
--   rule_of answer      the first rule that fails; 0 where there is none
--   instant_of answer   its first failing instant; 0 where there is none
use Rattle.std.specs.Prelude.{ℕ, Option, Some, None, Result, Ok, Err}
use Rattle.meaning.specs.Judge.{Verdict}
use Rattle.refusals.specs.declared.Refusal.{Refusal}
use Rattle.judge.specs.declared.Failure.{Failure}

abbrev pub verdict_of : Option Failure → Verdict
verdict_of None = Verdict.yes
verdict_of (Some failure) = Verdict.no failure.rule failure.instant

abbrev pub holds_of : Result (Option Failure) Refusal → ℕ
holds_of (Ok None) = 1
holds_of (Ok (Some failure)) = 0
holds_of (Err refusal) = 0

abbrev pub rule_of : Result (Option Failure) Refusal → ℕ
rule_of (Ok None) = 0
rule_of (Ok (Some failure)) = failure.rule
rule_of (Err refusal) = 0

abbrev pub instant_of : Result (Option Failure) Refusal → ℕ
instant_of (Ok None) = 0
instant_of (Ok (Some failure)) = failure.instant
instant_of (Err refusal) = 0
