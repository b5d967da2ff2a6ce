-- After r records the count is that of their rules and the last.
use Rattle.std.proofs.Common.{◌≡◌, ◌+◌}
use Rattle.meaning.specs.Translation.{rule_sum}
use Rattle.writing.proofs.rule_count.Given as goal

abbrev pub invariant-loop-r : goal.invariant-loop-r
invariant-loop-r l = l.rules ≡ rule_sum l.records l.r + 1
