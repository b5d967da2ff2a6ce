-- After r records their rules stand at the front.
use Rattle.meaning.specs.Run.{each}
use Rattle.copying.specs.Appended.{Appended}
use Rattle.writing.proofs.Rowing.{words_at}
use Rattle.writing.proofs.write_rules.Given as goal

abbrev pub invariant-loop-r : goal.invariant-loop-r
invariant-loop-r l = Appended l.initial.out 0 (each l.r (words_at l.records l.atoms)) l.at l.out
