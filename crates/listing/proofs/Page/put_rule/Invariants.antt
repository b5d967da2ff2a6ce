-- After j words their texts stand on the line.
use Rattle.std.proofs.Common.{◌*◌, get_or}
use Rattle.meaning.specs.Run.{each}
use Rattle.listing.specs.Printed.{spelled, gap, most_spelled}
use Rattle.listing.specs.Page.{Puts}
use Rattle.listing.proofs.Page.put_rule.Given as goal

abbrev pub invariant-loop-j : goal.invariant-loop-j
invariant-loop-j l = Puts l.initial.self (each l.j (λ j. spelled (get_or l.rule j 0) (gap j))) (most_spelled * l.j) l.self
