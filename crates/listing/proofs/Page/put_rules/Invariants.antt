-- After so many rules their lines stand on the page.
use Rattle.std.proofs.Common.{◌*◌, [], get_or}
use Rattle.meaning.specs.Run.{each}
use Rattle.listing.specs.Printed.{most_line}
use Rattle.listing.specs.Page.{Puts, line_of}
use Rattle.listing.proofs.Page.put_rules.Given as goal

abbrev pub invariant-loop-rule : goal.invariant-loop-rule
invariant-loop-rule l = Puts l.initial.self (each l.rule-index (λ i. line_of (get_or l.rules i []))) (most_line * l.rule-index) l.self
