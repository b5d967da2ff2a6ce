-- There is no such instant, or it is not below l.
use Rattle.std.proofs.Common.{refl, arith}
use lib.ListN.{get_or-replicate}
use borrow.Author.Tests.{le-ltb}
use Rattle.rows.specs.Cells.{width}
use Rattle.joining.proofs.row_below.Goals as goal

pub returns-in_default : goal.returns-in_default
returns-in_default c =
    rw (c.in-Some.is, le-ltb c.in-Some.i c.args.l (omega arith)) (record { size = refl; cells = λ j h. get_or-replicate width j 0 0 h })

pub returns-in_default-2 : goal.returns-in_default-2
returns-in_default-2 c = rw c.in_default.is (record { size = refl; cells = λ j h. get_or-replicate width j 0 0 h })
