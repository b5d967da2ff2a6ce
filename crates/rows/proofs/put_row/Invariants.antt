-- The first j values of the row are put.
use Rattle.std.proofs.Common.{◌*◌, get_or}
use Rattle.rows.specs.Cells.{width}
use Rattle.rows.proofs.ByCell.{Along}
use Rattle.rows.proofs.put_row.Given as goal

abbrev pub invariant-loop-j : goal.invariant-loop-j
invariant-loop-j l = Along (l.k * width) (λ j. get_or l.row j 0) l.initial.s l.s l.j
