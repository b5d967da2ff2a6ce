-- The first i values of the part are copied.
use Rattle.rows.specs.Cells.{row_at}
use Rattle.rows.proofs.ByCell.{Along}
use Rattle.rows.proofs.part.Given as goal

abbrev pub invariant-loop-i : goal.invariant-loop-i
invariant-loop-i l = Along l.to (row_at l.s l.from) l.initial.row l.row l.i
