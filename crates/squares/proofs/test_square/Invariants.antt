-- Each turn puts the next value of the row on the diagonal.
use Rattle.rows.specs.Cells.{row_at}
use Rattle.rows.proofs.Diagonal.{Diagonal}
use Rattle.squares.proofs.test_square.Given as goal

abbrev pub invariant-loop-k : goal.invariant-loop-k
invariant-loop-k l = Diagonal 0 (row_at l.table l.start) l.initial.s l.s l.k
