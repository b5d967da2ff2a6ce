-- The rows that were passed are capped, and those ahead are as they were.
use Rattle.rows.specs.Cells.{at, row_at}
use Rattle.squares.specs.Places.{capped}
use Rattle.rows.proofs.Following.{Following}
use Rattle.squares.proofs.cap.Given as goal

abbrev pub invariant-loop-k : goal.invariant-loop-k
invariant-loop-k l = Following l.fn.l (capped (row_at l.table l.start) (at l.initial.s)) l.initial.s l.s l.k
