-- The rows that were passed are those of the instants beside, and those ahead are as they were.
use Rattle.meaning.specs.Value.{move_square, sequence_square}
use Rattle.records.specs.Kinds.{way_meant}
use Rattle.rows.specs.Cells.{at}
use Rattle.rows.proofs.Following.{Following}
use Rattle.joining.proofs.lead_move.Given as goal

abbrev pub invariant-loop-k : goal.invariant-loop-k
invariant-loop-k l = Following l.fn.l (sequence_square l.fn.l (move_square (way_meant l.way)) (at l.q)) l.initial.s l.s l.k
