-- The rows that were passed have moved, and those ahead are as they were.
use Rattle.meaning.specs.Value.{move_square, sequence_square}
use Rattle.records.specs.Kinds.{way_meant}
use Rattle.rows.specs.Cells.{at}
use Rattle.rows.proofs.Following.{Following}
use Rattle.joining.proofs.follow_move.Given as goal

abbrev pub invariant-loop-k : goal.invariant-loop-k
invariant-loop-k l =
    Following l.fn.l (sequence_square l.fn.l (at l.initial.s) (move_square (way_meant l.fn.way))) l.initial.s l.s l.k
