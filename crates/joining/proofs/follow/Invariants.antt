-- The rows that were passed are the sequence's, and those ahead are as they were.
use Rattle.meaning.specs.Value.{sequence_square}
use Rattle.rows.specs.Cells.{at}
use Rattle.rows.proofs.Following.{Following}
use Rattle.joining.proofs.follow.Given as goal

abbrev pub invariant-loop-k : goal.invariant-loop-k
invariant-loop-k l = Following l.fn.l (sequence_square l.fn.l (at l.initial.s) (at l.q)) l.initial.s l.s l.k
