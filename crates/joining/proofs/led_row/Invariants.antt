-- The row is the sequence's by way of the instants that were passed.
use Rattle.meaning.specs.Value.{sequence_square}
use Rattle.rows.specs.Cells.{at, Values}
use Rattle.joining.proofs.led_row.Given as goal

abbrev pub invariant-loop-i : goal.invariant-loop-i
invariant-loop-i l = Values (sequence_square l.i (at l.s) (at l.q) l.k) l.row
