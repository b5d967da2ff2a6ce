-- The rows that the turns before i have reached are the star's.
use Rattle.records.specs.Kinds.{way_meant}
use Rattle.rows.specs.Cells.{at}
use Rattle.closing.proofs.Running.{Running}
use Rattle.closing.proofs.run.Given as goal

abbrev pub invariant-loop-i : goal.invariant-loop-i
invariant-loop-i l = Running (way_meant l.way) l.fn.l l.i (at l.fn.s) l.s
