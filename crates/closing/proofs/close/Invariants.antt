-- The square is closed by way of the instants below mid.
use Rattle.std.proofs.Common.{◌≡◌, length}
use Rattle.rows.specs.Cells.{area, at}
use Rattle.closing.proofs.Closure.{Closing}
use Rattle.closing.proofs.close.Given as goal

abbrev pub invariant-loop-mid : goal.invariant-loop-mid
invariant-loop-mid l = record { size : length l.s ≡ area; closed : Closing l.fn.l (at l.fn.s) l.mid (at l.s) }
