-- The bytes that were passed are the greater of the two, and the others are as they were.
use Rattle.std.proofs.Common.{get_or, max}
use Rattle.rows.proofs.Stored.{Stored}
use Rattle.joining.proofs.choose.Given as goal

abbrev pub invariant-loop-i : goal.invariant-loop-i
invariant-loop-i l = Stored (λ m. m) (λ m. max (get_or l.initial.s m 0) (get_or l.q m 0)) l.initial.s l.s l.i
