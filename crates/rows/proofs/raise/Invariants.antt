-- After j turns the first j values are raised, and the others are as they were.
use Rattle.std.proofs.Common.{get_or, min, max}
use Rattle.rows.proofs.Stored.{Stored}
use Rattle.rows.proofs.raise.Given as goal

abbrev pub invariant-loop-j : goal.invariant-loop-j
invariant-loop-j l = Stored (λ i. i) (λ j. max (get_or l.initial.row j 0) (min (get_or l.by j 0) l.u)) l.initial.row l.row l.j
