-- Each turn marks the next place of the way's diagonal.
use Rattle.rows.proofs.Diagonal.{Diagonal}
use Rattle.squares.proofs.move_square.Given as goal

abbrev pub invariant-loop-k : goal.invariant-loop-k
invariant-loop-k l = Diagonal l.d (λ i. 2) l.initial.s l.s l.k
