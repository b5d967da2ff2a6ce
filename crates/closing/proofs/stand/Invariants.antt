-- The diagonal's first k places are 2, and nothing else has changed.
use Rattle.rows.proofs.Diagonal.{Diagonal}
use Rattle.closing.proofs.stand.Given as goal

abbrev pub invariant-loop-k : goal.invariant-loop-k
invariant-loop-k l = Diagonal 0 (λ i. 2) l.initial.s l.s l.k
