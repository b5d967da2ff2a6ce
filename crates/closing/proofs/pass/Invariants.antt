-- The rows from `from` up to k are passed, and the others are as they were.
use Rattle.closing.specs.Closing.{PassedRows}
use Rattle.closing.proofs.pass.Given as goal

abbrev pub invariant-loop-k : goal.invariant-loop-k
invariant-loop-k l = PassedRows l.mid l.from l.k l.initial.s l.s
