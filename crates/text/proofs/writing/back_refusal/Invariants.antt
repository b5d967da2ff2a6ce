-- Before record r, there is no back step.
use Rattle.text.proofs.Backless.{Backless}
use Rattle.text.proofs.writing.back_refusal.Given as goal

abbrev pub invariant-loop-r : goal.invariant-loop-r
invariant-loop-r l = Backless l.records l.r
