-- Before rule i, every rule is in form.
use Rattle.std.proofs.Common.{[], ◌∷◌}
use Rattle.meaning.specs.Run.{each}
use Rattle.meaning.specs.Refusal.{ground13}
use Rattle.meaning.proofs.First.{Clear}
use Rattle.judge.proofs.form.each_refusal.Given as goal

abbrev pub invariant-loop-i : goal.invariant-loop-i
invariant-loop-i l = Clear (each l.i (λ q. ground13 l.rules l.width q ∷ []))
