-- Before record r, no atom is beyond.
use Rattle.std.proofs.Common.{[], ◌∷◌}
use Rattle.meaning.specs.Run.{each}
use Rattle.meaning.specs.Refusal.{ground5}
use Rattle.meaning.proofs.First.{Clear}
use Rattle.text.proofs.reading.atoms_refusal.Given as goal

abbrev pub invariant-loop-r : goal.invariant-loop-r
invariant-loop-r l = Clear (each l.r (λ q. ground5 l.records l.atoms q ∷ []))
