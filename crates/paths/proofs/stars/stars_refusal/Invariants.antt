-- Before record r, no star's ground applies, and the array has the moves of all paths.
use Rattle.std.proofs.Common.{[], ◌∷◌}
use Rattle.meaning.specs.{Run.each, Refusal.ground11, Refusal.ground12}
use Rattle.meaning.proofs.First.{Clear}
use Rattle.paths.specs.Asking.{Known}
use Rattle.paths.proofs.stars.stars_refusal.Given as goal

abbrev pub invariant-loop-r : goal.invariant-loop-r
invariant-loop-r l = record {
  clear : Clear (each l.r (λ q. ground12 l.records q ∷ ground11 l.records q ∷ []));
  known : Known l.records l.r l.moves;
}
