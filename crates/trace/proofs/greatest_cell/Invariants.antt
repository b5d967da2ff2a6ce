-- After each turn `most` is the greatest of the cells so far.
use Rattle.std.proofs.Common.{◌≡◌}
use Rattle.meaning.specs.Three.{greatest}
use Rattle.trace.proofs.Highest.{nth_cell}
use Rattle.trace.proofs.greatest_cell.Given as goal

abbrev pub invariant-loop-cell : goal.invariant-loop-cell
invariant-loop-cell l = l.most ≡ greatest l.cell-index (nth_cell l.cells)
