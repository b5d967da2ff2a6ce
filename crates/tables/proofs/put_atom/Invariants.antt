-- The first k cells of the row are the atom's.
use Rattle.meaning.specs.Run.{cell_of}
use Rattle.rows.proofs.ByCell.{Along}
use Rattle.tables.proofs.put_atom.Given as goal

abbrev pub invariant-loop-k : goal.invariant-loop-k
invariant-loop-k l = Along l.start (λ j. cell_of l.atoms l.cells j l.i) l.initial.table l.table l.k
