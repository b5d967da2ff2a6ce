-- The row is the whole part of the square from its place on.
use Rattle.std.proofs.Common.{zero-add}
use Rattle.rows.proofs.row_of.Goals as goal

pub returns : goal.returns
returns c = let w = c.part.ensures in record { size = w.size; cells = λ j h. rw zero-add at (w.here j h) }
