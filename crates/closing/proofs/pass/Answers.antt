-- Each turn passes one more row, by the copy of row mid.
use Rattle.closing.proofs.Passing.{passing_more}
use Rattle.closing.proofs.pass.Goals as goal

pub loop-k-preserved : goal.loop-k-preserved
loop-k-preserved c =
    passing_more c.requires.0 c.loop-k.auto.k c.loop-k.invariant c.row_of-row.ensures.cells c.pass_row.ensures
