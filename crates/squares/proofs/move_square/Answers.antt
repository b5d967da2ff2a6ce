-- Each turn marks the next place of the way's diagonal.
use Rattle.std.proofs.Common.{refl, arith}
use Rattle.records.specs.Kinds.{way_meant}
use Rattle.rows.proofs.Stored.{stored_more}
use Rattle.squares.proofs.Marked.{move_marked}
use Rattle.squares.proofs.move_square.Goals as goal

pub loop-k-preserved : goal.loop-k-preserved
loop-k-preserved c = stored_more c.loop-k.invariant refl (omega arith) refl (λ i h. omega arith)

pub returns : goal.returns
returns c =
    move_marked (way_meant c.args.way) (rw c.next_cell-d.ensures.next at c.loop-k.invariant) (omega arith) (omega arith) (omega arith)
