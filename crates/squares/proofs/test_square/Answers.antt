-- Each turn puts the next value of the row on the diagonal.
use Rattle.std.proofs.Common.{refl, arith}
use Rattle.rows.proofs.Stored.{stored_more}
use Rattle.squares.proofs.Marked.{test_marked}
use Rattle.squares.proofs.test_square.Goals as goal

pub loop-k-preserved : goal.loop-k-preserved
loop-k-preserved c = stored_more c.loop-k.invariant (omega arith) (omega arith) refl (λ i h. omega arith)

pub returns : goal.returns
returns c = test_marked (omega arith) (omega arith) c.loop-k.invariant
