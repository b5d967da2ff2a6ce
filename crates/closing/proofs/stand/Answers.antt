-- Each turn puts 2 at the next place of the diagonal.
use Rattle.std.proofs.Common.{refl, arith}
use Rattle.rows.proofs.Stored.{stored_more}
use Rattle.closing.proofs.Passing.{stand_marked}
use Rattle.closing.proofs.stand.Goals as goal

pub loop-k-preserved : goal.loop-k-preserved
loop-k-preserved c = stored_more c.loop-k.invariant (omega arith) (omega arith) refl (λ i h. omega arith)

pub returns : goal.returns
returns c = stand_marked (omega arith) c.told-s (omega arith) c.loop-k.invariant
