-- Each turn copies the next value.
use Rattle.std.proofs.Common.{refl, arith}
use Rattle.rows.proofs.Stored.{stored_more}
use Rattle.rows.proofs.part.Goals as goal

pub loop-i-preserved : goal.loop-i-preserved
loop-i-preserved c = stored_more c.loop-i.invariant refl (omega arith) refl (λ i h. omega arith)
