-- Each turn copies the next value.
use Rattle.std.proofs.Common.{refl, arith}
use Rattle.rows.proofs.Stored.{stored_more}
use Rattle.rows.proofs.put_row.Goals as goal

pub loop-j-preserved : goal.loop-j-preserved
loop-j-preserved c = stored_more c.loop-j.invariant refl (omega arith) refl (λ i h. omega arith)
