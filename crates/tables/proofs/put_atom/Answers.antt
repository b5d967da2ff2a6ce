-- Each turn writes the next cell.
use Rattle.std.proofs.Common.{refl, arith}
use Rattle.rows.proofs.Stored.{stored_more}
use Rattle.tables.proofs.put_atom.Goals as goal

pub loop-k-preserved : goal.loop-k-preserved
loop-k-preserved c = stored_more c.loop-k.invariant refl (omega arith) refl (λ i h. omega arith)
