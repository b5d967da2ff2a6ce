-- Each turn writes the modality's value at the next instant.
use Rattle.std.proofs.Common.{arith}
use Rattle.tables.proofs.Modal.{along_modal}
use Rattle.tables.proofs.put_modal.Goals as goal

pub loop-k-preserved : goal.loop-k-preserved
loop-k-preserved c = along_modal _ _ _ _ _ c.loop-k.invariant (omega arith) (omega arith) c.modal_cell.ensures
