-- The output's first bytes are the buffer's.
use Rattle.std.proofs.Common.{arith, length-take-le, sym}
use Rattle.copying.proofs.Storing.{stored}
use Rattle.copying.proofs.copy.Goals as goal

pub returns : goal.returns
returns c = stored 0 _ _ _ _ c.copy_from_slice.ensures.after (sym (length-take-le _ _ c.requires.0)) (omega arith)
