-- Each turn raises the row by one more instant on the way.
use Rattle.joining.proofs.Leading.{leading_none, leading_more}
use Rattle.joining.proofs.led_row.Goals as goal

pub loop-i-init : goal.loop-i-init
loop-i-init c = leading_none _ _ _

pub loop-i-preserved : goal.loop-i-preserved
loop-i-preserved c = leading_more _ _ _ _ c.loop-i.invariant c.raise_row.ensures
