-- Each turn puts one more word and what comes after it.
use Rattle.std.proofs.Common.{arith}
use Rattle.listing.specs.Printed.{most_spelled}
use Rattle.listing.proofs.Pages.{put_room, put_none, put_next}
use Rattle.listing.proofs.Page.put_rule.Goals as goal

pub loop-j-init : goal.loop-j-init
loop-j-init c = put_none _ most_spelled _

pub put_number-requires : goal.put_number-requires
put_number-requires c = put_room c.loop-j.invariant _ (omega (arith, c.requires))

pub loop-j-preserved : goal.loop-j-preserved
loop-j-preserved c = put_next _ _ _ c.loop-j.invariant (rw c.gap.ensures at c.put_number.ensures)
