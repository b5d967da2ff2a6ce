-- Each turn puts the line of one more rule.
use Rattle.std.proofs.Common.{arith}
use Rattle.listing.specs.Printed.{most_line}
use Rattle.listing.proofs.Pages.{put_room, put_none, put_next}
use Rattle.listing.proofs.Page.put_rules.Goals as goal

pub loop-rule-init : goal.loop-rule-init
loop-rule-init c = put_none _ most_line _

pub put_rule-requires : goal.put_rule-requires
put_rule-requires c = put_room c.loop-rule.invariant _ (omega (arith, c.requires))

pub loop-rule-preserved : goal.loop-rule-preserved
loop-rule-preserved c = put_next _ _ _ c.loop-rule.invariant c.put_rule.ensures
