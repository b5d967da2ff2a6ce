-- The digits are the fewest, at most five, and one byte is put after them.
use Rattle.std.proofs.Common.{arith, ◌∙◌}
use Rattle.listing.specs.Printed.{spelled}
use Rattle.listing.proofs.Spelling.{decimal_digits, few_digits}
use Rattle.listing.proofs.Pages.{put_room, put_more, put_within}
use Rattle.listing.proofs.Page.put_number.Goals as goal

pub put-requires : goal.put-requires
put-requires c = let few = few_digits _ _ c.ranges.n.fits (rw c.from.ensures at c.decimal-size.ensures.len) in omega (arith, c.requires)

pub put-requires-2 : goal.put-requires-2
put-requires-2 c =
    let few = few_digits _ _ c.ranges.n.fits (rw c.from.ensures at c.decimal-size.ensures.len) in
    put_room (put_within c.put.ensures 5 (omega arith)) 1 c.requires

pub returns : goal.returns
unfolding spelled
returns c =
    let few = few_digits _ _ c.ranges.n.fits (rw c.from.ensures at c.decimal-size.ensures.len) in
    let digits = c.decimal-size.ensures.digits ∙ decimal_digits _ _ c.decimal-size.ensures.len in
    rw (digits, c.from.ensures) at (put_more (put_within c.put.ensures 5 (omega arith)) c.put-2.ensures)
