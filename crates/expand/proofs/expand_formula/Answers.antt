-- The buffer begins with the whole tree, if that has at most 255 records, and is copied to the output's start.
use Rattle.std.proofs.Common.{refl, arith}
use Rattle.expand.proofs.SizeGrounds.{too_long, no_room, copied}
use Rattle.expand.proofs.expand_formula.Goals as goal

pub returns-in_default : goal.returns-in_default
returns-in_default c = too_long c.requires (omega arith) _ c.in_default.ensures

pub returns-then-out-n : goal.returns-then-out-n
returns-then-out-n c = no_room c.requires (omega arith) refl c.in-Some.ensures _ c.if-out-n.true

pub returns : goal.returns
returns c = copied c.requires (omega arith) refl c.in-Some.ensures _ c.if-out-n.false c.copy.ensures
