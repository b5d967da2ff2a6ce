-- A star is closed; and where the path is one move with tests about it, its square is at most the move's.
use Rattle.valuing.proofs.Moved.{square_moving}
use Rattle.valuing.proofs.Recursion.{square_low, star_closed}
use Rattle.valuing.proofs.formula.Plan.close.Goals as goal

pub returns-in-Star : goal.returns-in-Star
returns-in-Star c = let w = c.requires in star_closed (w.asked, w.sort) c.in-Star.ensures w.square

pub run_on-requires : goal.run_on-requires
run_on-requires c = rw c.in-Some-Ahead.field-0-is at (square_moving c.requires c.in-Some-Ahead.ensures)

pub run_back-requires : goal.run_back-requires
run_back-requires c = rw c.in-Some-Back.field-0-is at (square_moving c.requires c.in-Some-Back.ensures)

pub close-requires : goal.close-requires
close-requires c = let w = c.requires in square_low (w.asked, w.sort) _ w.square
