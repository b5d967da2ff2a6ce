-- The measure is the path's number: its parts are earlier records.
use Rattle.contexts.proofs.+hand_down.Given as goal

abbrev pub decreases-hand_down : goal.decreases-hand_down
decreases-hand_down l = l.p
