-- The records below p.
use Rattle.paths.proofs.stars.+may_stand.Given as goal

abbrev pub decreases-may_stand : goal.decreases-may_stand
decreases-may_stand l = l.p
