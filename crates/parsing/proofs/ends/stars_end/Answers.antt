-- All places passed have stars.
use Rattle.parsing.proofs.Stars.{stars_run}
use Rattle.parsing.proofs.ends.stars_end.Goals as goal

pub returns : goal.returns
returns c = stars_run _ _ _ c.requires c.stars.ensures
