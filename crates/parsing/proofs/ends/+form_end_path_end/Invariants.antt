-- How much of the text can be left.
use Rattle.std.proofs.Common.{length, ◌-◌}
use Rattle.parsing.proofs.ends.+form_end_path_end.Given as goal

abbrev pub decreases-form_end : goal.decreases-form_end
decreases-form_end l = length l.text.now - l.at

abbrev pub decreases-path_end : goal.decreases-path_end
decreases-path_end l = length l.text.now - l.at
