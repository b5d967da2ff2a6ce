-- How much of the text can be left.
use Rattle.std.proofs.Common.{length, ◌-◌}
use Rattle.parsing.proofs.write.+write_form_write_path.Given as goal

abbrev pub decreases-write_form : goal.decreases-write_form
decreases-write_form l = length l.text.now - l.at

abbrev pub decreases-write_path : goal.decreases-write_path
decreases-write_path l = length l.text.now - l.at
