-- The measure of each is twice the number of its record, and one more where it may hand the same record on.
use Rattle.std.proofs.Common.{◌+◌, ◌*◌}
use Rattle.valuing.proofs.formula.Plan.+path_square_value_formula.Given as goal

abbrev pub decreases-path_square : goal.decreases-path_square
decreases-path_square l = 2 * l.p + 1

abbrev pub decreases-tested_square : goal.decreases-tested_square
decreases-tested_square l = 2 * l.p

abbrev pub decreases-value_formula : goal.decreases-value_formula
decreases-value_formula l = 2 * l.r + 1
