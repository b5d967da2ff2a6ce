-- What is read is written, from number 0 on.
use Rattle.std.proofs.Common.{rules}
use Rattle.parsing.proofs.Whole.{formula_readable, formula_wrote}
use Rattle.parsing.proofs.write_records.Goals as goal

pub write_form-requires : goal.write_form-requires
write_form-requires c = formula_readable _ c.requires.0 c.requires.1

pub returns : goal.returns
returns c = let made = formula_wrote _ c.requires.0 c.write_form.ensures.0 in search rules
