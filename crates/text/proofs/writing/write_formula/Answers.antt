-- The buffer begins with the text, which is copied where there is room.
use Rattle.std.proofs.Common.{arith}
use Rattle.std.proofs.Common.{replicate}
use Rattle.meaning.specs.Text.{whole_text, most_text}
use Rattle.meaning.proofs.Lengths.{whole_fits}
use Rattle.text.proofs.Storing.{sized_refused, sized_stored}
use Rattle.text.proofs.writing.write_formula.Goals as goal

pub returns-then-text-n : goal.returns-then-text-n
returns-then-text-n c = sized_refused _ _ (rw (← c.spell_formula-n.ensures.0) c.if-text-n.true)

pub copy-requires : goal.copy-requires
copy-requires c = (omega (arith, whole_fits c.requires.formed, c.spell_formula-n.ensures.0), c.if-text-n.false)

pub returns : goal.returns
returns c =
    sized_stored (whole_text c.args.records.now) (replicate most_text 0) c.args.text.now _ _ c.spell_formula-n.ensures.0
    (whole_fits c.requires.formed) c.if-text-n.false (rw c.spell_formula-n.ensures.1 at c.copy.ensures)
