-- The last record's tree is the formula, whose text fits.
use Rattle.std.proofs.Common.{◌≡◌, ◌-◌, arith}
use Prim.Native.Nat.{pred}
use Rattle.meaning.specs.Record.{count}
use Rattle.meaning.specs.Text.{whole_text}
use Rattle.meaning.proofs.Lengths.{whole_fits}
use Rattle.spelling.specs.Spelling.{text_at}
use Rattle.spelling.proofs.spell_formula.Goals as goal

pub spell_record-requires : goal.spell_record-requires
spell_record-requires c =
    let g = c.requires in
    let last : c.record_count.result - 1 ≡ pred (count c.args.records.now) = omega (arith, c.record_count.ensures) in
    let text : text_at c.args.records.now (c.record_count.result - 1) ≡ whole_text c.args.records.now = rw (last, g.formed.last) in
    record {
      whole = g;
      index = omega (arith, c.record_count.ensures, g.formed.some);
      room = rw text (omega (arith, whole_fits g.formed));
    }
