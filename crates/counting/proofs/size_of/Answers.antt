-- A text that is read is the formula's spelling, which has as many marks as the formula has records.
use Rattle.std.proofs.Common.{◌≡◌, ◌∙◌, rules}
use Rattle.std.specs.Prelude.{count_by}
use Rattle.counting.specs.Marks.{is_mark}
use Rattle.counting.proofs.Marks.{text_marks}
use Rattle.counting.proofs.size_of.Goals as goal

pub returns : goal.returns
returns c =
    let n : c.sum-n.result ≡ count_by is_mark c.args.text.now = search rules in
    c.from.ensures ∙ n ∙ text_marks _ c.requires.1
