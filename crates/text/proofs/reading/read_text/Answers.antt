-- A refusal of the text decides, then the number of records, and else what is asked of them.
use Rattle.std.proofs.Common.{ℕ, ◌≡◌, List, sym, arith}
use Rattle.std.proofs.lemmas.Result.{err_from_is_err_and}
use Rattle.meaning.specs.Refusal.{first_of}
use Rattle.meaning.proofs.First.{Clear, none_clear}
use Rattle.refusals.proofs.Answered.{positive}
use Rattle.text.specs.Texting.{text_grounds}
use Rattle.text.proofs.Storing.{read_refused, read_long, read_passed, text_numbered, text_clear}
use Rattle.text.proofs.reading.read_text.Goals as goal

-- What passed is the text of a formula.
passed : (t : List ℕ) (A : ℕ) → 0 ≡ first_of (text_grounds t A) → Clear (text_grounds t A)
passed t A e = none_clear _ (text_numbered _ _) (sym e)

pub returns-in_err-text_refusal : goal.returns-in_err-text_refusal
returns-in_err-text_refusal c =
    let same = err_from_is_err_and c.from_residual.result c.from_residual.ensures.1 in
    let some = positive c.in_err-text_refusal.field-0.0 in
    let (refusal, (count, bytes)) = read_refused c.args.text.now c.args.atoms c.args.records.now _ c.in_err-text_refusal.ensures (λ e. omega arith) in
    rw (same.1, same.2) record { refusal = refusal; count = count; bytes = bytes }

pub size_of-n-requires : goal.size_of-n-requires
size_of-n-requires c = text_clear _ _ (passed c.args.text.now c.args.atoms c.in_ok-text_refusal.ensures)

pub returns-then-n-gt-MOST_RECORDS : goal.returns-then-n-gt-MOST_RECORDS
returns-then-n-gt-MOST_RECORDS c =
    let clear = passed c.args.text.now c.args.atoms c.in_ok-text_refusal.ensures in
    let (refusal, (count, bytes)) = read_long c.args.text.now c.args.atoms c.args.records.now clear (omega (arith, c.size_of-n.ensures)) in
    record { refusal = refusal; count = count; bytes = bytes }

pub read_formula-requires : goal.read_formula-requires
read_formula-requires c =
    let (short, formed) = text_clear _ _ (passed c.args.text.now c.args.atoms c.in_ok-text_refusal.ensures) in
    record { short = short; formed = formed; counts = c.size_of-n.ensures; few = omega arith }

pub returns : goal.returns
returns c =
    let clear = passed c.args.text.now c.args.atoms c.in_ok-text_refusal.ensures in
    let (refusal, (count, bytes)) = read_passed c.args.text.now c.args.atoms c.args.records.now _ _ _ clear
    (omega (arith, c.size_of-n.ensures)) c.read_formula.ensures in
    record { refusal = refusal; count = count; bytes = bytes }
