-- A refusal of the formula decides, and else the room for its text.
use Rattle.std.proofs.Common.{ℕ, ◌≡◌, ◌++◌, List, sym, arith}
use Rattle.std.proofs.lemmas.Result.{err_from_is_err_and}
use Rattle.meaning.specs.Record.{core}
use Rattle.meaning.specs.Refusal.{first_of, check_grounds, back_grounds}
use Rattle.meaning.proofs.First.{Clear, none_clear, clear_append}
use Rattle.meaning.proofs.Accepted.{clear_well_formed}
use Rattle.meaning.proofs.Texting.{back_numbered}
use Rattle.refusals.proofs.Answered.{positive}
use Rattle.text.proofs.Storing.{write_refused, write_passed}
use Rattle.text.proofs.writing.write_text.Goals as goal

-- What passed is a formula without a back step.
passed : (s : List ℕ) (A : ℕ) → 0 ≡ first_of (check_grounds s A ++ back_grounds s) → Clear (check_grounds s A ++ back_grounds s)
passed s A e = none_clear _ (back_numbered _ _) (sym e)

pub returns-in_err-formula_refusal : goal.returns-in_err-formula_refusal
returns-in_err-formula_refusal c =
    let same = err_from_is_err_and c.from_residual.result c.from_residual.ensures.1 in
    let some = positive c.in_err-formula_refusal.field-0.0 in
    let (refusal, (count, bytes)) = write_refused c.args.records.now c.args.atoms c.args.text.now _ c.in_err-formula_refusal.ensures (λ e. omega arith) in
    rw (same.1, same.2) record { refusal = refusal; count = count; bytes = bytes }

pub write_formula-requires : goal.write_formula-requires
unfolding check_grounds
write_formula-requires c =
    let clear = passed c.args.records.now c.args.atoms c.in_ok-formula_refusal.ensures in
    record {
      atoms = c.args.atoms;
      formed = (clear_well_formed core _ _).0 ((clear_append (check_grounds c.args.records.now c.args.atoms) _).0 clear).0;
    }

pub returns : goal.returns
returns c =
    let clear = passed c.args.records.now c.args.atoms c.in_ok-formula_refusal.ensures in
    let (refusal, (count, bytes)) = write_passed c.args.records.now c.args.atoms c.args.text.now _ _ _ clear c.write_formula.ensures in
    record { refusal = refusal; count = count; bytes = bytes }
