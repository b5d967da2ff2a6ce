-- A refusal of check decides, and else a back step.
use Rattle.std.proofs.Common.{◌≡◌, ◌++◌, rules, sym, arith}
use Rattle.meaning.specs.Record.{core}
use Rattle.meaning.specs.Service.{check_answer}
use Rattle.meaning.specs.Refusal.{first_of, check_grounds, back_grounds}
use Rattle.meaning.proofs.Accepted.{clear_well_formed, check_accepts}
use Rattle.refusals.specs.Refused.{number_of}
use Rattle.refusals.proofs.Answered.{positive}
use Rattle.text.proofs.Storing.{refused_first, refused_after}
use Rattle.text.proofs.writing.formula_refusal.Goals as goal

pub returns-in_err-check : goal.returns-in_err-check
unfolding check_answer
returns-in_err-check c =
    let why = c.in_err-check.field-0.0 in
    let some = positive why in
    let found : number_of why ≡ first_of (check_grounds c.args.records.now c.args.atoms ++ back_grounds c.args.records.now) =
    refused_first _ _ c.in_err-check.ensures (λ e. omega arith) in
    search rules

pub returns : goal.returns
unfolding check_grounds
returns c =
    refused_after (check_grounds c.args.records.now c.args.atoms) (back_grounds c.args.records.now)
    ((clear_well_formed core _ _).1 ((check_accepts _ _).0 (sym c.in_ok-check.ensures))) c.back_refusal.ensures
