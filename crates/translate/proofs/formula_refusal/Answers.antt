-- Check's grounds come first, and what passes them is a formula's records.
use Rattle.std.proofs.Common.{◌≡◌, rules, sym, ◌∙◌, arith}
use Rattle.meaning.specs.{Refusal.first_of, Refusal.check_grounds, Refusal.star_grounds, Refusal.starred_grounds, Service.check_answer, WellFormed.WellFormed, Record.core}
use Rattle.meaning.proofs.{First.clear_skip, First.found_stop, Accepted.check_accepts, Accepted.clear_well_formed}
use Rattle.refusals.specs.Refused.{number_of}
use Rattle.refusals.proofs.Answered.{positive}
use Rattle.translate.proofs.formula_refusal.Goals as goal
use Rattle.translate.proofs.formula_refusal.Goals.{In_ok-check}

formed : (c : In_ok-check) → WellFormed core c.args.records.now c.args.atoms
formed c = (check_accepts _ _).0 (sym c.in_ok-check.ensures)

pub returns-in_err-check : goal.returns-in_err-check
unfolding check_answer check_grounds
returns-in_err-check c =
    let why = c.in_err-check.field-0.0 in
    let some = positive why in
    let e = c.in_err-check.ensures in
    let found : number_of why ≡ first_of (starred_grounds c.args.records.now c.args.atoms) =
    e ∙ sym (found_stop (check_grounds _ _) (star_grounds _) (λ z. omega arith)) in
    search rules

pub stars_refusal-requires : goal.stars_refusal-requires
stars_refusal-requires c = record { atoms = _; formed = formed (goal.at.stars_refusal-requires c).In_ok-check }

pub returns : goal.returns
unfolding check_answer check_grounds
returns c =
    c.stars_refusal.ensures
    ∙ sym (clear_skip (check_grounds _ _) (star_grounds _) ((clear_well_formed _ _ _).1 (formed (goal.at.returns c).In_ok-check)))
