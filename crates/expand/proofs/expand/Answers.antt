-- A refusal of the records is the answer, and otherwise they are a formula, whose size decides.
use Rattle.meaning.specs.Refusal.{ground8}
use Rattle.expand.proofs.SizeGrounds.{records_refused, whole_formula, sized}
use Rattle.expand.proofs.expand.Goals as goal

pub returns-in_err-formula_refusal : goal.returns-in_err-formula_refusal
unfolding ground8
returns-in_err-formula_refusal c =
    let o = records_refused c.from_residual.result _ c.from_residual.ensures.1 c.in_err-formula_refusal.ensures in
    record { refusal = o.refusal; count = o.count; bytes = o.bytes }

pub expand_formula-requires : goal.expand_formula-requires
unfolding ground8
expand_formula-requires c = whole_formula c.args.atoms c.in_ok-formula_refusal.ensures

pub returns : goal.returns
unfolding ground8
returns c =
    let o = sized c.args.atoms c.in_ok-formula_refusal.ensures c.expand_formula.ensures in
    record { refusal = o.refusal; count = o.count; bytes = o.bytes }
