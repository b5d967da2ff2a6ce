-- The records decide, then the last record's sort, then the places.
use Rattle.std.proofs.Common.{◌≡◌, sym, ap, ◌∙◌, arith, ◌-◌}
use Rattle.meaning.specs.Record.{sort_of, kind_at, count}
use Rattle.shapes.specs.Uses.{sort_meant}
use Rattle.refusals.specs.Refused.{refused}
use Rattle.refusals.proofs.Answered.{positive}
use Rattle.checks.proofs.Counting.{none}
use Rattle.checks.proofs.Scan.{handed_on, tree_record, by_formula, by_path}
use Rattle.checks.proofs.refusal.tree_refusal.Goals as goal
use Rattle.checks.proofs.refusal.tree_refusal.Goals.{After-sort_of}

-- The last record's sort.
last : (c : After-sort_of) → sort_meant c.sort_of.result ≡ sort_of (kind_at c.args.s.now (count c.args.s.now - 1))
last c = c.sort_of.ensures ∙ ap sort_of c.kind_of.ensures ∙ rw c.record_count-last.ensures

pub records_refusal-requires : goal.records_refusal-requires
records_refusal-requires c = (c.requires.1, none)

pub returns-in_err-records_refusal : goal.returns-in_err-records_refusal
returns-in_err-records_refusal c =
    let same = handed_on c.from_residual.result _ c.from_residual.ensures.1 ∙ sym c.in_err-records_refusal.was in
    let some = positive c.in_err-records_refusal.field-0.0 in
    rw same (tree_record _ _ _ c.records_refusal.ensures.refusal (λ z. omega (arith, some, ap refused c.in_err-records_refusal.was)))

pub places_refusal-requires : goal.places_refusal-requires
places_refusal-requires c = (c.requires.0, c.requires.1, c.records_refusal.ensures.places (ap refused c.in_ok-records_refusal.was))

pub returns-in-Formula : goal.returns-in-Formula
returns-in-Formula c =
    c.places_refusal.ensures
    ∙ by_formula _ _ _ (sym c.records_refusal.ensures.refusal ∙ ap refused c.in_ok-records_refusal.was)
    (rw c.in-Formula.is at (last (goal.at.returns-in-Formula c).After-sort_of))

pub returns-in-Path : goal.returns-in-Path
returns-in-Path c =
    by_path _ _ _ (sym c.records_refusal.ensures.refusal ∙ ap refused c.in_ok-records_refusal.was)
    (rw c.in-Path.is at (last (goal.at.returns-in-Path c).After-sort_of))
