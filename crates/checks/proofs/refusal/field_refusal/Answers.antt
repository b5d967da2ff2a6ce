-- An earlier child is refused by its sort, or else counted.
use Rattle.std.proofs.Common.{◌≡◌, cond, arith, ap, ◌∙◌}
use Rattle.meaning.specs.Record.{child, sort_of}
use Rattle.meaning.specs.Refusal.{first_of}
use Rattle.shapes.specs.Uses.{sort_meant}
use Rattle.checks.specs.Places.{field_grounds}
use Rattle.checks.proofs.Fields.{by_child}
use Rattle.checks.proofs.Counting.{kept, stored}
use Rattle.checks.proofs.refusal.field_refusal.Goals as goal
use Rattle.checks.proofs.refusal.field_refusal.Goals.{After-ne}

-- What the test of the sorts says.
by_sort : (c : After-ne)
    → cond c.ne.result 6 0 ≡ first_of (field_grounds c.args.s.now c.args.atoms c.args.r (child (sort_meant c.in-Child.sort)) c.args.v)
by_sort c = by_child _ _ _ _ _ _ c.if-r-v.false (c.sort_of.ensures ∙ ap sort_of c.kind_of.ensures) c.ne.ensures

pub returns-then-ne : goal.returns-then-ne
returns-then-ne c =
    let first = rw c.if-ne.true at (by_sort (goal.at.returns-then-ne c).After-ne) in
    rw c.in-Child.is (kept c.requires.2 first (λ z. absurd (omega arith)))

pub returns-else-ne : goal.returns-else-ne
returns-else-ne c =
    let first = rw c.if-ne.false at (by_sort (goal.at.returns-else-ne c).After-ne) in
    rw c.in-Child.is (stored c.requires.2 first (omega arith) c.one_more.ensures)
