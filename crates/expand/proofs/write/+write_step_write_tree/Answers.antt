-- A part is an earlier record. The loop goes through the tree's steps.
use Rattle.std.proofs.Common.{arith}
use Rattle.expand.specs.Steps.{step_from, step_size}
use Rattle.expand.proofs.Parts.{first_part, second_part}
use Rattle.expand.proofs.Writing.{going_none, going_fits, going_over, going_more, going_done}
use Rattle.expand.proofs.write.+write_step_write_tree.Goals as goal

pub write_step-write_tree-requires : goal.write_step-write_tree-requires
write_step-write_tree-requires t c =
    let (w, f, _, few) = c.requires in
    let p = first_part w (rw c.in-PartA.is at f) in
    (omega (arith, c.decreases, p.earlier), rw c.field_a.ensures (p.expandable, few))

pub write_step-write_tree-requires-in-PartB : goal.write_step-write_tree-requires-in-PartB
write_step-write_tree-requires-in-PartB t c =
    let (w, f, _, few) = c.requires in
    let p = second_part w (rw c.in-PartB.is at f) in
    (omega (arith, c.decreases, p.earlier), rw c.field_b.ensures (p.expandable, few))

pub write_step-returns-in-PartA : goal.write_step-returns-in-PartA
unfolding step_from step_size
write_step-returns-in-PartA t c =
    let (w, f, _, _) = c.requires in
    let p = first_part w (rw c.in-PartA.is at f) in
    rw (c.in-PartA.is, p.bytes c.args.n, p.count, ← c.field_a.ensures) c.write_tree.ensures

pub write_step-returns-in-PartB : goal.write_step-returns-in-PartB
unfolding step_from step_size
write_step-returns-in-PartB t c =
    let (w, f, _, _) = c.requires in
    let p = second_part w (rw c.in-PartB.is at f) in
    rw (c.in-PartB.is, p.bytes c.args.n, p.count, ← c.field_b.ensures) c.write_tree-in-PartB.ensures

pub write_tree-loop-step-init : goal.write_tree-loop-step-init
write_tree-loop-step-init t c = going_none c.requires.0 c.requires.1 (rw c.kind_of.ensures at c.row_of-step-items.ensures)

pub write_tree-write_step-requires : goal.write_tree-write_step-requires
write_tree-write_step-requires t c =
    let g = c.loop-step.invariant in
    (omega (arith, c.decreases), (c.requires.0, going_fits g c.loop-step-test.true, omega (arith, g.below, g.low), g.low))

pub write_tree-returns-in_err-next : goal.write_tree-returns-in_err-next
write_tree-returns-in_err-next t c =
    rw c.from_residual.ensures (going_over c.loop-step.invariant c.loop-step-test.true c.in_err-next.ensures)

pub write_tree-loop-step-preserved : goal.write_tree-loop-step-preserved
write_tree-loop-step-preserved t c =
    rw c.next_under-under.ensures (going_more c.loop-step.invariant c.loop-step-test.true c.in_ok-next.ensures)

pub write_tree-returns : goal.write_tree-returns
write_tree-returns t c = going_done c.loop-step.invariant c.loop-step-test.false
