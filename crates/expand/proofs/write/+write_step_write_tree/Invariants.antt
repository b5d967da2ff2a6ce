-- A part is an earlier record, and a tree's steps are below the tree: the measure is twice the record's number, and one more for a tree.
-- The loop goes through the tree's steps.
use Rattle.std.proofs.Common.{◌+◌, ◌*◌}
use Rattle.expand.proofs.Writing.{Going}
use Rattle.expand.proofs.write.+write_step_write_tree.Given as goal

abbrev pub decreases-write_step : goal.decreases-write_step
decreases-write_step l = 2 * l.r

abbrev pub decreases-write_tree : goal.decreases-write_tree
decreases-write_tree l = 2 * l.r + 1

abbrev pub invariant-write_tree-loop-step : goal.invariant-write_tree-loop-step
invariant-write_tree-loop-step l =
    Going l.records l.r l.from l.initial.buffer l.step-items l.step-index l.under l.n l.buffer
