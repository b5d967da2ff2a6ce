-- Each turn moves one more row, which is as it was.
use Rattle.std.proofs.Common.{refl, ◌∙◌, arith}
use Rattle.std.proofs.Math.Nat.{le_refl}
use Rattle.records.specs.Kinds.{way_meant}
use Rattle.rows.specs.Cells.{at}
use Rattle.rows.proofs.Following.{following_more}
use Rattle.rows.proofs.Same.{sequence_same}
use Rattle.joining.proofs.Shifting.{moved_by_move, moved_row}
use Rattle.joining.proofs.follow_move.Goals as goal

pub loop-k-preserved : goal.loop-k-preserved
loop-k-preserved c =
    let a = c.args in let k = c.loop-k.k in let s = c.loop-k.s in let w = c.loop-k.invariant in
    let own = w.ahead k (le_refl k) in
    following_more (omega arith) w c.put_row.ensures (λ j h.
    moved_row s k (omega arith) j h (way_meant a.way) (rw (c.number.ensures.same, c.shift_of-d.ensures.shift) at c.part-row.ensures)
    ∙ moved_by_move (way_meant a.way) a.l (at s) k j (λ i l. omega (arith, own i (omega arith), c.requires k i (omega arith) l))
    ∙ sequence_same a.l (at s) (at a.s.now) _ _ k j (λ i m. own i (omega arith)) (λ i m. refl))
