-- Each turn makes one more row of the sequence, from a row that is as it was.
use Rattle.std.proofs.Common.{refl, ◌∙◌, arith}
use Rattle.std.proofs.Math.Nat.{le_refl}
use Rattle.rows.specs.Cells.{at}
use Rattle.rows.proofs.Same.{sequence_same}
use Rattle.rows.proofs.Following.{following_more}
use Rattle.joining.proofs.follow.Goals as goal

pub loop-k-preserved : goal.loop-k-preserved
loop-k-preserved c =
    let turn = c.loop-k.invariant in let k = c.loop-k.k in
    following_more (omega arith) turn c.put_row.ensures (λ j h.
    c.led_row-row.ensures.cells j (omega arith)
    ∙ sequence_same c.args.l (at c.loop-k.s) (at c.args.s.now) (at c.args.q.now) (at c.args.q.now) k j
    (λ i m. turn.ahead k (le_refl k) i (omega arith)) (λ i m. refl))
