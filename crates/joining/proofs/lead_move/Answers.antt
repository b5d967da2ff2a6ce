-- Each turn makes one more row, of the row of the instant beside.
use Rattle.std.proofs.Common.{◌∙◌, arith}
use Rattle.records.specs.Kinds.{way_meant}
use Rattle.rows.specs.Cells.{at}
use Rattle.rows.proofs.Following.{following_more}
use Rattle.joining.proofs.Shifting.{led_by_move}
use Rattle.joining.proofs.lead_move.Goals as goal

pub loop-k-preserved : goal.loop-k-preserved
loop-k-preserved c =
    let a = c.args in
    following_more (omega arith) c.loop-k.invariant c.put_row.ensures (λ j h.
    c.row_below-row.ensures.cells j (omega arith)
    ∙ rw c.beside.ensures (led_by_move (way_meant a.way) a.l (at a.q.now) c.loop-k.k j (λ i l. c.requires i j l h)))
