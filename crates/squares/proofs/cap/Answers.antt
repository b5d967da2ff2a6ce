-- Each turn caps one more row, which is as it was.
use Rattle.std.proofs.Common.{ℕ, ◌<◌, arith}
use Rattle.std.proofs.lemmas.List.{get_or-replicate}
use Rattle.std.proofs.Math.Nat.{le_refl}
use Rattle.rows.specs.Cells.{width}
use Rattle.rows.proofs.Following.{following_more}
use Rattle.squares.proofs.cap.Goals as goal

pub loop-k-preserved : goal.loop-k-preserved
loop-k-preserved c =
    let turn = c.loop-k.invariant in let k = c.loop-k.k in
    following_more (omega arith) turn c.put_row.ensures (λ j h.
    let l : j < width = omega arith in
    omega (arith, c.raise.ensures.cells j l, c.row_of-own.ensures.cells j l, get_or-replicate {A = ℕ} width j 0 0 l, turn.ahead k (le_refl k) j l))
