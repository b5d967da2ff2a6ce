-- Each byte is the greater of the two.
use Rattle.std.proofs.Common.{◌∙◌, ◌+◌, ◌*◌, arith}
use Rattle.meaning.specs.Value.{choice_square}
use Rattle.rows.specs.Cells.{width}
use Rattle.joining.proofs.choose.Goals as goal

pub returns : goal.returns
unfolding choice_square
returns c =
    let w = c.loop-i.invariant in record { size = w.size ∙ c.told-s; cells = λ k j h l. w.on (k * width + j) (omega arith) }
