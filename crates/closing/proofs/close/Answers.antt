-- Each turn closes the square by way of one more instant.
use Rattle.std.proofs.Common.{arith}
use Rattle.closing.proofs.Closure.{closing_none, closing_more, closing_done, closing_same}
use Rattle.closing.proofs.close.Goals as goal

pub loop-mid-init : goal.loop-mid-init
loop-mid-init c = record {
  size = c.stand.ensures.size;
  closed = closing_same (omega arith) (closing_none c.requires) c.stand.ensures.cells;
}

pub loop-mid-preserved : goal.loop-mid-preserved
loop-mid-preserved c = record {
  size = c.pass.ensures.size;
  closed =
      closing_same (omega arith) (closing_more (omega arith) c.loop-mid.invariant.closed)
      (λ k j h l. c.pass.ensures.passed k j (omega arith) (omega arith) (omega arith));
}

pub returns : goal.returns
returns c = record { size = c.loop-mid.invariant.size; cells = closing_done c.loop-mid.invariant.closed (omega arith) }
