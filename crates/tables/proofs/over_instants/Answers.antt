-- Each turn goes from f at j to f at the next instant.
use Rattle.std.proofs.Common.{◌≡◌, arith}
use Rattle.tables.proofs.over_instants.Goals as goal

pub loop-j-init : goal.loop-j-init
loop-j-init g c = λ f z step. z

pub loop-j-preserved : goal.loop-j-preserved
loop-j-preserved g c = λ f z step. step c.loop-j.j _ (omega arith) (rw (c.loop-j.invariant f z step) at c.take-value.ensures)

pub returns : goal.returns
returns g c = λ n f e z step.
    let all : c.loop-j.j ≡ n = omega arith in
    rw (← all) (c.loop-j.invariant f z (λ j v h. step j v (omega arith)))
