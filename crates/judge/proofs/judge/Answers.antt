-- A refusal is the answer, and where there is none the first failure is.
use Rattle.std.proofs.Common.{ap}
use Rattle.judge.proofs.Answered.{tells_refusal, tells_found}
use Rattle.judge.proofs.judge.Goals as goal

pub returns-in_err-first_refusal : goal.returns-in_err-first_refusal
returns-in_err-first_refusal c =
    let e = tells_refusal _ _ _ _ c.from_residual.result _ c.from_residual.ensures.1 c.in_err-first_refusal.ensures in
    record { refusal = ap (λ j. j.refusal) e; holds = ap (λ j. j.holds) e; rule = ap (λ j. j.rule) e; instant = ap (λ j. j.instant) e }

pub returns : goal.returns
returns c =
    let e = tells_found _ _ _ _ c.first_failure.result c.in_ok-first_refusal.ensures c.first_failure.ensures in
    record { refusal = ap (λ j. j.refusal) e; holds = ap (λ j. j.holds) e; rule = ap (λ j. j.rule) e; instant = ap (λ j. j.instant) e }
