-- A rule that is not in form is the first.
use Rattle.std.proofs.Common.{sym, ◌∙◌, arith}
use Rattle.meaning.specs.Refusal.{of_first, ground13}
use Rattle.meaning.proofs.First.{scan_found}
use Rattle.judge.proofs.form.each_refusal.Goals as goal

pub returns-then-is_bad : goal.returns-then-is_bad
unfolding of_first ground13
returns-then-is_bad c =
    let bad = rw c.in_ok-rule.ensures at (sym c.is_bad.ensures ∙ c.if-is_bad.true) in
    scan_found _ _ _ (omega arith) c.loop-i.invariant (simp bad) (λ z. omega arith)
