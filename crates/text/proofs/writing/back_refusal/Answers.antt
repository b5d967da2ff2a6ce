-- The first back step decides.
use Rattle.std.proofs.Common.{sym, ap, ◌∙◌, arith}
use Rattle.meaning.specs.Refusal.{ground18, is_back}
use Rattle.text.proofs.Backless.{backless_found, backless_more}
use Rattle.text.proofs.writing.back_refusal.Goals as goal

pub returns-then-is_back : goal.returns-then-is_back
unfolding ground18
returns-then-is_back c =
    backless_found c.loop-r.invariant (omega (arith, c.record_count-r-end.ensures)) (sym (ap is_back c.kind_of.ensures) ∙ sym c.is_back.ensures ∙ c.if-is_back.true)

pub loop-r-preserved : goal.loop-r-preserved
unfolding ground18
loop-r-preserved c = backless_more c.loop-r.invariant (sym (ap is_back c.kind_of.ensures) ∙ sym c.is_back.ensures ∙ c.if-is_back.false)
