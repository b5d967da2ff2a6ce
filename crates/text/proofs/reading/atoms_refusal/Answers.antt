-- The first atom that is beyond decides.
use Rattle.std.proofs.Common.{sym, ◌∙◌, arith}
use Rattle.meaning.specs.Refusal.{ground5}
use Rattle.meaning.proofs.First.{scan_none, scan_done}
use Rattle.text.proofs.Scanning.{one_found, one_more}
use Rattle.text.proofs.reading.atoms_refusal.Goals as goal

pub loop-r-init : goal.loop-r-init
loop-r-init c = scan_none _

pub returns-then-is_beyond : goal.returns-then-is_beyond
unfolding ground5
returns-then-is_beyond c =
    one_found _ _ _ (omega arith) c.loop-r.invariant (sym c.is_beyond.ensures ∙ c.if-is_beyond.true) (omega arith)

pub loop-r-preserved : goal.loop-r-preserved
loop-r-preserved c = one_more _ _ c.loop-r.invariant (sym c.is_beyond.ensures ∙ c.if-is_beyond.false)

pub returns : goal.returns
returns c = scan_done _ _ _ (omega arith) c.loop-r.invariant
