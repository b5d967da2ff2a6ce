-- Before record r no ground applies, and the places of the first r records are counted.
use Rattle.std.proofs.Common.{◌≡◌, sym, ap, ◌∙◌, arith}
use Rattle.meaning.proofs.First.{scan_none, scan_more, scan_found, scan_done, none_clear}
use Rattle.refusals.specs.Refused.{refused}
use Rattle.refusals.proofs.Answered.{positive}
use Rattle.checks.proofs.Scan.{record_numbered, handed_on}
use Rattle.checks.proofs.refusal.records_refusal.Goals as goal

pub loop-r-init : goal.loop-r-init
loop-r-init c = (scan_none _, c.requires.1)

pub returns-in_err-record_refusal : goal.returns-in_err-record_refusal
returns-in_err-record_refusal c =
    let same = handed_on c.from_residual.result _ c.from_residual.ensures.1 ∙ sym c.in_err-record_refusal.was in
    let some : (refused c.record_refusal.result ≡ 0 → ⊥) = λ z. omega (arith, positive c.in_err-record_refusal.field-0.0, ap refused c.in_err-record_refusal.was) in
    rw same record {
      refusal = scan_found _ _ _ (omega arith) c.loop-r.invariant.0 c.record_refusal.ensures.refusal some;
      places = λ z. absurd (some z);
    }

pub loop-r-preserved : goal.loop-r-preserved
loop-r-preserved c =
    let passed = c.record_refusal.ensures in
    let clear = ap refused c.in_ok-record_refusal.was in
    (scan_more _ _ c.loop-r.invariant.0 (none_clear _ (record_numbered _ _ _ _) (sym passed.refusal ∙ clear)), passed.places clear)

pub returns : goal.returns
returns c =
    let end : c.loop-r.r ≡ c.record_count-r-end.result = omega arith in
    record {
      refusal = scan_done _ _ _ (omega arith) c.loop-r.invariant.0;
      places = λ z. rw (end ∙ c.record_count-r-end.ensures) at c.loop-r.invariant.1;
    }
