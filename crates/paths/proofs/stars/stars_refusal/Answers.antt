-- One record more is clear at each turn, and its moves are known.
use Rattle.std.proofs.Common.{◌≡◌, rules, arith}
use Rattle.meaning.specs.Refusal.{first_of, star_grounds}
use Rattle.meaning.proofs.First.{scan_none, scan_more, scan_found, scan_done}
use Rattle.refusals.specs.Refused.{number_of}
use Rattle.refusals.proofs.Answered.{positive}
use Rattle.paths.proofs.Moving.{known_none, known_more, grounds_clear}
use Rattle.paths.proofs.stars.stars_refusal.Goals as goal

pub loop-r-init : goal.loop-r-init
loop-r-init c = record { clear = scan_none _; known = known_none _ }

pub returns-in_err-star_refusal : goal.returns-in_err-star_refusal
unfolding star_grounds
returns-in_err-star_refusal c =
    let why = c.in_err-star_refusal.field-0.0 in
    let some = positive why in
    let found : number_of why ≡ first_of (star_grounds c.args.records.now) =
    scan_found _ _ _ (omega (arith, c.record_count-r-end.ensures)) c.loop-r.invariant.clear c.in_err-star_refusal.ensures (λ e. omega arith) in
    search rules

pub loop-r-preserved : goal.loop-r-preserved
loop-r-preserved c = record {
  clear = scan_more _ _ c.loop-r.invariant.clear (grounds_clear _ _ c.in_ok-star_refusal.ensures);
  known = known_more (omega (arith, c.record_count-r-end.ensures)) c.loop-r.invariant.known c.moves_of.ensures;
}

pub returns : goal.returns
unfolding star_grounds
returns c = scan_done _ _ _ (omega arith) c.loop-r.invariant.clear
