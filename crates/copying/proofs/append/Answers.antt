-- Each turn stores one more item.
use Rattle.std.proofs.Common.{◌≡◌, length, refl, arith}
use Rattle.std.proofs.lemmas.List.{take_all}
use Rattle.copying.proofs.Storing.{stored_more}
use Rattle.copying.proofs.append.Goals as goal

pub loop-i-preserved : goal.loop-i-preserved
loop-i-preserved g c =
    let e = stored_more c.args.items.now c.args.out.now c.args.at c.loop-i.i c.index-items-i.result (omega arith) in
    let was = c.loop-i.invariant in
    let item = c.index-items-i.is in
    rw (← e, ← item, was) refl

pub returns : goal.returns
returns g c =
    let end : c.loop-i.i ≡ length c.args.items.now = omega arith in
    record { place = refl; whole = rw (end, take_all (length c.args.items.now) c.args.items.now (omega arith)) at c.loop-i.invariant }
