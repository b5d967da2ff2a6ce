-- Each turn makes one more row the star's, from the row beside it.
use Rattle.std.proofs.Common.{arith}
use Rattle.records.specs.Kinds.{way_meant}
use Rattle.closing.proofs.Running.{Turn, running_none, running_more}
use Rattle.closing.proofs.run.Goals.{in-Ahead, in-Back}
use Rattle.closing.proofs.run.Goals as goal

pub loop-i-init : goal.loop-i-init
loop-i-init c = running_none c.requires c.stand.ensures

pub loop-i-preserved : goal.loop-i-preserved
loop-i-preserved c =
    let turn : Turn (way_meant c.args.way) c.args.l c.loop-i.i c.match-way.k.0 c.match-way.k.1 =
    elim c.match-way.branch [
      | in-Ahead w ↦ rw (w.in-Ahead.is, w.k-is) (omega arith, omega arith)
      | in-Back w ↦ rw (w.in-Back.is, w.k-is) (omega arith, omega arith)
    ] in
    running_more c.loop-i.invariant (omega arith) (omega arith) (omega arith) turn c.pass.ensures
