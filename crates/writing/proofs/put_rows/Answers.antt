-- Each row follows those before.
use Rattle.std.proofs.Common.{◌≡◌, ◌+◌, min, arith}
use Rattle.copying.proofs.Appending.{append_more}
use Rattle.writing.proofs.Rowing.{row_more}
use Rattle.writing.proofs.put_rows.Goals as goal
use Rattle.writing.proofs.put_rows.Goals.{then-i-count, else-i-count}

pub append-end-requires : goal.append-end-requires
append-end-requires c =
    let size = c.told-rows c.loop-i.i c.loop-i-test.true in
    omega arith

pub loop-i-preserved : goal.loop-i-preserved
loop-i-preserved c = elim c.if-i-count.branch [
  | then-i-count w ↦
      let size = c.told-rows c.loop-i.i c.loop-i-test.true in
      let some : min (c.loop-i.i + 1) c.args.count ≡ c.loop-i.i + 1 = omega arith in
      let none : min c.loop-i.i c.args.count ≡ c.loop-i.i = omega arith in
      record {
        here = rw w.end-is (omega (arith, w.append-end.ensures.place));
        stored =
            rw (some, w.end-is, w.out-is, row_more c.args.rows.now c.loop-i.i c.loop-i-test.true)
            (append_more (rw none at c.loop-i.invariant.stored) w.append-end.ensures);
      }
  | else-i-count w ↦
      let same : min (c.loop-i.i + 1) c.args.count ≡ min c.loop-i.i c.args.count = omega arith in
      record { here = rw (w.end-is, same) c.loop-i.invariant.here; stored = rw (w.end-is, w.out-is, same) c.loop-i.invariant.stored }
]

pub returns : goal.returns
returns c =
    let all : min c.loop-i.i c.args.count ≡ c.args.count = omega arith in
    rw all at c.loop-i.invariant.stored
