-- The rules of each record follow those before, and the last rule follows them all.
use Rattle.std.proofs.Common.{◌<◌, arith}
use Rattle.meaning.specs.Record.{count}
use Rattle.copying.proofs.Appending.{append_next}
use Rattle.writing.proofs.Rowing.{words_at, record_words, room_next, all_written}
use Rattle.writing.proofs.write_rules.Goals as goal

pub put_rows-at-requires : goal.put_rows-at-requires
put_rows-at-requires c =
    let s = c.args.records.now in
    let l : c.loop-r.r < count s = omega (arith, c.record_count-n.ensures) in
    (omega arith, rw c.count_at-count.ensures.number (room_next s c.args.atoms c.requires.2 c.loop-r.r l c.loop-r.invariant))

pub loop-r-preserved : goal.loop-r-preserved
loop-r-preserved c =
    let s = c.args.records.now in
    append_next (words_at s c.args.atoms) c.loop-r.r c.loop-r.invariant
    (rw (record_words s c.args.atoms c.loop-r.r c.record_rows-rows.ensures c.count_at-count.ensures.number) at c.put_rows-at.ensures)

pub returns : goal.returns
returns c =
    let n = c.record_count-n.ensures in
    let (number, text) = all_written c.args.records.now c.args.atoms c.requires.2 {r = c.loop-r.r} (omega arith) c.loop-r.invariant
    (omega (arith, c.label.ensures)) c.assert_row-last.ensures c.append.ensures in
    record { count = number; words = text }
