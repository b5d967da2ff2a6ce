-- The buffer begins with the records, which are looked at, and copied where there is room.
use Rattle.std.proofs.Common.{ℕ, ◌*◌, List, refl, replicate, arith}
use Rattle.std.proofs.lemmas.Result.{err_from_is_err_and}
use Rattle.meaning.specs.Record.{record_size, most_records}
use Rattle.refusals.proofs.Answered.{positive}
use Rattle.text.proofs.Storing.{records_refused, records_room, records_stored}
use Rattle.text.proofs.reading.read_formula.Goals as goal

abbrev zeros : List ℕ
zeros = replicate (record_size * most_records) 0

pub returns-in_err-records_refusal : goal.returns-in_err-records_refusal
returns-in_err-records_refusal c =
    let p = c.requires in
    let same = err_from_is_err_and c.from_residual.result c.from_residual.ensures.1 in
    let some = positive c.in_err-records_refusal.field-0.0 in
    rw (same.1, same.2)
    (records_refused _ zeros (rw (← p.counts) p.few) refl c.write_records.ensures p.counts _ _ c.in_err-records_refusal.ensures (λ e. omega arith))

pub copy-requires : goal.copy-requires
copy-requires c =
    let p = c.requires in (
      omega arith,
      records_room _ zeros (rw (← p.counts) p.few) refl c.write_records.ensures p.counts _ c.args.out.now c.in_ok-records_refusal.ensures refl,
    )

pub returns : goal.returns
returns c =
    let p = c.requires in
    records_stored _ zeros (rw (← p.counts) p.few) refl c.write_records.ensures p.counts _ _ c.in_ok-records_refusal.ensures refl c.copy.ensures
