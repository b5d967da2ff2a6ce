-- With signs and parts put one after another, a record's text is put.
use Rattle.std.proofs.Common.{ℕ, ◌+◌, ◌<◌, ◌≤◌, ◌≡◌, List, length, arith}
use Rattle.meaning.specs.Text.{most_text}
use Rattle.records.specs.Kinds.{kind_meant}
use Rattle.spelling.specs.Spelling.{own_sign, text_at, Spelling}
use Rattle.spelling.proofs.Parts.{Read, One, Two, low, no_part, one_part, two_parts}
use Rattle.spelling.proofs.Putting.{put_more}
use Rattle.spelling.proofs.+spell_record.Goals as goal
use Rattle.spelling.proofs.+spell_record.Goals.{After-field_b-b, In_default-use_b, In-Child-use_b}

-- The record as it was read.
read : {t : ℕ} (c : After-field_b-b t)
    → Read c.args.records.now c.args.r c.args.page.now.size (kind_meant c.kind_of-kind.result) c.field_a-a.result c.field_b-b.result
read c = record { asked = c.requires; kind = c.kind_of-kind.ensures; first = c.field_a-a.ensures; second = c.field_b-b.ensures }

-- A part may be spelled from the place e on.
part : {s : List ℕ} {r at t : ℕ} (q e : ℕ) → r ≡ t → Spelling s r at → q < r → e + length (text_at s q) ≤ most_text → (q < t) × Spelling s q e
part q e here g l room = (omega arith, record { whole = g.whole; index = omega (arith, g.index); room = room })

-- ---- no part
pub put_own-requires : goal.put_own-requires
put_own-requires t c =
    let d = (goal.at.put_own-requires t c).After-field_b-b in
    record { low = low (read d); room = rw (no_part (read d) _ c.use_a.ensures c.in_default.not-Child) at c.requires.room }

pub returns-in_default : goal.returns-in_default
returns-in_default t c =
    let d = (goal.at.returns-in_default t c).After-field_b-b in
    rw (no_part (read d) _ c.use_a.ensures c.in_default.not-Child) c.put_own.ensures

-- ---- one part
one : {t : ℕ} (c : In_default-use_b t)
    → One c.args.records.now c.args.r c.args.page.now.size c.field_a-a.result (own_sign (kind_meant c.kind_of-kind.result) c.field_a-a.result)
one {t} c = one_part (read (goal.at.In_default-use_b t c).After-field_b-b) c.in-Child.ensures _ c.use_b.ensures c.in_default-use_b.not-Child

pub put_own-requires-in_default-use_b : goal.put_own-requires-in_default-use_b
put_own-requires-in_default-use_b t c =
    let g = one (goal.at.put_own-requires-in_default-use_b t c).In_default-use_b in
    record { low = low (read (goal.at.put_own-requires-in_default-use_b t c).After-field_b-b); room = omega (arith, g.room) }

pub spell_record-requires : goal.spell_record-requires
spell_record-requires t c =
    let g = one (goal.at.spell_record-requires t c).In_default-use_b in
    part _ _ c.decreases c.requires g.first (omega (arith, g.room, c.put_own-in_default-use_b.ensures.text.place))

pub returns-in_default-use_b : goal.returns-in_default-use_b
returns-in_default-use_b t c =
    let g = one (goal.at.returns-in_default-use_b t c).In_default-use_b in
    rw g.text (put_more c.put_own-in_default-use_b.ensures c.spell_record.ensures)

-- ---- two parts
two : {t : ℕ} (c : In-Child-use_b t)
    → Two c.args.records.now c.args.r c.args.page.now.size c.field_a-a.result c.field_b-b.result (own_sign (kind_meant c.kind_of-kind.result) c.field_a-a.result)
two {t} c = two_parts (read (goal.at.In-Child-use_b t c).After-field_b-b) c.in-Child.ensures c.in-Child-use_b.ensures

pub put-requires : goal.put-requires
put-requires t c =
    let g = two (goal.at.put-requires t c).In-Child-use_b in
    omega (arith, g.room)

pub spell_record-requires-2 : goal.spell_record-requires-2
spell_record-requires-2 t c =
    let g = two (goal.at.spell_record-requires-2 t c).In-Child-use_b in
    part _ _ c.decreases c.requires g.first (omega (arith, g.room, c.put.ensures.text.place))

pub put_own-requires-2 : goal.put_own-requires-2
put_own-requires-2 t c =
    let g = two (goal.at.put_own-requires-2 t c).In-Child-use_b in
    record {
      low = low (read (goal.at.put_own-requires-2 t c).After-field_b-b);
      room = omega (arith, g.room, c.put.ensures.text.place, c.spell_record-2.ensures.text.place);
    }

pub spell_record-requires-3 : goal.spell_record-requires-3
spell_record-requires-3 t c =
    let g = two (goal.at.spell_record-requires-3 t c).In-Child-use_b in
    part _ _ c.decreases c.requires g.second
    (omega (arith, g.room, c.put.ensures.text.place, c.spell_record-2.ensures.text.place, c.put_own-2.ensures.text.place))

pub put-requires-2 : goal.put-requires-2
put-requires-2 t c =
    let g = two (goal.at.put-requires-2 t c).In-Child-use_b in
    omega (arith, g.room, c.put.ensures.text.place, c.spell_record-2.ensures.text.place, c.put_own-2.ensures.text.place, c.spell_record-3.ensures.text.place)

pub returns : goal.returns
returns t c =
    let g = two (goal.at.returns t c).In-Child-use_b in
    rw g.text (put_more c.put.ensures (put_more c.spell_record-2.ensures (put_more c.put_own-2.ensures (put_more c.spell_record-3.ensures c.put-2.ensures))))
