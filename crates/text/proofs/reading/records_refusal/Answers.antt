-- An atom beyond decides, and else the room.
use Rattle.std.proofs.Common.{ℕ, ◌≡◌, List, rules, sym, arith}
use Rattle.meaning.specs.Refusal.{ground5, first_of, atom_grounds, records_grounds}
use Rattle.meaning.proofs.First.{Clear, none_clear, numbered_each}
use Rattle.refusals.specs.Refused.{number_of}
use Rattle.refusals.proofs.Answered.{positive}
use Rattle.text.proofs.Storing.{refused_first, refused_after, room_short, has_room}
use Rattle.text.proofs.reading.records_refusal.Goals as goal

passed : (s : List ℕ) (n A : ℕ) → 0 ≡ first_of (atom_grounds s n A) → Clear (atom_grounds s n A)
unfolding ground5
passed s n A e = none_clear _ (numbered_each _ _ (λ r. omega arith)) (sym e)

pub returns-in_err-atoms_refusal : goal.returns-in_err-atoms_refusal
returns-in_err-atoms_refusal c =
    let why = c.in_err-atoms_refusal.field-0.0 in
    let some = positive why in
    let found : number_of why ≡ first_of (records_grounds c.args.records.now c.args.n c.args.atoms c.args.room) =
    refused_first _ _ c.in_err-atoms_refusal.ensures (λ e. omega arith) in
    search rules

pub returns-then-room-n : goal.returns-then-room-n
returns-then-room-n c =
    let clear = passed c.args.records.now c.args.n c.args.atoms c.in_ok-atoms_refusal.ensures in
    refused_after (atom_grounds c.args.records.now c.args.n c.args.atoms) _ clear (room_short _ _ c.if-room-n.true)

pub returns : goal.returns
returns c =
    let clear = passed c.args.records.now c.args.n c.args.atoms c.in_ok-atoms_refusal.ensures in
    refused_after (atom_grounds c.args.records.now c.args.n c.args.atoms) _ clear (has_room _ _ c.if-room-n.false)
