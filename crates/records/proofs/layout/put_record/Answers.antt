-- A record's bytes, put in their place, are as if they had been stored one after the other.
use Rattle.std.proofs.Common.{◌≡◌, ℕ, ◌+◌, ◌≤◌, List, length, arith, append_assoc}
use Rattle.std.proofs.Math.Seq.{sets, sets-eq, drop-drop}
use Rattle.meaning.specs.Record.{bytes_of}
use borrow.Rule.Slice.PartMut.{put_mid}
use Rattle.records.proofs.layout.put_record.Goals as goal

stored : (at k : ℕ) (old part items : List ℕ) → part ≡ items → k ≡ length items → at + k ≤ length old
    → put_mid at k old part ≡ sets old at items
stored at k old part items e n fits = rw (e, sets-eq items old at (omega arith), drop-drop k at old, n, append_assoc)

pub returns : goal.returns
returns c =
    stored _ _ _ _ (bytes_of c.args.kind c.args.a c.args.b) (c.copy_from_slice.ensures.after) (omega arith) (omega arith)
