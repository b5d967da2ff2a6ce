-- Items stored one after the other: the next one is stored after those that were, and a part put in its place is as if its items had been
-- stored so.
use Rattle.std.proofs.Common.{◌≡◌, ℕ, zero, suc, ◌+◌, ◌<◌, ◌≤◌, List, [], ◌∷◌, length, get_or, take, add-one, append_assoc, arith}
use Rattle.std.proofs.Math.Seq.{sets, sets-eq, drop-drop}
use borrow.Rule.Slice.PartMut.{put_mid}
use Rattle.std.proofs.Math.ListN.{set}
use native.Mathlib.Nat.{add-zero, add-suc, suc-add}

one_more : {T : Type 0} (items old : List T) (at i : ℕ) (d : T) → i < length items
    → set (sets old at (take i items)) (at + i) (get_or items i d) ≡ sets old at (take (suc i) items)
one_more [] old at i d h = absurd (omega arith)
one_more (x ∷ items) old at zero d h = rw add-zero
one_more (x ∷ items) old at (suc i) d h = rw (add-suc, ← suc-add) (one_more items (set old at x) (suc at) i d (omega arith))

pub stored_more : {T : Type 0} (items old : List T) (at i : ℕ) (d : T) → i < length items
    → set (sets old at (take i items)) (at + i) (get_or items i d) ≡ sets old at (take (i + 1) items)
stored_more items old at i d h = rw add-one (one_more items old at i d h)

pub stored : {T : Type 0} (at k : ℕ) (old part items : List T) → part ≡ items → k ≡ length items → at + k ≤ length old
    → put_mid at k old part ≡ sets old at items
stored at k old part items e n fits = rw (e, sets-eq items old at (omega arith), drop-drop k at old, n, append_assoc)
