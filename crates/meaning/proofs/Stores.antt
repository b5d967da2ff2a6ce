-- Runs of stores. What is stored right after a run makes one run with it, and a run from the first place on is what is
-- written.
use Prim.Native.Nat.{ℕ, suc, ◌+◌, ◌≤◌, ◌<◌}
use mathlib.Core.Path.{◌≡◌}
use mathlib.Core.List.{List, [], ◌∷◌, ◌++◌}
use native.Mathlib.Nat.{zero-add, add-zero, add-suc, suc-add}
use native.Mathlib.Numerals.{add-one}
use native.Mathlib.Omega.{arith}
use lib.ListN.{length, set, get_or, take, drop}
use lib.Seq.{sets, sets-eq, length-take-le, take-suc, take-append_seam}
use Rattle.meaning.specs.Run.{written}

pub sets_append : (xs ys l : List ℕ) (i : ℕ) → sets (sets l i xs) (i + length xs) ys ≡ sets l i (xs ++ ys)
sets_append [] ys l i = rw add-zero
sets_append (x ∷ xs) ys l i = rw (add-suc, ← suc-add) (sets_append xs ys (set l i x) (suc i))

pub sets_written : (xs l : List ℕ) → length xs ≤ length l → sets l 0 xs ≡ written xs l
unfolding written
sets_written xs l h = rw zero-add at (sets-eq xs l 0 (rw zero-add h))

-- Bytes that are copied one after the other: the next one is stored after those that were.
pub sets_more : (xs l : List ℕ) (at i : ℕ) → i < length xs
    → set (sets l at (take i xs)) (at + i) (get_or xs i 0) ≡ sets l at (take (i + 1) xs)
sets_more xs l at i h =
    rw (add-one, take-suc xs i 0)
    (rw (length-take-le i xs (omega arith)) at (sets_append (take i xs) (get_or xs i 0 ∷ []) l at))

-- What was stored from a buffer's start on is what it begins with; so copying that much to an output's start writes it there.
pub take_front : (xs l : List ℕ) → length xs ≤ length l → take (length xs) (sets l 0 xs) ≡ xs
unfolding written
take_front xs l h = rw (sets_written xs l h) (take-append_seam xs (drop (length xs) l))

pub front_copied : (xs l out : List ℕ) → length xs ≤ length l → length xs ≤ length out
    → sets out 0 (take (length xs) (sets l 0 xs)) ≡ written xs out
front_copied xs l out h k = rw (take_front xs l h) (sets_written xs out k)
