-- Where a path leads: to the instants j with a value above 0 from k to j. A move leads to the instant beside k; a
-- test, and no pass of a star, to k itself; and a sequence by way of some instant below L.
use Prim.Native.Nat.{ℕ, ◌+◌, ◌≤◌, ◌<◌, min, zero-le}
use mathlib.Core.Path.{◌≡◌}
use mathlib.Core.Bool.{cond}
use native.Mathlib.Nat.{le_refl, le_trans, le-min}
use native.Mathlib.Decide.{ℕ_discrete}
use native.Mathlib.Omega.{arith}
use lib.Dec.{eqb}
use borrow.Author.Tests.{eq-eqb, ne_eqb}
use Rattle.meaning.specs.Record.{Way, ahead, back}
use Rattle.meaning.specs.Value.{Square, move_square, sequence_square}
use Rattle.meaning.proofs.Bounds.{cond_within, greatest_member, greatest_reached}

-- ---- a value at one place, and 0 elsewhere
-- What is above 0 is at that place.
pub only_there : (i j v : ℕ) → 0 < cond (eqb i j) v 0 → i ≡ j
only_there i j v z = elim (ℕ_discrete i j) [ yes e ↦ e | no d ↦ absurd (omega (arith, rw (ne_eqb i j d) at z)) ]

-- At that place it is the value.
pub value_there : (i j v : ℕ) → i ≡ j → cond (eqb i j) v 0 ≡ v
value_there i j v e = rw (eq-eqb i j e)

-- It is at most the value.
pub there_bound : (i j v : ℕ) → cond (eqb i j) v 0 ≤ v
there_bound i j v = cond_within (eqb i j) (le_refl v) zero-le

-- ---- moves
-- In the way w, j is the instant beside k.
unfoldable pub Beside : Way → ℕ → ℕ → Type 0
Beside ahead k j = j ≡ k + 1
Beside back k j = j + 1 ≡ k

-- There is at most one such instant.
pub beside_one : (w : Way) (k i j : ℕ) → Beside w k i → Beside w k j → j ≡ i
unfolding Beside
beside_one ahead k i j = omega arith
beside_one back k i j = omega arith

-- A move leads there only.
pub move_beside : (w : Way) (k j : ℕ) → 0 < move_square w k j → Beside w k j
unfolding Beside move_square
move_beside ahead k j = only_there j (k + 1) 2
move_beside back k j = only_there (j + 1) k 2

-- It leads there with the value 2.
pub beside_move : (w : Way) (k j : ℕ) → Beside w k j → move_square w k j ≡ 2
unfolding Beside move_square
beside_move ahead k j = value_there j (k + 1) 2
beside_move back k j = value_there (j + 1) k 2

-- ---- sequences
-- A value of a sequence comes by way of some instant.
pub sequence_elim : (L : ℕ) (p q : Square) (k j v : ℕ) → 0 < v → v ≤ sequence_square L p q k j →
    (i : ℕ) × (i < L) × (v ≤ p k i) × (v ≤ q i j)
unfolding sequence_square
sequence_elim L p q k j v z h = let (i, l, a) = greatest_reached L _ v z h in (i, l, omega arith, omega arith)

-- What both parts are worth by way of i the sequence is worth.
pub sequence_intro : (L : ℕ) (p q : Square) (k i j v : ℕ) → i < L → v ≤ p k i → v ≤ q i j → v ≤ sequence_square L p q k j
unfolding sequence_square
sequence_intro L p q k i j v l a b = le_trans (le-min a b) (greatest_member L (λ i. min (p k i) (q i j)) i l)
