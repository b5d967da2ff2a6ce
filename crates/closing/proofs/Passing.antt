-- A pass by way of mid, row by row: writing row k changes no other row, so the rows that were passed are by way of mid too, and
-- those ahead are as they were.
use Prim.Native.Nat.{ℕ, ◌+◌, ◌<◌, ◌≤◌}
use mathlib.Core.Path.{◌≡◌, refl, ◌∙◌}
use mathlib.Core.Logic.{⊎_elim}
use mathlib.Core.List.{List}
use native.Mathlib.Nat.{le_refl}
use native.Mathlib.Omega.{arith}
use lib.ListN.{length, get_or}
use borrow.Author.Count.{below_more}
use Rattle.meaning.proofs.Bounds.{le_or_lt}
use Rattle.rows.specs.Cells.{width, area, at, Holds, Rowed}
use Rattle.rows.proofs.Diagonal.{Diagonal, diagonal_self}
use Rattle.closing.specs.Closing.{no_pass, by, Passed, PassedRows}

-- With 2 along the diagonal, and all else as it was.
pub stand_marked : {old s : List ℕ} {l n : ℕ} → l ≤ width → length old ≡ area → n ≡ l → Diagonal 0 (λ i. 2) old s n
    → Holds l s (no_pass (at old))
unfolding no_pass
stand_marked {old} u size = diagonal_self {base = λ m. get_or old m 0} u size (λ m h. refl)

-- Row k is made of itself, which no turn before has changed, and of a copy f of row mid from before the first turn.
pub passing_more : {mid from k : ℕ} {f : ℕ → ℕ} {old s new : List ℕ} → mid < width → from ≤ k → PassedRows mid from k old s
    → ((j : ℕ) → j < width → f j ≡ at old mid j) → Passed k (at s k mid) f s new → PassedRows mid from (k + 1) old new
unfolding by
passing_more {mid} {from} {k} {old = old} {new = new} h g w copy p = record {
  size = p.size;
  passed = λ r j a b l.
      below_more (λ (r : ℕ). from ≤ r → at new r j ≡ by (at old) mid r j) k
      (λ r m a. p.others r j (λ z. omega arith) l ∙ w.passed r j a m l)
      (λ _. let own = w.past k in p.row j l ∙ omega (arith, own j (le_refl k) l, own mid (le_refl k) h, copy j l))
      r b a;
  before = λ r j b l. p.others r j (λ z. omega arith) l ∙ w.before r j b l;
  past = λ r j b l. p.others r j (λ z. omega arith) l ∙ w.past r j (omega arith) l;
}

-- A pass of row k alone.
pub passed_one : {mid k : ℕ} {old new : List ℕ} → PassedRows mid k (k + 1) old new → Rowed k (by (at old) mid k) old new
passed_one {mid} {k} {old} {new} w = record {
  size = w.size;
  row = λ j l. w.passed k j (le_refl k) (omega arith) l;
  others = λ q j n l.
      ⊎_elim (λ (h : k ≤ q). w.past q j (omega arith) l) (λ (h : q < k). w.before q j h l) (le_or_lt k q);
}
