-- A square that is written row by row from its front, by the rule f over L instants. Writing row k changes no other row,
-- so the rows that were passed go by the rule, and those ahead are as they were.
use Prim.Native.Nat.{ℕ, ◌+◌, ◌<◌, ◌≤◌}
use mathlib.Core.Path.{◌≡◌, refl, ◌∙◌}
use mathlib.Core.List.{List}
use native.Mathlib.Omega.{arith}
use lib.ListN.{length}
use borrow.Author.Count.{below_more}
use Rattle.meaning.specs.Value.{Square}
use Rattle.rows.specs.Cells.{width, area, at, Holds, Rowed}

pub record Following (L : ℕ) (f : Square) (old s : List ℕ) (k : ℕ) : Type 0 where
  pub size : length s ≡ area
  pub passed : (r : ℕ) → r < k → (j : ℕ) → j < L → at s r j ≡ f r j
  pub ahead : (r : ℕ) → k ≤ r → (j : ℕ) → j < width → at s r j ≡ at old r j

pub following_more : {L : ℕ} {f : Square} {g : ℕ → ℕ} {old s new : List ℕ} {k : ℕ} → L ≤ width → Following L f old s k
    → Rowed k g s new → ((j : ℕ) → j < L → g j ≡ f k j) → Following L f old new (k + 1)
following_more {L} {f} {new = new} {k = k} short w r e = record {
  size = r.size;
  passed =
      below_more (λ (q : ℕ). (j : ℕ) → j < L → at new q j ≡ f q j) k
      (λ q h j l. r.others q j (λ z. omega arith) (omega arith) ∙ w.passed q h j l)
      (λ j l. r.row j (omega arith) ∙ e j l);
  ahead = λ q h j l. r.others q j (λ z. omega arith) l ∙ w.ahead q (omega arith) j l;
}
