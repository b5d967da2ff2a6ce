-- The table while records are valued. A row that is written is the row of one formula, and rows do not overlap: so
-- right rows stay right, rows of paths stay as they were, and what is done for an earlier record leaves everything
-- after a later one's row.
use Prim.Native.Nat.{ℕ, ◌+◌, ◌*◌, ◌<◌, ◌≤◌}
use mathlib.Core.Path.{◌≡◌, refl, ◌∙◌}
use mathlib.Core.Logic.{⊎_elim}
use mathlib.Core.List.{List}
use native.Mathlib.Decide.{ℕ_discrete}
use native.Mathlib.Nat.{mul-le-mul_right, suc-mul}
use native.Mathlib.Omega.{arith}
use Rattle.meaning.specs.Run.{cell_of}
use Rattle.meaning.specs.Record.{kind_at, field_a, field_b, Sort, formula, sort_of, child, use_a, use_b}
use Rattle.meaning.specs.Tree.{form_at}
use Rattle.meaning.specs.Value.{value_of}
use Rattle.meaning.proofs.Bounds.{le_or_lt}
use Rattle.rows.specs.Cells.{row_at, Put}
use Rattle.valuing.specs.Valuing.{Under, itself, first, second, Right, Steady}
use Rattle.meaning.proofs.Nodes.{differs}

-- A row ends where or before a later one starts.
pub row_end : {a n : ℕ} (L : ℕ) → a < n → a * L + L ≤ n * L
row_end {a} {n} L h = omega (arith, suc-mul a L, mul-le-mul_right L h)

-- Where a row is written, another row is as it was.
other_row : {L r : ℕ} {f : ℕ → ℕ} {old new : List ℕ} → Put L (r * L) f old new → (q k : ℕ) → (q ≡ r → ⊥) → k < L
    → row_at new (q * L) k ≡ row_at old (q * L) k
other_row {L} {r} w q k d l =
    ⊎_elim
    (λ (h : r ≤ q). let e = row_end {a = r} {n = q} L (omega arith) in w.after (q * L + k) (omega arith))
    (λ (h : q < r). let e = row_end L h in w.before (q * L + k) (omega arith))
    (le_or_lt r q)

-- What holds of a record, and of all that stands under its children, holds of all under it.
pub under_all : {s : List ℕ} {r : ℕ} (P : ℕ → Type 0) → P r
    → ((σ : Sort) → use_a (kind_at s r) ≡ child σ → (q : ℕ) → Under s (field_a s r) q → P q)
    → ((σ : Sort) → use_b (kind_at s r) ≡ child σ → (q : ℕ) → Under s (field_b s r) q → P q)
    → (q : ℕ) → Under s r q → P q
under_all P h a b q itself = h
under_all P h a b q (first σ e u) = a σ e q u
under_all P h a b q (second σ e u) = b σ e q u

module _ {s : List ℕ} {A L : ℕ} {cells : List ℕ} where
  pub steady_same : {r : ℕ} {t : List ℕ} → Steady s A L cells r t t
  steady_same = record { size = refl; right = λ q h. h; paths = λ q k e l. refl; after = λ i h. refl }

  pub steady_lower : {a r : ℕ} {old new : List ℕ} → a < r → Steady s A L cells a old new → Steady s A L cells r old new
  steady_lower h w =
      let e = row_end L h in
      record { size = w.size; right = w.right; paths = w.paths; after = λ i l. w.after i (omega arith) }

  pub steady_then : {r : ℕ} {old mid new : List ℕ} → Steady s A L cells r old mid → Steady s A L cells r mid new
      → Steady s A L cells r old new
  steady_then v w = record {
    size = w.size ∙ v.size;
    right = λ q h. w.right q (v.right q h);
    paths = λ q k e l. w.paths q k e l ∙ v.paths q k e l;
    after = λ i h. w.after i h ∙ v.after i h;
  }

  module _ {r : ℕ} {f : ℕ → ℕ} {old new : List ℕ} (w : Put L (r * L) f old new) where
    module _ (e : (k : ℕ) → k < L → f k ≡ value_of L (cell_of A cells) (form_at s r) k) where
      pub put_right : Right s A L cells new r
      put_right = record { values = λ k l. w.here k l ∙ e k l }

      pub put_steady : sort_of (kind_at s r) ≡ formula → Steady s A L cells r old new
      put_steady g = record {
        size = w.size;
        right = λ q h. keep q h (ℕ_discrete q r);
        paths = λ q k p l. other_row w q k (λ d. differs g (rw d at p)) l;
        after = w.after;
      }
        where
          keep : (q : ℕ) → Right s A L cells old q → Dec (q ≡ r) → Right s A L cells new q
          keep q h (yes d) = rw d put_right
          keep q h (no d) = record { values = λ k l. other_row w q k d l ∙ h.values k l }
