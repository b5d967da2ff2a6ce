-- A square that is written along a diagonal, at the places d, d + 33, d + 66 and so on. A place is on it or not: there
-- it has the rule's value, and elsewhere it is as it was.
use Prim.Native.Nat.{ℕ, ◌+◌, ◌*◌, ◌<◌, ◌≤◌}
use mathlib.Core.Path.{◌≡◌, refl, ◌∙◌}
use mathlib.Core.Bool.{Bool, true, false, cond}
use mathlib.Core.List.{List}
use native.Mathlib.Omega.{arith}
use lib.Dec.{eqb}
use lib.ListN.{length, get_or, replicate, get_or-replicate}
use borrow.Author.Tests.{eqb-true, eqb-false}
use Rattle.rows.specs.Cells.{width, area, at, Holds}
use Rattle.rows.proofs.Stored.{Stored}

abbrev pub Diagonal : ℕ → (ℕ → ℕ) → List ℕ → List ℕ → ℕ → Type 0
Diagonal d = Stored (λ i. i * (width + 1) + d)

module _ {f base : ℕ → ℕ} {old s : List ℕ} {l n : ℕ} (u : l ≤ width) (size : length old ≡ area)
    (was : (m : ℕ) → m < area → get_or old m 0 ≡ base m) where
  -- The whole square, where a ≡ b says that the cell is the diagonal's place i.
  pub diagonal_holds : (d : ℕ) (i a b : ℕ → ℕ → ℕ) → Diagonal d f old s n
      → ((k j : ℕ) → k < l → j < l → a k j ≡ b k j → (i k j < n) × (k * width + j ≡ i k j * (width + 1) + d))
      → ((k j x : ℕ) → k < l → j < l → x < n → k * width + j ≡ x * (width + 1) + d → a k j ≡ b k j)
      → Holds l s (λ k j. cond (eqb (a k j) (b k j)) (f (i k j)) (base (k * width + j)))
  diagonal_holds d i a b w there only =
      record { size = w.size ∙ size; cells = λ k j p q. go k j p q (eqb (a k j) (b k j)) refl }
    where
      go : (k j : ℕ) → k < l → j < l → (t : Bool) → eqb (a k j) (b k j) ≡ t
          → at s k j ≡ cond t (f (i k j)) (base (k * width + j))
      go k j p q true e = let (h, z) = there k j p q (eqb-true _ _ e) in rw z (w.on (i k j) h)
      go k j p q false e =
          w.off (k * width + j) (λ x h z. eqb-false _ _ e (only k j x p q h z)) ∙ was (k * width + j) (omega arith)

  -- The diagonal from each instant to itself.
  pub diagonal_self : n ≡ l → Diagonal 0 f old s n → Holds l s (λ k j. cond (eqb j k) (f k) (base (k * width + j)))
  diagonal_self e w =
      diagonal_holds 0 (λ k j. k) (λ k j. j) (λ k j. k) w (λ k j p q z. (omega arith, omega arith))
      (λ k j x p q h z. omega arith)

-- A square of zeros.
pub zeros_at : (m : ℕ) → m < area → ◌≡◌ {A = ℕ} (get_or (replicate area 0) m 0) 0
zeros_at m h = get_or-replicate area m 0 0 h
