-- Lists that are laid out by a rule, read back. If each of n parts has w members, then member i of part k is member
-- w * k + i of the whole, and there is no other: every number below w * n is such a number.
use Prim.Native.Nat.{ℕ, zero, suc, ◌+◌, ◌*◌, ◌-◌, ◌<◌}
use mathlib.Core.Path.{◌≡◌, refl, ◌∙◌}
use mathlib.Core.List.{List, [], ◌∷◌, ◌++◌}
use mathlib.Core.Logic.{inl, inr, ◌↔◌}
use native.Mathlib.Nat.{le_refl, mul-le-mul_left}
use native.Mathlib.Numerals.{add-one}
use native.Mathlib.Omega.{arith}
use lib.ListN.{length, get_or, length-append, get_or-append}
use lib.Seq.{get_or-append-add}
use Rattle.meaning.specs.Run.{each, tabulate}
use Rattle.meaning.proofs.Bounds.{le_or_lt, all_suc}

-- ---- one part more
pub each_more : {T : Type 0} (f : ℕ → List T) (n : ℕ) → each (n + 1) f ≡ each n f ++ f n
unfolding each
each_more f n = rw add-one

-- ---- every member
abbrev pub All : {T : Type 0} → (T → Type 0) → List T → Type 0
All P [] = Unit {0}
All P (x ∷ xs) = P x × All P xs

module _ {T : Type 0} (P : T → Type 0) where
  -- Of two lists end to end, and of many.
  pub all_append : (xs ys : List T) → All P (xs ++ ys) ↔ (All P xs × All P ys)
  all_append [] ys = (λ h. (tt, h), λ h. h.1)
  all_append (x ∷ xs) ys = simp (all_append xs ys) (λ (a, (b, c)). ((a, b), c), λ ((a, b), c). (a, (b, c)))

  pub all_each : (f : ℕ → List T) (n : ℕ) → All P (each n f) ↔ ((i : ℕ) → i < n → All P (f i))
  unfolding each
  all_each f zero = (λ _ i l. absurd (omega arith), λ _. tt)
  all_each f (suc n) =
      simp (all_append, all_each f n) (λ (a, b). all_suc (λ i. All P (f i)) n a b, λ h. (λ i l. h i (omega arith), h n (le_refl _)))

-- ---- parts of one length
module _ {T : Type 0} (w : ℕ) (f : ℕ → List T) (sized : (k : ℕ) → length (f k) ≡ w) where
  -- There are w * n members.
  pub length_each : (n : ℕ) → length (each n f) ≡ w * n
  unfolding each
  length_each zero = omega arith
  length_each (suc n) = simp (length-append, length_each n, sized) (omega arith)

  -- Member i of part k.
  pub get_d_each : (d : T) (i : ℕ) → i < w → (n k : ℕ) → k < n → get_or (each n f) (w * k + i) d ≡ get_or (f k) i d
  unfolding each
  get_d_each d i l zero = λ k b. absurd (omega arith)
  get_d_each d i l (suc n) = all_suc (λ k. get_or (each (suc n) f) (w * k + i) d ≡ get_or (f k) i d) n
      (λ k b. get_or-append (each n f) (f n) d (w * k + i) (rw (length_each n) (omega (arith, mul-le-mul_left w b))) ∙ get_d_each d i l n k b)
      (rw (← length_each n) (get_or-append-add (each n f) (f n) i d))

-- ---- one member each
-- There are n.
pub length_tabulate : (n : ℕ) (f : ℕ → ℕ) → length (tabulate n f) ≡ n
unfolding tabulate
length_tabulate n f = length_each 1 (λ i. f i ∷ []) (λ i. refl) n ∙ omega arith

-- Member i.
pub get_d_tabulate : (n : ℕ) (f : ℕ → ℕ) (i : ℕ) → i < n → get_or (tabulate n f) i 0 ≡ f i
unfolding tabulate
get_d_tabulate n f i l =
    let e : 1 * i + 0 ≡ i = omega arith in
    rw e at (get_d_each 1 (λ i. f i ∷ []) (λ i. refl) 0 0 (omega arith) n i l)

-- ---- places in rows
-- A place below w * n is place j of some row k.
pub row_place : (w n i : ℕ) → i < w * n → (k : ℕ) × (j : ℕ) × (k < n) × (j < w) × (i ≡ w * k + j)
row_place w zero i l = absurd (omega arith)
row_place w (suc n) i l = elim (le_or_lt (w * n) i) [
  | inl h ↦ (n, i - w * n, le_refl _, omega arith, omega arith)
  | inr h ↦ let (k, j, a, b, e) = row_place w n i h in (k, j, omega arith, b, e)
]
