-- The first ground that applies. A list of grounds is clear if none applies; what stands after a clear list decides, and what stands
-- after one that has given its number does not. So a scan that goes on while nothing was found gives the first number of the whole list.
use Prim.Native.Nat.{ℕ, zero, suc, ◌+◌, ◌<◌}
use mathlib.Core.Path.{◌≡◌, refl, sym, ◌∙◌}
use mathlib.Core.Bool.{Bool, true, false}
use mathlib.Core.Logic.{◌⊎◌, inl, inr, ◌↔◌}
use mathlib.Core.List.{List, [], ◌∷◌, ◌++◌}
use native.Mathlib.Numerals.{add-one}
use native.Mathlib.Omega.{arith}
use Rattle.meaning.specs.Run.{each}
use Rattle.meaning.specs.Refusal.{Ground, of_first, first_of}
use Rattle.meaning.proofs.Bounds.{below_suc}
use Rattle.meaning.proofs.Runs.{All, all_append, all_each}

-- No ground applies.
abbrev pub Clear : List Ground → Type 0
Clear = All (λ g. g.applies ≡ false)

-- A test holds or fails.
pub by_test : (b : Bool) → (b ≡ true) ⊎ (b ≡ false)
by_test true = inl refl
by_test false = inr refl

-- Each ground has a number, that is, one above 0.
abbrev pub Numbered : List Ground → Type 0
Numbered = All (λ g. 0 < g.number)

-- ---- the first number
pub clear_none : (gs : List Ground) → Clear gs → first_of gs ≡ 0
unfolding of_first
clear_none [] c = refl
clear_none (g ∷ gs) c = rw c.0 (clear_none gs c.1)

-- After a clear list, the rest decides.
pub clear_skip : (gs hs : List Ground) → Clear gs → first_of (gs ++ hs) ≡ first_of hs
unfolding of_first
clear_skip [] hs c = refl
clear_skip (g ∷ gs) hs c = rw c.0 (clear_skip gs hs c.1)

-- After a number that was found, nothing does.
pub found_stop : (gs hs : List Ground) → (first_of gs ≡ 0 → ⊥) → first_of (gs ++ hs) ≡ first_of gs
unfolding of_first
found_stop [] hs f = absurd (f refl)
found_stop (g ∷ gs) hs f = elim (by_test g.applies) [ inl h ↦ rw h | inr h ↦ rw h (found_stop gs hs (λ e. f (rw h e))) ]

-- One ground: it gives its number, or the rest decides; t is the test as the code made it.
module _ {x : ℕ} {t : Bool} (g : Ground) (gs : List Ground) (first : x ≡ first_of (g ∷ gs)) (test : t ≡ g.applies) where
  pub stop : t ≡ true → g.number ≡ x
  unfolding of_first
  stop e = sym (first ∙ rw (sym test ∙ e))

  pub pass : t ≡ false → x ≡ first_of gs
  unfolding of_first
  pass e = first ∙ rw (sym test ∙ e)

pub none_clear : (gs : List Ground) → Numbered gs → first_of gs ≡ 0 → Clear gs
unfolding of_first
none_clear [] n e = tt
none_clear (g ∷ gs) n e = elim (by_test g.applies) [
  | inl h ↦ absurd (omega (arith, rw h at e, n.0))
  | inr h ↦ (h, none_clear gs n.1 (rw h at e))
]

pub clear_append : (gs hs : List Ground) → Clear (gs ++ hs) ↔ (Clear gs × Clear hs)
clear_append = all_append _

pub numbered_append : (gs hs : List Ground) → Numbered gs → Numbered hs → Numbered (gs ++ hs)
numbered_append gs hs n m = (all_append _ gs hs).1 (n, m)

-- ---- the grounds of each record, or of each rule or cell, in turn
module _ (f : ℕ → List Ground) where
  pub numbered_each : (n : ℕ) → ((i : ℕ) → Numbered (f i)) → Numbered (each n f)
  numbered_each n h = (all_each _ f n).1 (λ i _. h i)

  pub each_clears : (n : ℕ) → Clear (each n f) ↔ ((i : ℕ) → i < n → Clear (f i))
  each_clears = all_each _ f

  pub each_clear : (n : ℕ) → ((i : ℕ) → i < n → Clear (f i)) → Clear (each n f)
  each_clear n = (each_clears n).1

  pub clear_each : (n : ℕ) → Clear (each n f) → (i : ℕ) → i < n → Clear (f i)
  clear_each n = (each_clears n).0

  -- ---- a scan: nothing was found before i
  pub scan_none : Clear (each 0 f)
  unfolding each
  scan_none = tt

  pub scan_more : (i : ℕ) → Clear (each i f) → Clear (f i) → Clear (each (i + 1) f)
  unfolding each
  scan_more i c d = rw add-one ((clear_append (each i f) (f i)).1 (c, d))

  -- What is found at i is the first of all, however far the list goes.
  pub scan_found : (n i : ℕ) {x : ℕ} → i < n → Clear (each i f) → x ≡ first_of (f i) → (x ≡ 0 → ⊥)
      → x ≡ first_of (each n f)
  unfolding each
  scan_found zero i l c e q = absurd (omega arith)
  scan_found (suc n) i l c e q = elim (below_suc l) [
    | inl d ↦ rw (← d) (e ∙ sym (clear_skip (each i f) (f i) c))
    | inr m ↦ let g = scan_found n i m c e q in g ∙ sym (found_stop (each n f) (f n) (λ z. q (g ∙ z)))
  ]

  pub scan_done : (n i : ℕ) → i ≡ n → Clear (each i f) → 0 ≡ first_of (each n f)
  scan_done n i e c = rw (← e) (sym (clear_none (each i f) c))
