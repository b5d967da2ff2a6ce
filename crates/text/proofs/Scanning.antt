-- One ground of each record in turn: the first record where it applies decides, and it applies to none before that.
use Prim.Native.Nat.{ℕ, ◌+◌, ◌<◌}
use mathlib.Core.Path.{◌≡◌}
use mathlib.Core.Bool.{true, false}
use mathlib.Core.List.{[], ◌∷◌}
use Rattle.meaning.specs.Run.{each}
use Rattle.meaning.specs.Refusal.{Ground, of_first, first_of}
use Rattle.meaning.proofs.First.{Clear, scan_more, scan_found}

module _ (f : ℕ → Ground) where
  pub one_found : (n i : ℕ) → i < n → Clear (each i (λ q. f q ∷ [])) → (f i).applies ≡ true → ((f i).number ≡ 0 → ⊥)
      → (f i).number ≡ first_of (each n (λ q. f q ∷ []))
  unfolding of_first
  one_found n i l c h d = scan_found (λ q. f q ∷ []) n i l c (rw h) d

  pub one_more : (i : ℕ) → Clear (each i (λ q. f q ∷ [])) → (f i).applies ≡ false → Clear (each (i + 1) (λ q. f q ∷ []))
  one_more i c h = scan_more (λ q. f q ∷ []) i c (h, tt)
