-- The ninth ground by the greatest cell: where that is at most 2 no cell is over 2, and where it is over 2 some cell is.
use Prim.Native.Nat.{ℕ, zero, suc, ◌≤◌, ◌<◌}
use mathlib.Core.{Path.◌≡◌, Path.sym, Path.◌∙◌, List.List, List.[], List.◌∷◌, Logic.inl, Logic.inr}
use native.Mathlib.{Nat.le_refl, Nat.le_trans, Omega.arith}
use borrow.Author.Tests.{lt-ltb, le-ltb}
use lib.{Dec.ltb, ListN.length, ListN.get_or}
use Rattle.meaning.specs.Refusal.{of_first, Ground, ground, first_of, grounds9}
use Rattle.meaning.specs.{Run.each, Three.greatest}
use Rattle.meaning.proofs.First.{Clear, each_clear, clear_none, scan_found, found_stop}
use Rattle.meaning.proofs.Bounds.{le_or_lt, greatest_member}

abbrev pub nth_cell : List ℕ → ℕ → ℕ
nth_cell cells i = get_or cells i 0

module _ (f : ℕ → ℕ) where
  abbrev over : ℕ → List Ground
  over i = ground 9 (ltb 2 (f i)) ∷ []

  clear_low : (n : ℕ) → greatest n f ≤ 2 → Clear (each n over)
  clear_low n h = each_clear over n (λ i l. (le-ltb 2 (f i) (le_trans (greatest_member n f i l) h), tt))

  nine_high : (n : ℕ) → 2 < greatest n f → 9 ≡ first_of (each n over)
  unfolding greatest each of_first
  nine_high zero h = absurd (omega arith)
  nine_high (suc n) h = elim (le_or_lt (greatest n f) 2) [
    | inl l ↦ scan_found over (suc n) n (le_refl _) (clear_low n l) (rw (lt-ltb 2 (f n) (omega arith))) (λ z. omega arith)
    | inr l ↦ let e = nine_high n l in e ∙ sym (found_stop (each n over) (over n) (λ z. omega arith))
  ]

module _ (cells : List ℕ) {m : ℕ} (e : m ≡ greatest (length cells) (nth_cell cells)) where
  pub refused_high : 2 < m → 9 ≡ first_of (grounds9 cells)
  unfolding grounds9
  refused_high h = nine_high (nth_cell cells) (length cells) (omega arith)

  pub passed_low : m ≤ 2 → 0 ≡ first_of (grounds9 cells)
  unfolding grounds9
  passed_low h = sym (clear_none _ (clear_low (nth_cell cells) (length cells) (omega arith)))
