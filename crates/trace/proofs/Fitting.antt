-- The grounds of a trace, for every service that takes one. Sizes that the eighth ground lets pass are within their bounds,
-- and each instant has a cell for each column. Each ground of the cells has a number above 0, and where none applies no cell is over 2.
use Prim.Native.Nat.{ℕ, ◌*◌, ◌<◌, ◌≤◌}
use mathlib.Core.{Path.◌≡◌, Bool.false, List.List, Logic.inl, Logic.inr}
use native.Mathlib.Omega.{arith}
use lib.ListN.{length, get_or, get_or-eq_default}
use Rattle.meaning.specs.Refusal.{ground8_cells, grounds9, most_instants}
use Rattle.meaning.proofs.{Bounds.le_or_lt, Fails.tests, First.Clear, First.Numbered, First.numbered_each, First.clear_each}

pub size_fits : (most W L : ℕ) (cells : List ℕ) → (ground8_cells most W L cells).applies ≡ false
    → (W ≤ most) × (0 < L) × (L ≤ most_instants) × (length cells ≡ W * L)
unfolding ground8_cells
size_fits most W L cells e = let h = simp tests at e in (omega arith, omega arith, omega arith, h.1)

pub cells_numbered : (cells : List ℕ) → Numbered (grounds9 cells)
unfolding grounds9
cells_numbered cells = numbered_each _ (length cells) (λ i. omega arith)

-- No cell is over 2, also where there is none.
pub cells_low : (cells : List ℕ) → Clear (grounds9 cells) → (i : ℕ) → get_or cells i 0 ≤ 2
unfolding grounds9
cells_low cells c i = elim (le_or_lt (length cells) i) [
  | inl h ↦ rw (get_or-eq_default cells 0 h) (omega arith)
  | inr h ↦ let e = simp tests at (clear_each _ (length cells) c i h).0 in omega arith
]
