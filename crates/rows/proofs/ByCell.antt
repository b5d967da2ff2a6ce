-- Rows that are written from their front. The places of a row stand side by side, so a place before or after the row,
-- or in another row of a square, is none of them and is as it was.
use Prim.Native.Nat.{ℕ, ◌+◌}
use mathlib.Core.List.{List}
use Rattle.rows.proofs.Stored.{Stored}

-- The first n places from `start` on are written.
abbrev pub Along : ℕ → (ℕ → ℕ) → List ℕ → List ℕ → ℕ → Type 0
Along start = Stored (λ i. start + i)
