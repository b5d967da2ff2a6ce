-- The steps of a star's closure in one square.
--   no_pass p k j     p, with 2 from each instant to itself
--   by p mid k j       p, or by way of the instant mid
--   Passed k u f old new   `new` is the square `old` with row k raised to the smaller of f j and u
--   PassedRows mid from to old new   `new` is the square `old` with the rows from `from` up to `to` by way of mid too
--   Moving w L p       over L instants p is at most a move in the way w: it leads to the instant beside alone
use Rattle.std.specs.Prelude.{ℕ, ◌<◌, ◌≤◌, min, max, ◌≡◌, cond, List, eqb, length}
use Rattle.meaning.specs.Record.{Way}
use Rattle.meaning.specs.Value.{Square, move_square}
use Rattle.rows.specs.Cells.{width, area, at, Rowed}

unfoldable pub no_pass : Square → Square
no_pass p k j = cond (eqb j k) 2 (p k j)

unfoldable pub by : Square → ℕ → Square
by p mid k j = max (p k j) (min (p k mid) (p mid j))

abbrev pub Passed : ℕ → ℕ → (ℕ → ℕ) → List ℕ → List ℕ → Type 0
Passed k u f old new = Rowed k (λ j. max (at old k j) (min (f j) u)) old new

pub record PassedRows (mid from to : ℕ) (old new : List ℕ) : Type 0 where
  pub size : length new ≡ area
  pub passed : (k j : ℕ) → from ≤ k → k < to → j < width → at new k j ≡ by (at old) mid k j
  pub before : (k j : ℕ) → k < from → j < width → at new k j ≡ at old k j
  pub past : (k j : ℕ) → to ≤ k → j < width → at new k j ≡ at old k j

abbrev pub Moving : Way → ℕ → Square → Type 0
Moving w L p = (k j : ℕ) → k < L → j < L → p k j ≤ move_square w k j
