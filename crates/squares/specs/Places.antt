-- Where the value of a move is, and what a test before a path leaves.
--   next_cell w    how far after the diagonal's place the value of a move is
--   capped f p     p from k to j, but no more than f k
use Rattle.std.specs.Prelude.{ℕ, min}
use Rattle.meaning.specs.Record.{Way, ahead, back}
use Rattle.meaning.specs.Value.{Square}
use Rattle.rows.specs.Cells.{width}

unfoldable pub next_cell : Way → ℕ
next_cell ahead = 1
next_cell back = width

abbrev pub capped : (ℕ → ℕ) → Square → Square
capped f p k j = min (p k j) (f k)
