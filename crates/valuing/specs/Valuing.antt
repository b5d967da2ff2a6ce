-- What valuing a record asks, and what it does to the table, whose row r starts at r * L.
--   Under s r q                    the record q is r or stands in the tree of r
--   Right s A L cells t q          the table t has the values of formula q in its row
--   Legal s A L cells room         what the refusals leave: a formula, a trace, and room for the table
--   Asked s A L cells r t          what is asked where record r is valued into the table t
--   Steady s A L cells r old new   right rows stay right, and so do the rows of paths and all that stands after row r
--   RowsValued s A L cells r old new   besides, the rows of the formulas under r are right
--   Squared s A L cells p bytes    the bytes are the square of path p
--   Moves s w p                    path p is a move in the way w, with tests before it or after it
--   PathSquare s L p bytes         over L instants the bytes are the square of path p, on some trace
use Rattle.std.specs.Prelude.{ℕ, ◌+◌, ◌*◌, ◌<◌, ◌≤◌, ◌≡◌, List, length, get_or}
use Rattle.meaning.specs.Run.{cell_of}
use Rattle.meaning.specs.Record.{Way, move, test, sequence, core, count, kind_at, field_a, field_b, Sort, formula, path, sort_of, child, use_a, use_b}
use Rattle.meaning.specs.Tree.{form_at, path_at}
use Rattle.meaning.specs.Value.{value_of, square_of}
use Rattle.meaning.specs.WellFormed.{WellFormed, Trace}
use Rattle.rows.specs.Cells.{row_at, Holds}

pub data Under (s : List ℕ) : ℕ → ℕ → Type 0 where
  itself : {r : ℕ} → Under s r r
  first : {r q : ℕ} (σ : Sort) → use_a (kind_at s r) ≡ child σ → Under s (field_a s r) q → Under s r q
  second : {r q : ℕ} (σ : Sort) → use_b (kind_at s r) ≡ child σ → Under s (field_b s r) q → Under s r q

module _ (s : List ℕ) (A L : ℕ) (cells : List ℕ) where
  pub record Right (t : List ℕ) (q : ℕ) : Type 0 where
    pub values : (k : ℕ) → k < L → row_at t (q * L) k ≡ value_of L (cell_of A cells) (form_at s q) k

  pub record Legal (room : ℕ) : Type 0 where
    pub formed : WellFormed core s A
    pub trace : Trace A L cells
    pub enough : count s * L ≤ room

  pub record Asked (r : ℕ) (t : List ℕ) : Type 0 where
    pub legal : Legal (length t)
    pub index : r < count s

  pub record Steady (r : ℕ) (old new : List ℕ) : Type 0 where
    pub size : length new ≡ length old
    pub right : (q : ℕ) → Right old q → Right new q
    pub paths : (q k : ℕ) → sort_of (kind_at s q) ≡ path → k < L → row_at new (q * L) k ≡ row_at old (q * L) k
    pub after : (i : ℕ) → r * L + L ≤ i → get_or new i 0 ≡ get_or old i 0

  pub record RowsValued (r : ℕ) (old new : List ℕ) : Type 0 where
    pub steady : Steady r old new
    pub rows : (q : ℕ) → Under s r q → sort_of (kind_at s q) ≡ formula → Right new q

  abbrev pub Squared : ℕ → List ℕ → Type 0
  Squared p bytes = Holds L bytes (square_of L (cell_of A cells) (path_at s p))

pub data Moves (s : List ℕ) (w : Way) : ℕ → Type 0 where
  itself : {p : ℕ} → kind_at s p ≡ move w → Moves s w p
  tested : {p : ℕ} → kind_at s p ≡ sequence → kind_at s (field_a s p) ≡ test → Moves s w (field_b s p) → Moves s w p
  testing : {p : ℕ} → kind_at s p ≡ sequence → kind_at s (field_b s p) ≡ test → Moves s w (field_a s p) → Moves s w p

pub record PathSquare (s : List ℕ) (L p : ℕ) (bytes : List ℕ) : Type 0 where
  pub atoms : ℕ
  pub cells : List ℕ
  pub table : List ℕ
  pub asked : Asked s atoms L cells p table
  pub sort : sort_of (kind_at s p) ≡ path
  pub square : Squared s atoms L cells p bytes
