-- What the questions about accepted records ask.
--   Formed s          the records of a formula, over some number of atoms
--   Ready s A         the records of a formula over A atoms
--   ways a b          the moves of a path that goes ahead if a, and back if b
--   joined m n        the moves of a path made of two
--   moves_of p        the moves that the path p has
--   MovesAt s q x     if record q is a path, its moves are x
--   Known s m moves   the array has the moves of each path before record m
--   Scanned s r moves record r is one of a formula's, and those before it are known
use Rattle.std.specs.Prelude.{ℕ, ◌<◌, ◌≡◌, Bool, true, false, List, length, get_or}
use Rattle.meaning.specs.Record.{core, most_records, count, kind_at, path, sort_of}
use Rattle.meaning.specs.Record as way
use Rattle.meaning.specs.Formula.{Path, goes}
use Rattle.meaning.specs.Tree.{path_at}
use Rattle.meaning.specs.WellFormed.{WellFormed}
use Rattle.paths.specs.declared.stars.Moves.{Moves}
use Rattle.paths.specs.declared.stars.Moves.TheVariants.{Nowhere, Ahead, Back, BothWays}

pub record Formed (s : List ℕ) : Type 0 where
  pub atoms : ℕ
  pub formed : WellFormed core s atoms

abbrev pub Ready : List ℕ → ℕ → Type 0
Ready s A = WellFormed core s A

abbrev pub ways : Bool → Bool → Moves
ways false false = Nowhere
ways true false = Ahead
ways false true = Back
ways true true = BothWays

abbrev pub joined : Moves → Moves → Moves
joined Nowhere n = n
joined Ahead Nowhere = Ahead
joined Ahead Ahead = Ahead
joined Ahead _ = BothWays
joined Back Nowhere = Back
joined Back Back = Back
joined Back _ = BothWays
joined BothWays n = BothWays

unfoldable pub moves_of : Path → Moves
moves_of p = ways (goes way.ahead p) (goes way.back p)

abbrev pub MovesAt : List ℕ → ℕ → Moves → Type 0
MovesAt s q x = sort_of (kind_at s q) ≡ path → x ≡ moves_of (path_at s q)

pub record Known (s : List ℕ) (m : ℕ) (moves : List Moves) : Type 0 where
  pub size : length moves ≡ most_records
  pub before : (q : ℕ) → q < m → MovesAt s q (get_or moves q Nowhere)

pub record Scanned (s : List ℕ) (r : ℕ) (moves : List Moves) : Type 0 where
  pub whole : Formed s
  pub index : r < count s
  pub known : Known s r moves
