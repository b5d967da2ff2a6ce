-- What is made of two paths' squares.
--   join_of            a choice or a sequence, by its kind
--   Low L s           the square s has values
--   PathPart L kind s     it has values, and those of a move if the kind is a move
--   beside_of w k      the instant to which a move leads from k, if there is one
--   value_at L f i     f at the instant i if there is one and it is below L, or 0
--   turned w          the other way
--   shift_of w         the place to which a move after a path brings the first value that it keeps
use Rattle.std.specs.Prelude.{ℕ, zero, suc, ◌<◌, ◌≤◌, ◌≡◌, cond, ltb, List, Option, Some, None}
use Rattle.meaning.specs.Record.{Kind, move, choice, Way, ahead, back}
use Rattle.meaning.specs.Value.{Square, move_square, choice_square, sequence_square}
use Rattle.rows.specs.Cells.{at}

unfoldable pub join_of : Kind → ℕ → Square → Square → Square
join_of choice L = choice_square
join_of _ L = sequence_square L

abbrev pub Low : ℕ → List ℕ → Type 0
Low L s = (k j : ℕ) → k < L → j < L → at s k j ≤ 2

pub record PathPart (L : ℕ) (kind : Kind) (s : List ℕ) : Type 0 where
  pub low : Low L s
  pub moves : (w : Way) → kind ≡ move w → (k j : ℕ) → k < L → j < L → at s k j ≡ move_square w k j

unfoldable pub beside_of : Way → ℕ → Option ℕ
beside_of ahead k = Some (suc k)
beside_of back zero = None
beside_of back (suc k) = Some k

abbrev pub value_at : ℕ → (ℕ → ℕ) → Option ℕ → ℕ
value_at L f None = 0
value_at L f (Some i) = cond (ltb i L) (f i) 0

unfoldable pub turned : Way → Way
turned ahead = back
turned back = ahead

unfoldable pub shift_of : Way → ℕ
shift_of ahead = 1
shift_of back = 0
