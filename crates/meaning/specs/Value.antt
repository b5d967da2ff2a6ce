-- Specification, Values: what a formula is worth at an instant, and a path from one instant to another, over L instants.
--   value_of L cell F k      the value of the formula F at instant k; cell k i is the value of atom i there
--   square_of L cell P k j   the value of the path P from k to j
use Rattle.std.specs.Prelude.{ℕ, zero, suc, ◌+◌, min, max, true, false, cond, eqb}
use Rattle.meaning.specs.Three.{imp, greatest, least}
use Rattle.meaning.specs.Record.{Mode, diamond, box, Way, ahead, back}
use Rattle.meaning.specs.Formula.{Form, Path, constant, atom, modal, move, test, choice, sequence, star}

-- Values at each instant; values from each instant to each.
abbrev pub Row : Type 0
Row = ℕ → ℕ

abbrev pub Square : Type 0
Square = ℕ → ℕ → ℕ

unfoldable pub move_square : Way → Square
move_square ahead k j = cond (eqb j (k + 1)) 2 0
move_square back k j = cond (eqb (j + 1) k) 2 0

unfoldable pub test_square : Row → Square
test_square f k j = cond (eqb j k) (f k) 0

unfoldable pub choice_square : Square → Square → Square
choice_square p q k j = max (p k j) (q k j)

unfoldable pub sequence_square : ℕ → Square → Square → Square
sequence_square L p q k j = greatest L (λ i. min (p k i) (q i j))

-- n passes.
unfoldable pub passes : ℕ → Square → ℕ → Square
passes L p zero = λ k j. cond (eqb j k) 2 0
passes L p (suc n) = sequence_square L p (passes L p n)

-- The greatest over 0 .. L passes: no number of passes gives more, and one of these gives as much (proofs/Star).
unfoldable pub star_square : ℕ → Square → Square
star_square L p k j = greatest (suc L) (λ n. passes L p n k j)

unfoldable pub diamond_row : ℕ → Square → Row → Row
diamond_row L p f k = greatest L (λ j. min (p k j) (f j))

unfoldable pub box_row : ℕ → Square → Row → Row
box_row L p f k = least L (λ j. imp (p k j) (f j))

unfoldable pub modal_row : Mode → ℕ → Square → Row → Row
modal_row diamond = diamond_row
modal_row box = box_row

module _ (L : ℕ) (cell : ℕ → ℕ → ℕ) where
  unfoldable mutual
    pub value_of : Form → Row
    value_of (constant false) = λ k. 0
    value_of (constant true) = λ k. 2
    value_of (atom i) = λ k. cell k i
    value_of (modal m p f) = modal_row m L (square_of p) (value_of f)

    pub square_of : Path → Square
    square_of (move w) = move_square w
    square_of (test f) = test_square (value_of f)
    square_of (choice p q) = choice_square (square_of p) (square_of q)
    square_of (sequence p q) = sequence_square L (square_of p) (square_of q)
    square_of (star p) = star_square L (square_of p)
