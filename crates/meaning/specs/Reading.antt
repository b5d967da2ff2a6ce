-- Specification, Values, sentence by sentence: what it is for numbers to be the values of formulas and paths over a trace of L instants.
-- Two readings of one trace agree at all its instants, and the values of specs/Value are one (proofs/Reading).
--   Greatest n f x, Least n f x        x is the greatest, the least of f 0 .. f (n - 1)
--   Reading L cell value square pass   these are the values of formulas, of paths, and of n passes of a path
use Rattle.std.specs.Prelude.{ℕ, suc, ◌<◌, ◌≤◌, min, max, ◌≡◌, true, false, ◌≢◌}
use Rattle.meaning.specs.Three.{imp}
use Rattle.meaning.specs.Record.{diamond, box, ahead, back}
use Rattle.meaning.specs.Formula.{Form, Path, constant, atom, modal, move, test, choice, sequence, star}
use Rattle.meaning.specs.Value.{Row, Square}

pub record Greatest (n : ℕ) (f : ℕ → ℕ) (x : ℕ) : Type 0 where
  pub bound : (j : ℕ) → j < n → f j ≤ x
  pub attained : (j : ℕ) × (j < n) × (f j ≡ x)

pub record Least (n : ℕ) (f : ℕ → ℕ) (x : ℕ) : Type 0 where
  pub bound : (j : ℕ) → j < n → x ≤ f j
  pub attained : (j : ℕ) × (j < n) × (f j ≡ x)

-- k, i and j are instants.
pub record Reading (L : ℕ) (cell : ℕ → ℕ → ℕ) (value : Form → Row) (square : Path → Square) (pass : Path → ℕ → Square) : Type 0 where
  pub falsehood : (k : ℕ) → k < L → value (constant false) k ≡ 0
  pub truth : (k : ℕ) → k < L → value (constant true) k ≡ 2
  pub atoms : (i k : ℕ) → k < L → value (atom i) k ≡ cell k i
  pub diamonds : (p : Path) (f : Form) (k : ℕ) → k < L
      → Greatest L (λ j. min (square p k j) (value f j)) (value (modal diamond p f) k)
  pub boxes : (p : Path) (f : Form) (k : ℕ) → k < L → Least L (λ j. imp (square p k j) (value f j)) (value (modal box p f) k)
  -- A step leads to the next instant, a back step to the previous one, a test nowhere else.
  pub step : (k j : ℕ) → k < L → j < L → j ≡ suc k → square (move ahead) k j ≡ 2
  pub no_step : (k j : ℕ) → k < L → j < L → j ≢ suc k → square (move ahead) k j ≡ 0
  pub back_step : (k j : ℕ) → k < L → j < L → k ≡ suc j → square (move back) k j ≡ 2
  pub no_back_step : (k j : ℕ) → k < L → j < L → k ≢ suc j → square (move back) k j ≡ 0
  pub tests : (f : Form) (k : ℕ) → k < L → square (test f) k k ≡ value f k
  pub no_test : (f : Form) (k j : ℕ) → k < L → j < L → j ≢ k → square (test f) k j ≡ 0
  pub choices : (p q : Path) (k j : ℕ) → k < L → j < L → square (choice p q) k j ≡ max (square p k j) (square q k j)
  pub sequences : (p q : Path) (k j : ℕ) → k < L → j < L
      → Greatest L (λ i. min (square p k i) (square q i j)) (square (sequence p q) k j)
  -- A star is the greatest over any number of passes, none included.
  pub no_pass : (p : Path) (k : ℕ) → k < L → pass p 0 k k ≡ 2
  pub no_pass_elsewhere : (p : Path) (k j : ℕ) → k < L → j < L → j ≢ k → pass p 0 k j ≡ 0
  pub one_more : (p : Path) (n k j : ℕ) → k < L → j < L → Greatest L (λ i. min (square p k i) (pass p n i j)) (pass p (suc n) k j)
  pub stars_bound : (p : Path) (n k j : ℕ) → k < L → j < L → pass p n k j ≤ square (star p) k j
  pub stars_attained : (p : Path) (k j : ℕ) → k < L → j < L → (n : ℕ) × (pass p n k j ≡ square (star p) k j)
