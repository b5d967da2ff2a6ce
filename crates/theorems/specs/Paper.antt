-- Source 004, definition 1 and theorem 1: when a trace with two sets of atoms satisfies a formula, in that paper's terms,
-- and what the values of the specification say of it. The numbers beside the equations are those of the definition's clauses,
-- taken over L instants and for the specification's kinds; so converse stands in the back step alone.
--   HereThere              at each instant a set of atoms, here, within another, there
--   total M                the trace that has M's second set for both
--   Satisfies L M F k      M satisfies the formula F at the instant k
--   Relates L M P k j      in M, the path P relates k to j
--   Valued L M cell        the cells are what M's atoms are worth
use Rattle.std.specs.Prelude.{ℕ, zero, suc, ◌+◌, ◌<◌, ◌≤◌, ◌≡◌, true, false, ◌↔◌, ◌≢◌, ◌⊎◌}
use Rattle.meaning.specs.Record.{diamond, box, ahead, back}
use Rattle.meaning.specs.Formula.{Form, Path, constant, atom, modal, move, test, choice, sequence, star}
use Rattle.meaning.specs.Value.{value_of, square_of}

-- ---- traces
pub record HereThere : Type 1 where
  pub here : ℕ → ℕ → Type 0
  pub there : ℕ → ℕ → Type 0
  pub within : (k i : ℕ) → here k i → there k i

abbrev pub total : HereThere → HereThere
total M = record { here = M.there; there = M.there; within = λ k i h. h }

-- ---- definition 1
-- Of instants.
abbrev pub Relation : Type 1
Relation = ℕ → ℕ → Type 0

-- One relation and then another, by way of some instant.
abbrev pub Then : Relation → Relation → Relation
Then R S k j = (i : ℕ) × R k i × S i j

module _ (L : ℕ) where
  -- An instant and the next one.
  abbrev pub Next : Relation
  Next k j = (j ≡ k + 1) × (j < L)

  -- A relation n times, one after another; no time at all stays at an instant.
  unfoldable pub Times : Relation → ℕ → Relation
  Times R zero k j = (k < L) × (j ≡ k)
  Times R (suc n) k j = Then R (Times R n) k j

  unfoldable mutual
    pub Satisfies : HereThere → Form → ℕ → Type 0
    -- 1
    Satisfies M (constant false) k = ⊥
    Satisfies M (constant true) k = Unit {0}
    -- 2
    Satisfies M (atom i) k = M.here k i
    -- 3
    Satisfies M (modal diamond p f) k = (j : ℕ) × Relates M p k j × Satisfies M f j
    -- 4: in M, and in the total trace.
    Satisfies M (modal box p f) k =
        ((j : ℕ) → Relates M p k j → Satisfies M f j) × ((j : ℕ) → Relates (total M) p k j → Satisfies (total M) f j)

    pub Relates : HereThere → Path → Relation
    -- 5
    Relates M (move ahead) k j = Next k j
    -- 10, of 5
    Relates M (move back) k j = Next j k
    -- 6
    Relates M (test f) k j = (k < L) × (j ≡ k) × Satisfies M f k
    -- 7
    Relates M (choice p q) k j = Relates M p k j ⊎ Relates M q k j
    -- 8: where the paper prints "for some k", the instant between is meant.
    Relates M (sequence p q) k j = Then (Relates M p) (Relates M q) k j
    -- 9
    Relates M (star p) k j = (n : ℕ) × Times (Relates M p) n k j

-- The paper says a number of times by a path, its power.
unfoldable pub power : Path → ℕ → Path
power p zero = test (constant true)
power p (suc n) = sequence p (power p n)

-- ---- theorem 1
-- An atom is worth 2 if it is here, 1 if it is there alone, and else 0.
pub record Valued (L : ℕ) (M : HereThere) (cell : ℕ → ℕ → ℕ) : Type 0 where
  pub low : (k i : ℕ) → k < L → cell k i ≤ 2
  pub here : (k i : ℕ) → k < L → M.here k i ↔ (cell k i ≡ 2)
  pub there : (k i : ℕ) → k < L → M.there k i ↔ (cell k i ≢ 0)

-- Over one trace: a value is 2 exactly if the trace satisfies the formula, and not 0 exactly if the total trace does;
-- for paths too.
pub record Theorem1 (L : ℕ) (M : HereThere) (cell : ℕ → ℕ → ℕ) : Type 0 where
  pub formula_here : (f : Form) (k : ℕ) → k < L → Satisfies L M f k ↔ (value_of L cell f k ≡ 2)
  pub formula_there : (f : Form) (k : ℕ) → k < L → Satisfies L (total M) f k ↔ (value_of L cell f k ≢ 0)
  pub path_here : (p : Path) (k j : ℕ) → k < L → j < L → Relates L M p k j ↔ (square_of L cell p k j ≡ 2)
  pub path_there : (p : Path) (k j : ℕ) → k < L → j < L → Relates L (total M) p k j ↔ (square_of L cell p k j ≢ 0)

pub record Paper : Type 1 where
  pub theorem_1 : (L : ℕ) (M : HereThere) (cell : ℕ → ℕ → ℕ) → Valued L M cell → Theorem1 L M cell
  -- Cells that are values are those of some trace, and a trace whose sets can be decided has such cells.
  pub trace : (L : ℕ) (cell : ℕ → ℕ → ℕ) → ((k i : ℕ) → k < L → cell k i ≤ 2) → (M : HereThere) × Valued L M cell
  pub cells : (L : ℕ) (M : HereThere) → ((k i : ℕ) → Dec (M.here k i)) → ((k i : ℕ) → Dec (M.there k i))
      → (cell : ℕ → ℕ → ℕ) × Valued L M cell
  -- A star relates what some power does.
  pub powers : (L : ℕ) (M : HereThere) (p : Path) (k j : ℕ)
      → Relates L M (star p) k j ↔ ((n : ℕ) × Relates L M (power p n) k j)
