-- Why the translation is as it is: what the line leaves out that a published table has, and what would go wrong if a star could stand.
--   SecondLine     the table's second line for a star ties its label, at the last instant, to its continuation's
--   Standing       the rules of ⟨(p?)*⟩q, written all the same, have three fillings where p holds and q does not
--   BoxTest        without its last rule, the test of [p?]q lets a label of 1 pass where 2 is due
--   Agreement      for the one filling, the judge says yes to all rules exactly if valuing gives 2
use Rattle.std.specs.Prelude.{ℕ, suc, ◌+◌, ◌*◌, ◌<◌, ◌≤◌, ◌≡◌, false, List, [], ◌∷◌, ◌++◌, ◌↔◌, take, drop}
use Rattle.meaning.specs.Record.{count, Mode, diamond, back}
use Rattle.meaning.specs.Formula.{Path, may_stand, goes}
use Rattle.meaning.specs.Value.{Row, modal_row, star_square, move_square, square_of}
use Rattle.meaning.specs.Rule.{Rule, words}
use Rattle.meaning.specs.Translation.{other_rules, translation}
use Rattle.meaning.specs.Service.{judge_answer, value_answer}
use Rattle.meaning.specs.Examples.{standing, implies, short_h, no}
use Rattle.meaning.specs.WellFormed.{Trace}
use Rattle.theorems.specs.Filling.{Filling, others, Meets}
use Rattle.theorems.specs.Demand3.{Accepted, OneFilling}

-- The line follows where the star's body goes forward; where it goes back it can be false.
pub record SecondLine : Type 0 where
  pub forward : (m : Mode) (L : ℕ) (cell : ℕ → ℕ → ℕ) (p : Path) (c : Row) → goes back p ≡ false → may_stand p ≡ false
      → ((j : ℕ) → j < L → c j ≤ 2) → (k : ℕ) → suc k ≡ L → modal_row m L (star_square L (square_of L cell p)) c k ≡ c k
  pub backward : (c : Row) × (c 1 ≡ 0) × (modal_row diamond 2 (star_square 2 (move_square back)) c 1 ≡ 2)

-- p, its test, the star, q, the diamond: the test, the star and the diamond may have any value, if it is the same.
abbrev pub standing_with : ℕ → List ℕ
standing_with v = 2 ∷ 0 ∷ 2 ∷ v ∷ v ∷ 0 ∷ v ∷ []

pub record Standing : Type 0 where
  pub three : (f : List ℕ) → Filling 2 5 1 (2 ∷ 0 ∷ []) f → Meets standing 2 1 f ↔ ((v : ℕ) × (v ≤ 2) × (f ≡ standing_with v))
  pub filled : (v : ℕ) → v ≤ 2 → Filling 2 5 1 (2 ∷ 0 ∷ []) (standing_with v)

-- [p?]q at one instant, p and q there only: its value is 2. Of its rules the one at place 5 is "x, a, not c"; without it the judge accepts
-- the filling in which the labels of the test and the box are 1, and with it that rule fails.
abbrev pub without_last : List Rule
without_last = take 5 (other_rules implies 2) ++ drop 6 (other_rules implies 2)

pub record BoxTest : Type 0 where
  pub due : (value_answer implies 2 1 (1 ∷ 1 ∷ []) 4).value ≡ 2
  pub filled : Filling 2 4 1 (1 ∷ 1 ∷ []) short_h
  pub without : (judge_answer (words without_last) 6 1 short_h).holds ≡ 1
  pub with_it : judge_answer (others implies 2) 6 1 short_h ≡ no 5 0

pub record Agreement : Type 0 where
  pub agrees : (s : List ℕ) (A L : ℕ) (cells : List ℕ) → Accepted s A → Trace A L cells → (one : OneFilling s A L cells)
      → ((judge_answer (words (translation s A)) (A + count s) L one.filling).holds ≡ 1)
      ↔ ((value_answer s A L cells (count s * L)).value ≡ 2)
