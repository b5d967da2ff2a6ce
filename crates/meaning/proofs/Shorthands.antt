-- What the shorthands mean: a test is a gate, a move a look beside, a star over a move a stretch of the trace, and until
-- and since are the rows that solve their stars' equations.
use Prim.Native.Nat.{ℕ, zero, suc, ◌≤◌, ◌<◌, zero-le}
use mathlib.Core.Path.{◌≡◌, refl, ◌∙◌}
use native.Mathlib.Nat.{le_refl}
use native.Mathlib.Omega.{arith}
use lib.Dec.{leb-suc-zero, eqb-suc-zero}
use Rattle.meaning.specs.Three.{imp, negation}
use Rattle.meaning.specs.Record.{diamond, box, ahead, back}
use Rattle.meaning.specs.Formula.{Form, move, test, sequence, may_stand, same_way, goes}
use Rattle.meaning.specs.Shorthand.{expansion}
use Rattle.meaning.specs.Value.{Row, test_square, modal_row, value_of, square_of}
use Rattle.meaning.proofs.Onward.{other, values_bound}
use Rattle.meaning.proofs.Within.{joined, gate, edge}
use Rattle.meaning.proofs.Modality.{modal_choice, modal_test}
use Rattle.meaning.specs.Worth.{Means, Shorthands}
use Rattle.meaning.proofs.Along.{move_row, last_only, first_only, stretch, star_row, along_row, until_solves, since_solves}

-- To imply false is to be negated.
imp_false : (u : ℕ) → imp u 0 ≡ negation u
unfolding imp negation
imp_false zero = refl
imp_false (suc u) = rw (leb-suc-zero, eqb-suc-zero)

module _ (L : ℕ) (cell : ℕ → ℕ → ℕ) (cells : (k i : ℕ) → k < L → cell k i ≤ 2) (F G : Form) (k : ℕ) (l : k < L) where
  -- The values of the arguments.
  abbrev row : Form → Row
  row H = value_of L cell H

  low : (H : Form) (j : ℕ) → j < L → row H j ≤ 2
  low = values_bound L cell cells

  -- A formula that is tested before what is true.
  arm : (H : Form) → modal_row diamond L (test_square (row H)) (λ j. 2) k ≡ row H k
  unfolding gate
  arm H = modal_test diamond L (row H) (λ j. 2) k l (le_refl 2) ∙ omega (arith, low H k l)

  means : Means L (row F) (row G) k (λ σ. row (expansion σ F G) k)
  unfolding expansion value_of square_of gate joined edge stretch goes may_stand same_way other
  means = record {
    not = modal_test box L (row F) _ k l zero-le ∙ imp_false (row F k);
    and = modal_test diamond L (row F) (row G) k l (low G k l);
    or = modal_choice diamond L (test_square (row F)) (test_square (row G)) (λ j. 2) k ∙ rw (arm F, arm G);
    implies = modal_test box L (row F) (row G) k l (low G k l);
    final = move_row L ahead box (λ j. 0) (λ j b. zero-le) k l ∙ last_only k L l;
    initial = move_row L back box (λ j. 0) (λ j b. zero-le) k l ∙ first_only k;
    next = move_row L ahead diamond (row F) (low F) k l;
    weak_next = move_row L ahead box (row F) (low F) k l;
    previous = move_row L back diamond (row F) (low F) k l;
    weak_previous = move_row L back box (row F) (low F) k l;
    eventually = along_row L cell cells ahead diamond F k l;
    always = along_row L cell cells ahead box F k l;
    once = along_row L cell cells back diamond F k l;
    so_far = along_row L cell cells back box F k l;
    until = star_row L cell cells diamond ahead (sequence (test F) (move ahead)) refl refl G _ (until_solves L (row F) (row G) (low G)) k l;
    since = star_row L cell cells diamond back (sequence (test F) (move back)) refl refl G _ (since_solves L (row F) (row G) (low G)) k l;
  }

pub shorthands : Shorthands
shorthands = record { mean = means }
