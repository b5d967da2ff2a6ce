-- A row of a sequence that is raised by one instant a turn: after i turns its values are by way of the instants below
-- i. One instant more gives the greater of what was and the smaller of the value to that instant and the value from it.
use Prim.Native.Nat.{ℕ, ◌+◌}
use mathlib.Core.Path.{refl, ◌∙◌}
use mathlib.Core.List.{List}
use native.Mathlib.Nat.{min_comm}
use lib.ListN.{replicate, get_or-replicate}
use Rattle.meaning.specs.{Three.greatest, Value.Square, Value.sequence_square}
use Rattle.meaning.proofs.Bounds.{greatest_more}
use Rattle.rows.specs.Cells.{width, Values, Raised}

module _ (p q : Square) (k : ℕ) where
  pub leading_none : Values (sequence_square 0 p q k) (replicate width 0)
  unfolding sequence_square greatest
  leading_none = record { size = refl; cells = λ j h. get_or-replicate width j 0 0 h }

  pub leading_more : (i : ℕ) {row new : List ℕ} → Values (sequence_square i p q k) row → Raised (q i) (p k i) row new
      → Values (sequence_square (i + 1) p q k) new
  unfolding sequence_square
  leading_more i w r = record {
    size = r.size;
    cells = λ j h. r.cells j h ∙ rw (greatest_more i, w.cells j h, min_comm (q i j) (p k i));
  }
