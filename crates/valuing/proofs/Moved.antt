-- A path that is one move with tests about it, by its records. A test leads from an instant to itself alone, so before
-- a path or after it the whole leads no farther: the path's square is at most the move's.
use Prim.Native.Nat.{ℕ, ◌<◌, ◌≤◌}
use mathlib.Core.Path.{◌≡◌, refl, sym, subst}
use mathlib.Core.Logic.{inr}
use mathlib.Core.List.{List}
use native.Mathlib.Nat.{le_refl, le_trans}
use Rattle.meaning.specs.Record.{core, Way, test, sequence, count, kind_at, field_a, field_b, columns_of}
use Rattle.meaning.specs.Value.{Square, test_square, sequence_square}
use Rattle.meaning.specs.WellFormed.{WellFormed}
use Rattle.meaning.proofs.Bounds.{le_above}
use Rattle.meaning.proofs.Reach.{only_there, sequence_elim}
use Rattle.rows.specs.Cells.{at}
use Rattle.joining.specs.Joining.{join_of}
use Rattle.closing.specs.Closing.{Moving}
use Rattle.valuing.specs.Valuing.{Asked, Moves, PathSquare}
use Rattle.valuing.proofs.Meant.{sq, square_move, square_test, square_join}
use Rattle.valuing.proofs.Children.{part_first, part_second}

-- ---- records
module _ {s : List ℕ} {A q : ℕ} (w : WellFormed core s A) (l : q < count s) (e : sequence ≡ kind_at s q) where
  -- The parts of a sequence are earlier records.
  pub parts_earlier : {a b : ℕ} → a ≡ field_a s q → b ≡ field_b s q → (a < q) × (b < q)
  unfolding columns_of
  parts_earlier fa fb = (rw fa (rw (← e) at (w.first q l)).0, rw fb (rw (← e) at (w.second q l)).0)

-- With a test for its first part, or its second, it moves as the other does.
module _ {s : List ℕ} {v : Way} {q a b : ℕ} (e : sequence ≡ kind_at s q) (fa : a ≡ field_a s q) (fb : b ≡ field_b s q) where
  pub moves_tested : kind_at s a ≡ test → Moves s v b → Moves s v q
  moves_tested d m = Moves.tested (sym e) (rw fa at d) (rw fb at m)

  pub moves_testing : kind_at s b ≡ test → Moves s v a → Moves s v q
  moves_testing d m = Moves.testing (sym e) (rw fb at d) (rw fa at m)

-- ---- squares
-- A path that leads from each instant to itself alone.
abbrev Still : Square → Type 0
Still p = (k j : ℕ) → 0 < p k j → j ≡ k

module _ (w : Way) (L : ℕ) (p q : Square) where
  still_moving : Still p → Moving w L q → Moving w L (sequence_square L p q)
  still_moving still m k j h l = le_above _ _ (λ v z a.
      let (i, il, x, y) = sequence_elim L p q k j v z a in
      le_trans (subst (λ (i : ℕ). v ≤ q i j) (still k i (le_trans z x)) y) (m k j h l))

  moving_still : Still q → Moving w L p → Moving w L (sequence_square L p q)
  moving_still still m k j h l = le_above _ _ (λ v z a.
      let (i, il, x, y) = sequence_elim L p q k j v z a in
      le_trans (subst (λ (i : ℕ). v ≤ p k i) (sym (still i j (le_trans z y))) x) (m k j h l))

module _ {s : List ℕ} {A L : ℕ} {cells t : List ℕ} where
  test_still : {r : ℕ} (w : Asked s A L cells r t) → test ≡ kind_at s r → Still (sq w r)
  unfolding test_square
  test_still w e k j z = only_there j k _ (rw (square_test w e k j) at z)

  moves_moving : {v : Way} {r : ℕ} (w : Asked s A L cells r t) → Moves s v r → Moving v L (sq w r)
  unfolding join_of
  moves_moving w (Moves.itself e) k j h l = rw (square_move w (sym e) k j) (le_refl _)
  moves_moving {v} {r} w (Moves.tested e d m) k j h l =
      let a = part_first w (inr refl) (sym e) refl in
      let b = part_second w (inr refl) (sym e) refl in
      rw (square_join w (inr refl) (sym e) k j)
      (still_moving v L _ _ (test_still a.1.0 (sym d)) (moves_moving b.1.0 m) k j h l)
  moves_moving {v} {r} w (Moves.testing e d m) k j h l =
      let a = part_first w (inr refl) (sym e) refl in
      let b = part_second w (inr refl) (sym e) refl in
      rw (square_join w (inr refl) (sym e) k j)
      (moving_still v L _ _ (test_still b.1.0 (sym d)) (moves_moving a.1.0 m) k j h l)

-- So are the bytes of such a path's square.
pub square_moving : {s : List ℕ} {L p : ℕ} {v : Way} {bytes : List ℕ} (w : PathSquare s L p bytes) → Moves s v p
    → Moving v L (at bytes)
square_moving w m k j h l = rw (w.square.cells k j h l) (moves_moving w.asked m k j h l)
