-- The star of a square p that is at most a move: from k a pass leads to the instant beside alone. So row k of the star
-- is what there is with no pass, or the row of the instant beside, capped by the value to it; at the edge, the former.
-- Rows are written one after the other, each after the one that it needs.
use Prim.Native.Nat.{ℕ, ◌+◌, ◌-◌, ◌<◌, ◌≤◌, min, max}
use mathlib.Core.Path.{◌≡◌, ◌∙◌}
use mathlib.Core.List.{List}
use native.Mathlib.Nat.{le_refl, le_trans, le_antisymm}
use native.Mathlib.Omega.{arith}
use native.Mathlib.Decide.{ℕ_discrete}
use lib.ListN.{length}
use Rattle.meaning.specs.Record.{ahead, back}
use Rattle.meaning.specs.{Record.Way, Value.Square, Value.star_square, Value.sequence_square}
use Rattle.meaning.proofs.{Bounds.le_above, Onward.move_bound, Star.star_unfold}
use Rattle.meaning.proofs.Reach.{Beside, beside_one, move_beside, sequence_elim}
use Rattle.rows.specs.Cells.{width, area, at, Holds}
use Rattle.closing.specs.Closing.{no_pass, by, Moving, PassedRows}
use Rattle.closing.proofs.Closure.{star_through, no_pass_is, no_pass_cell}
use Rattle.closing.proofs.Passing.{passed_one}

-- ---- the law
module _ (w : Way) {L : ℕ} {p : Square} (m : Moving w L p) where
  moving_low : (k j : ℕ) → k < L → j < L → p k j ≤ 2
  moving_low k j h l = le_trans (m k j h l) (move_bound w k j)

  -- A pass of p and then q has no more than b, if that is so by way of the instant beside.
  pass_beside : (q : Square) (k j b : ℕ) → k < L → ((i : ℕ) → i < L → Beside w k i → min (p k i) (q i j) ≤ b)
      → sequence_square L p q k j ≤ b
  pass_beside q k j b h only = le_above _ b (λ v z a.
      let (i, l, x, y) = sequence_elim L p q k j v z a in
      omega (arith, only i l (move_beside w k i (omega (arith, m k i h l)))))

  -- Where there is an instant beside.
  pub star_run : (k i j : ℕ) → k < L → i < L → j < L → Beside w k i
      → star_square L p k j ≡ max (no_pass p k j) (min (star_square L p i j) (no_pass p k i))
  star_run k i j h g l b =
      let own = no_pass_cell moving_low k i h g in
      let one = pass_beside (star_square L p) k j (min (p k i) (star_square L p i j)) h (λ o _ d. rw (beside_one w k i o b d) (le_refl _)) in
      le_antisymm
      (omega (arith, star_unfold L p k j h, no_pass_is L p k j (moving_low k j h l), one, own.0))
      (omega (arith, (no_pass_cell moving_low k j h l).1, own.1, star_through L p k i j h))

  -- Where there is none.
  pub star_edge : (k j : ℕ) → k < L → j < L → ((i : ℕ) → i < L → Beside w k i → ⊥) → star_square L p k j ≡ no_pass p k j
  star_edge k j h l none =
      let no = pass_beside (star_square L p) k j 0 h (λ i g d. absurd (none i g d)) in
      omega (arith, star_unfold L p k j h, no, no_pass_is L p k j (moving_low k j h l), (no_pass_cell moving_low k j h l).1)

-- ---- row by row
-- The rows that i turns have reached, starting from the edge's: ahead from the last, back from the first.
abbrev pub Reached : Way → ℕ → ℕ → ℕ → Type 0
Reached ahead L i k = L ≤ k + i
Reached back L i k = k < i

-- Turn i is for row k, from the row of the instant b beside it.
abbrev pub Turn : Way → ℕ → ℕ → ℕ → ℕ → Type 0
Turn ahead L i k b = (k ≡ L - i - 1) × (b ≡ L - i)
Turn back L i k b = (k ≡ i) × (b ≡ i - 1)

-- The rows that i turns have reached are the star's, and the others have no pass.
pub record Running (w : Way) (L i : ℕ) (p : Square) (s : List ℕ) : Type 0 where
  pub moving : Moving w L p
  pub size : length s ≡ area
  pub done : (k j : ℕ) → k < L → j < L → Reached w L i k → at s k j ≡ star_square L p k j
  pub left : (k j : ℕ) → k < L → j < L → (Reached w L i k → ⊥) → at s k j ≡ no_pass p k j

-- At first that is the edge's.
edge_alone : (w : Way) (L k i : ℕ) → k < L → Reached w L 1 k → i < L → Beside w k i → ⊥
unfolding Beside
edge_alone ahead L k i = omega arith
edge_alone back L k i = omega arith

pub running_none : {w : Way} {L : ℕ} {p : Square} {s : List ℕ} → Moving w L p → Holds L s (no_pass p) → Running w L 1 p s
running_none {w} {L} m h = record {
  moving = m;
  size = h.size;
  done = λ k j a b d. h.cells k j a b ∙ (let e = star_edge w m k j a b (λ i. edge_alone w L k i a d) in rw e);
  left = λ k j a b _. h.cells k j a b;
}

-- A turn reaches one row more.
turn_one : (w : Way) (L i k b : ℕ) → 1 ≤ i → i < L → Turn w L i k b
    → (k < L) × (b < L) × Beside w k b × (Reached w L i k → ⊥) × Reached w L i b × Reached w L (i + 1) k
unfolding Beside
turn_one ahead L i k b l h t = (omega arith, omega arith, omega arith, omega arith, omega arith, omega arith)
turn_one back L i k b l h t = (omega arith, omega arith, omega arith, omega arith, omega arith, omega arith)

turn_others : (w : Way) (L i k b q : ℕ) → i < L → Turn w L i k b → (q ≡ k → ⊥)
    → (Reached w L (i + 1) q → Reached w L i q) × (Reached w L i q → Reached w L (i + 1) q)
turn_others ahead L i k b q h t n = (omega arith, omega arith)
turn_others back L i k b q h t n = (omega arith, omega arith)

module _ {w : Way} {L i k b : ℕ} {p : Square} {s new : List ℕ} (r : Running w L i p s) (short : L ≤ width) (l : 1 ≤ i) (h : i < L)
    (t : Turn w L i k b) (passed : PassedRows b k (k + 1) s new) where
  running_row : (j : ℕ) → j < L → at new k j ≡ star_square L p k j
  unfolding by
  running_row j g =
      let one = turn_one w L i k b l h t in
      (passed_one passed).row j (omega arith)
      ∙ omega (
        arith,
        r.left k j one.0 g one.3,
        r.left k b one.0 one.1 one.3,
        r.done b j one.1 g one.4,
        star_run w r.moving k b j one.0 one.1 g one.2,
      )

  pub running_more : Running w L (i + 1) p new
  running_more = record {
    moving = r.moving;
    size = passed.size;
    done = λ o j a c d. elim (ℕ_discrete o k) [
      | yes e ↦ rw e (running_row j c)
      | no n ↦ (passed_one passed).others o j n (omega arith) ∙ r.done o j a c ((turn_others w L i k b o h t n).0 d)
    ];
    left = λ o j a c n.
        let ne : o ≡ k → ⊥ = λ z. n (rw z (turn_one w L i k b l h t).5) in
        (passed_one passed).others o j ne (omega arith) ∙ r.left o j a c (λ d. n ((turn_others w L i k b o h t ne).1 d));
  }
