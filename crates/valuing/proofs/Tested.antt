-- A sequence that begins with a test, whose square is the rest's, no row more than the tested value there. A test leads
-- from an instant to itself alone.
use Prim.Native.Nat.{ℕ, ◌*◌, ◌≤◌}
use mathlib.Core.Path.{◌≡◌, refl, subst}
use mathlib.Core.Logic.{inr}
use mathlib.Core.List.{List}
use native.Mathlib.Nat.{le_trans, le-min, le_antisymm}
use native.Mathlib.Omega.{arith}
use Rattle.meaning.specs.Record.{sequence, test, kind_at, field_a, field_b, path}
use Rattle.meaning.specs.Value.{Row, Square, test_square, sequence_square}
use Rattle.meaning.proofs.Bounds.{le_above}
use Rattle.meaning.proofs.Reach.{only_there, value_there, there_bound, sequence_elim, sequence_intro}
use Rattle.rows.specs.Cells.{at, row_at, Holds}
use Rattle.squares.specs.Places.{capped}
use Rattle.joining.specs.Joining.{join_of}
use Rattle.valuing.specs.Valuing.{Under, RowsValued, Squared}
use Rattle.rows.proofs.Same.{Agree, holds_same}
use Rattle.valuing.proofs.Children.{AskedAs, part_first, test_formula}
use Rattle.valuing.proofs.Recursion.{test_valued, test_agrees, join_done}

-- ---- values
capped_sequence : (L : ℕ) (f : Row) (q : Square) → Agree L (capped f q) (sequence_square L (test_square f) q)
unfolding test_square
capped_sequence L f q k j h l =
    le_antisymm
    (sequence_intro L (test_square f) q k k j (capped f q k j) h (omega (arith, value_there k k (f k) refl)) (omega arith))
    (le_above _ _ (λ v z a.
    let (i, il, x, y) = sequence_elim L (test_square f) q k j v z a in
    le-min (subst (λ i. v ≤ q i j) (only_there i k (f k) (le_trans z x)) y) (le_trans x (there_bound i k (f k)))))

pub tested_done : {s : List ℕ} {A L : ℕ} {cells : List ℕ} {r a b f start : ℕ} {y new t t₁ t₂ : List ℕ}
    → AskedAs s A L cells r t path → sequence ≡ kind_at s r → test ≡ kind_at s a
    → a ≡ field_a s r → b ≡ field_b s r → f ≡ field_a s a → start ≡ f * L
    → RowsValued s A L cells f t t₁ → RowsValued s A L cells b t₁ t₂ → Squared s A L cells b y
    → Holds L new (capped (row_at t₂ start) (at y)) → RowsValued s A L cells r t t₂ × Squared s A L cells r new
unfolding join_of
tested_done {L = L} {f = f} {start} {y} {new} {t} {t₁} {t₂} w e d fa fb ff fs v₁ v₂ q h =
    let ha = part_first w.0 (inr refl) e fa in
    let hf = test_formula ha.1.0 d ff in
    let right = v₂.steady.right f (v₁.rows f Under.itself hf.1.1) in
    join_done w (inr refl) e fa fb (test_valued ha.1 d ff v₁) (test_agrees ha.1 d ff fs right) v₂ q.cells
    (holds_same h (capped_sequence L (row_at t₂ start) (at y)))
