-- The squares of moves and tests: zeros but for a diagonal.
use Prim.Native.Nat.{ℕ, ◌+◌, ◌≤◌}
use mathlib.Core.Path.{◌≡◌, refl}
use mathlib.Core.List.{List}
use native.Mathlib.Omega.{arith}
use lib.ListN.{replicate}
use Rattle.meaning.specs.{Record.Way, Record.ahead, Record.back, Value.move_square, Value.test_square}
use Rattle.rows.specs.Cells.{width, area, Holds}
use Rattle.rows.proofs.Diagonal.{Diagonal, diagonal_holds, diagonal_self, zeros_at}
use Rattle.squares.specs.Places.{next_cell}

pub test_marked : {f : ℕ → ℕ} {s : List ℕ} {l n : ℕ} → l ≤ width → n ≡ l → Diagonal 0 f (replicate area 0) s n
    → Holds l s (test_square f)
unfolding test_square
test_marked u = diagonal_self {base = λ m. 0} u refl zeros_at

pub move_marked : (w : Way) {s : List ℕ} {l n : ℕ} → Diagonal (next_cell w) (λ i. 2) (replicate area 0) s n → l ≤ width
    → n + 1 ≤ width → l ≤ n + 1 → Holds l s (move_square w)
unfolding next_cell move_square
move_marked ahead w u b e =
    diagonal_holds {base = λ m. 0} u refl zeros_at 1 (λ k j. k) (λ k j. j) (λ k j. k + 1) w
    (λ k j p q z. (omega arith, omega arith)) (λ k j x p q h z. omega arith)
move_marked back w u b e =
    diagonal_holds {base = λ m. 0} u refl zeros_at width (λ k j. j) (λ k j. j + 1) (λ k j. k) w
    (λ k j p q z. (omega arith, omega arith)) (λ k j x p q h z. omega arith)
