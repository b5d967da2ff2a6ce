-- Lists that are laid out by a rule, and what a lent buffer holds.
--   each n f          the lists f 0, f 1 .. f (n - 1), end to end
--   tabulate n f      the numbers f 0, f 1 .. f (n - 1)
--   written new old   the buffer `old` with `new` at its start and the rest as it was
--   cell_of W cells   cell i of row k, where each row has W cells
use Rattle.std.specs.Prelude.{ℕ, zero, suc, ◌+◌, ◌*◌, List, [], ◌∷◌, ◌++◌, length, get_or, drop}

unfoldable pub each : {T : Type 0} → ℕ → (ℕ → List T) → List T
each zero f = []
each (suc n) f = each n f ++ f n

unfoldable pub tabulate : ℕ → (ℕ → ℕ) → List ℕ
tabulate n f = each n (λ i. f i ∷ [])

unfoldable pub written : List ℕ → List ℕ → List ℕ
written new old = new ++ drop (length new) old

abbrev pub cell_of : ℕ → List ℕ → ℕ → ℕ → ℕ
cell_of W cells k i = get_or cells (W * k + i) 0
