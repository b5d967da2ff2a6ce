-- The value is that of f after j turns.
use Rattle.std.proofs.Common.{ℕ, ◌≡◌, ◌+◌, ◌<◌, length, get_or}
use Rattle.tables.proofs.over_instants.Given as goal

abbrev pub invariant-loop-j : goal.invariant-loop-j
invariant-loop-j g l =
    (f : ℕ → ℕ) → l.fn.first ≡ f 0
    → ((j v : ℕ) → j < length l.path → goal.F-post g l.take (f j) (get_or l.path j 0) (get_or l.values j 0) v → v ≡ f (j + 1))
    → l.value ≡ f l.j
