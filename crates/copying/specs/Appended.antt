-- Lists stored one after another.
--   Appended old at t e new   `new` is `old` with t stored from `at` on, and e is the place after t
use Rattle.std.specs.Prelude.{ℕ, ◌+◌, ◌≡◌, List, length}
use Rattle.std.proofs.lemmas.List.Edits.{sets}

pub record Appended {T : Type 0} (old : List T) (at : ℕ) (t : List T) (e : ℕ) (new : List T) : Type 0 where
  pub place : e ≡ at + length t
  pub whole : new ≡ sets old at t
