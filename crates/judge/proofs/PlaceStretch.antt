-- The instants of a place are a stretch: each from its start up to its end has the place, and no other.
use Prim.Native.Nat.{ℕ, ◌≤◌, ◌<◌}
use mathlib.Core.Path.{◌≡◌}
use mathlib.Core.Bool.{true}
use native.Mathlib.Omega.{arith}
use Rattle.std.proofs.lemmas.Bool.Decides.{nat_tests}
use Rattle.meaning.specs.Rule.{placed}
use Rattle.judge.specs.declared.place.Place.{Place}
use Rattle.judge.specs.declared.place.Place.TheVariants.{Every, First, Later, Last}
use Rattle.judge.specs.Read.{place_meant, start_of, end_of}

-- Of the instants below L, those from a up to b have the place.
pub record Stretch (L place a b : ℕ) : Type 0 where
  pub order : a ≤ b
  pub last : b ≤ L
  pub within : (k : ℕ) → a ≤ k → k < b → placed L place k ≡ true
  pub only : (k : ℕ) → k < L → placed L place k ≡ true → (a ≤ k) × (k < b)

pub place_stretch : (L : ℕ) (p : Place) → 0 < L → Stretch L (place_meant p) (start_of L p) (end_of L p)
unfolding placed
place_stretch L Every h = grind (arith, nat_tests)
place_stretch L First h = grind (arith, nat_tests)
place_stretch L Later h = grind (arith, nat_tests)
place_stretch L Last h = grind (arith, nat_tests)
