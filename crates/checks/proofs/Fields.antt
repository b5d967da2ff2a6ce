-- What the code reads of a record's fields, and what it says of a child.
use Prim.Native.Nat.{ℕ, ◌<◌}
use mathlib.Core.Path.{◌≡◌, refl}
use mathlib.Core.Bool.{Bool, cond, not}
use mathlib.Core.List.{List}
use borrow.Author.Tests.{lt-leb}
use denote.Enum.Bare.{sameb}
use Rattle.meaning.specs.Record.{Use, child, kind_at, sort_of, use_a, use_b, field_a, field_b}
use Rattle.meaning.specs.Refusal.{of_first, first_of, stray, late, beyond, misfit, differ}
use Rattle.shapes.specs.declared.Sort.{Sort}
use Rattle.shapes.specs.declared.Sort.TheVariants.{Formula, Path}
use Rattle.shapes.specs.contracts.Sort.{the_type}
use Rattle.shapes.specs.Uses.{sort_meant}
use Rattle.checks.specs.Places.{field_grounds}

-- The fields of record r as the code reads them.
pub record Read (s : List ℕ) (r : ℕ) (held_a held_b : Use) (a b : ℕ) : Type 0 where
  pub use_a_of : held_a ≡ use_a (kind_at s r)
  pub use_b_of : held_b ≡ use_b (kind_at s r)
  pub at_a : a ≡ field_a s r
  pub at_b : b ≡ field_b s r

differ_meant : (t u : Sort) → differ (sort_meant u) (sort_meant t) ≡ not (sameb the_type t u)
unfolding differ
differ_meant Formula Formula = refl
differ_meant Formula Path = refl
differ_meant Path Formula = refl
differ_meant Path Path = refl

-- Of an earlier child of sort t, where one of sort u belongs; other is the test as the code made it.
pub by_child : (s : List ℕ) (A r v : ℕ) (t u : Sort) {other : Bool} → v < r → sort_meant t ≡ sort_of (kind_at s v)
    → other ≡ not (sameb the_type t u) → cond other 6 0 ≡ first_of (field_grounds s A r (child (sort_meant u)) v)
unfolding of_first field_grounds stray late beyond misfit
by_child s A r v t u l e o = rw (lt-leb r v l, ← e, differ_meant t u, o)
