-- What is asked of records and of the buffer, and what was written.
--   Expandable s r               record r of a formula in which shorthands may stand
--   bytes_at s r n, size_at s r    the records of its tree from number n on, and how many they are
--   step_bytes s r d under n      those of its step d
--   step_count s r d              how many these are
--   fits kind d                  a record of the kind may have the step d
--   size_grounds n room           what an expansion of n records may be refused for, by the room that it has
--   Expanded s out x n new       the answer for records s that are a formula: refusal x, count n, and the output `new`
--   Stored bytes n size old e new   e is the number after `size` records from number n on, and their bytes were written
--   Wrote bytes n size old answer new   that; or no answer, where the number would be over 255
use Rattle.std.specs.Prelude.{ℕ, pred, ◌+◌, ◌*◌, ◌<◌, ◌≤◌, ◌≡◌, Bool, true, false, List, [], ◌∷◌, length, Option, Some, None}
use Rattle.std.proofs.lemmas.List.Edits.{sets}
use Rattle.meaning.specs.Record.{full, Kind, Use, unused, atomNumber, child, use_a, use_b, record_size, most_records, count, kind_at, field_a, field_b, sort_of}
use Rattle.meaning.specs.Run.{written}
use Rattle.meaning.specs.Tree.{tree_at, form_at, postorder}
use Rattle.meaning.specs.Refusal.{Ground, first_of, ground10, ground14, whole_form}
use Rattle.meaning.specs.Service.{accepted}
use Rattle.meaning.specs.WellFormed.{WellFormed}
use Rattle.expand.specs.Steps.{Step, part_a, part_b, atom, leaf, one, two, tree_from, tree_size, step_from, step_size}

pub record Expandable (s : List ℕ) (r : ℕ) : Type 0 where
  pub atoms : ℕ
  pub formed : WellFormed full s atoms
  pub index : r < count s

abbrev pub bytes_at : List ℕ → ℕ → ℕ → List ℕ
bytes_at s r n = tree_from (sort_of (kind_at s r)) (tree_at s r) n

abbrev pub size_at : List ℕ → ℕ → ℕ
size_at s r = tree_size (sort_of (kind_at s r)) (tree_at s r)

abbrev pub step_bytes : List ℕ → ℕ → Step → ℕ → ℕ → List ℕ
step_bytes s r = step_from (kind_at s r) (field_a s r) (field_b s r) (tree_at s)

abbrev pub step_count : List ℕ → ℕ → Step → ℕ
step_count s r = step_size (kind_at s r) (field_a s r) (field_b s r) (tree_at s)

-- ---- a record's steps
unfoldable pub is_child : Use → Bool
is_child unused = false
is_child atomNumber = false
is_child (child sort) = true

unfoldable pub is_atom : Use → Bool
is_atom unused = false
is_atom atomNumber = true
is_atom (child sort) = false

-- Only an atom's record has a step that writes an atom, and a part is a child.
unfoldable pub fits : Kind → Step → Bool
fits kind part_a = is_child (use_a kind)
fits kind part_b = is_child (use_b kind)
fits kind atom = is_atom (use_a kind)
fits kind (leaf own) = true
fits kind (one own) = true
fits kind (two own) = true

-- ---- the buffer
pub record Stored (bytes : List ℕ) (n size : ℕ) (old : List ℕ) (e : ℕ) (new : List ℕ) : Type 0 where
  pub next : e ≡ n + size
  pub few : e ≤ most_records
  pub whole : new ≡ sets old (record_size * n) bytes

abbrev pub Wrote : List ℕ → ℕ → ℕ → List ℕ → Option ℕ → List ℕ → Type 0
Wrote bytes n size old (Some e) new = Stored bytes n size old e new
Wrote bytes n size old None new = most_records < n + size

-- ---- the answer
abbrev pub size_grounds : ℕ → ℕ → List Ground
size_grounds n room = ground14 n ∷ ground10 (record_size * n) room ∷ []

pub record Expanded (s out : List ℕ) (refusal n : ℕ) (new : List ℕ) : Type 0 where
  pub sized : refusal ≡ first_of (size_grounds (whole_form s) (length out))
  pub counted : n ≡ accepted refusal (whole_form s) 0
  pub stored : new ≡ accepted refusal (written (postorder (form_at s (pred (count s)))) out) out
