-- A record's tree as a row of steps, each of which writes some records after those before it: the tree of a field, or one record of a core
-- kind, which takes the last one or two trees for its children, or begins a tree. In between at most two trees stand by themselves, and
-- `under` is where the second of two begins.
--   steps_of kind            the steps of a record of the kind; a shorthand's are those of its expansion
--   tree_from sort t n       the records of the tree t, which is of the sort, from number n on
--   tree_size sort t         how many they are
--   step_from .. d under n   the records that the step d of a record writes, from number n on
--   step_size .. d           how many they are
--   next_under d under n     what `under` is after them
use Rattle.std.specs.Prelude.{ℕ, zero, suc, pred, List, [], ◌∷◌, ◌++◌}
use Rattle.meaning.specs.Record.{Kind, Sort, formula, path, Use, unused, atomNumber, child, use_a, use_b, record_bytes}
use Rattle.meaning.specs.Formula.{Form, Path}
use Rattle.meaning.specs.Shorthand.{expansion}
use Rattle.meaning.specs.Tree.{Tree, as_form, as_path, form_from, path_from, form_size, path_size}

-- The tree of field a, or of field b; an atom's record, and one of the kind with no child, one child or two.
pub data Step : Type 0 where
  part_a part_b atom : Step
  leaf one two : Kind → Step

-- ---- the steps of a kind
-- Those of an expansion in which the atom 0 stands for the first argument, and any other for the second.
unfoldable mutual
  pub form_steps : Form → List Step
  form_steps (Form.constant v) = leaf (Kind.constant v) ∷ []
  form_steps (Form.atom zero) = part_a ∷ []
  form_steps (Form.atom (suc i)) = part_b ∷ []
  form_steps (Form.modal m p f) = path_steps p ++ form_steps f ++ (two (Kind.modal m) ∷ [])

  pub path_steps : Path → List Step
  path_steps (Path.move w) = leaf (Kind.move w) ∷ []
  path_steps (Path.test f) = form_steps f ++ (one Kind.test ∷ [])
  path_steps (Path.choice p q) = path_steps p ++ path_steps q ++ (two Kind.choice ∷ [])
  path_steps (Path.sequence p q) = path_steps p ++ path_steps q ++ (two Kind.sequence ∷ [])
  path_steps (Path.star p) = path_steps p ++ (one Kind.star ∷ [])

-- A core kind's are the trees of its fields and a record of the kind.
unfoldable pub steps_of : Kind → List Step
steps_of (Kind.constant v) = leaf (Kind.constant v) ∷ []
steps_of Kind.atom = atom ∷ []
steps_of (Kind.modal m) = part_a ∷ part_b ∷ two (Kind.modal m) ∷ []
steps_of (Kind.move w) = leaf (Kind.move w) ∷ []
steps_of Kind.test = part_a ∷ one Kind.test ∷ []
steps_of Kind.choice = part_a ∷ part_b ∷ two Kind.choice ∷ []
steps_of Kind.sequence = part_a ∷ part_b ∷ two Kind.sequence ∷ []
steps_of Kind.star = part_a ∷ one Kind.star ∷ []
steps_of (Kind.shorthand σ) = form_steps (expansion σ (Form.atom 0) (Form.atom 1))
steps_of Kind.unknown = []

-- ---- trees
unfoldable pub tree_from : Sort → Tree → ℕ → List ℕ
tree_from formula t n = form_from (as_form t) n
tree_from path t n = path_from (as_path t) n

unfoldable pub tree_size : Sort → Tree → ℕ
tree_size formula t = form_size (as_form t)
tree_size path t = path_size (as_path t)

-- Those of the tree that a field names, by what it holds.
unfoldable pub field_from : Use → Tree → ℕ → List ℕ
field_from unused t n = []
field_from atomNumber t n = []
field_from (child sort) t n = tree_from sort t n

unfoldable pub field_size : Use → Tree → ℕ
field_size unused t = 0
field_size atomNumber t = 0
field_size (child sort) t = tree_size sort t

-- ---- a step of a record of the kind with fields a and b; `tree` has the trees of the records before
-- One record, that gets the number n: its only child, or the second of two, is the record before; the first of two is the one before
-- `under`.
unfoldable pub step_from : Kind → ℕ → ℕ → (ℕ → Tree) → Step → ℕ → ℕ → List ℕ
step_from kind a b tree part_a under n = field_from (use_a kind) (tree a) n
step_from kind a b tree part_b under n = field_from (use_b kind) (tree b) n
step_from kind a b tree atom under n = record_bytes Kind.atom a 0
step_from kind a b tree (leaf own) under n = record_bytes own 0 0
step_from kind a b tree (one own) under n = record_bytes own (pred n) 0
step_from kind a b tree (two own) under n = record_bytes own (pred under) (pred n)

unfoldable pub step_size : Kind → ℕ → ℕ → (ℕ → Tree) → Step → ℕ
step_size kind a b tree part_a = field_size (use_a kind) (tree a)
step_size kind a b tree part_b = field_size (use_b kind) (tree b)
step_size kind a b tree atom = 1
step_size kind a b tree (leaf own) = 1
step_size kind a b tree (one own) = 1
step_size kind a b tree (two own) = 1

unfoldable pub next_under : Step → ℕ → ℕ → ℕ
next_under part_a under n = n
next_under part_b under n = n
next_under atom under n = n
next_under (leaf own) under n = n
next_under (one own) under n = under
next_under (two own) under n = under
