-- Specification, Records: the tree that a record stands for, and a tree written as records in postorder.
--   form_at s r, path_at s r    the formula, or the path, of record r, with its shorthands written out
--   form_size F, path_size P    how many records they take
--   postorder F                 the records of F: those of a, those of b, then the parent
use Rattle.std.specs.Prelude.{ℕ, zero, suc, pred, ◌+◌, false, List, [], ◌∷◌, ◌++◌, get_or}
use Rattle.meaning.specs.Record.{Kind, ahead, kind_at, field_a, field_b, record_bytes}
use Rattle.meaning.specs.Formula.{Form, Path}
use Rattle.meaning.specs.Shorthand.{expansion}

-- ---- from records to trees
pub data Tree : Type 0 where
  formula : Form → Tree
  path : Path → Tree

abbrev pub no_tree : Tree
no_tree = formula (Form.constant false)

-- Where a tree is of the other sort, which no accepted record asks for, false and a step stand in for it.
unfoldable pub as_form : Tree → Form
as_form (formula f) = f
as_form (path p) = Form.constant false

unfoldable pub as_path : Tree → Path
as_path (formula f) = Path.move ahead
as_path (path p) = p

-- The tree of a record of a kind with fields a and b; `tree` has those of the records before it.
unfoldable pub node_of : Kind → ℕ → ℕ → (ℕ → Tree) → Tree
node_of (Kind.constant v) a b tree = formula (Form.constant v)
node_of Kind.atom a b tree = formula (Form.atom a)
node_of (Kind.modal m) a b tree = formula (Form.modal m (as_path (tree a)) (as_form (tree b)))
node_of (Kind.move w) a b tree = path (Path.move w)
node_of Kind.test a b tree = path (Path.test (as_form (tree a)))
node_of Kind.choice a b tree = path (Path.choice (as_path (tree a)) (as_path (tree b)))
node_of Kind.sequence a b tree = path (Path.sequence (as_path (tree a)) (as_path (tree b)))
node_of Kind.star a b tree = path (Path.star (as_path (tree a)))
node_of (Kind.shorthand σ) a b tree = formula (expansion σ (as_form (tree a)) (as_form (tree b)))
node_of Kind.unknown a b tree = no_tree

-- The trees of the first n records.
unfoldable pub trees : List ℕ → ℕ → List Tree
trees s zero = []
trees s (suc r) = trees s r ++ (node_of (kind_at s r) (field_a s r) (field_b s r) (λ q. get_or (trees s r) q no_tree) ∷ [])

unfoldable pub tree_at : List ℕ → ℕ → Tree
tree_at s r = get_or (trees s (suc r)) r no_tree

abbrev pub form_at : List ℕ → ℕ → Form
form_at s r = as_form (tree_at s r)

abbrev pub path_at : List ℕ → ℕ → Path
path_at s r = as_path (tree_at s r)

-- ---- from trees to records
unfoldable mutual
  pub form_size : Form → ℕ
  form_size (Form.constant v) = 1
  form_size (Form.atom i) = 1
  form_size (Form.modal m p f) = path_size p + form_size f + 1

  pub path_size : Path → ℕ
  path_size (Path.move w) = 1
  path_size (Path.test f) = form_size f + 1
  path_size (Path.choice p q) = path_size p + path_size q + 1
  path_size (Path.sequence p q) = path_size p + path_size q + 1
  path_size (Path.star p) = path_size p + 1

-- The records of a tree whose first record gets the number n; a part's own record is the last of its records.
unfoldable mutual
  pub form_from : Form → ℕ → List ℕ
  form_from (Form.constant v) n = record_bytes (Kind.constant v) 0 0
  form_from (Form.atom i) n = record_bytes Kind.atom i 0
  form_from (Form.modal m p f) n =
      path_from p n ++ form_from f (n + path_size p) ++ record_bytes (Kind.modal m) (pred (n + path_size p)) (pred (n + path_size p + form_size f))

  pub path_from : Path → ℕ → List ℕ
  path_from (Path.move w) n = record_bytes (Kind.move w) 0 0
  path_from (Path.test f) n = form_from f n ++ record_bytes Kind.test (pred (n + form_size f)) 0
  path_from (Path.choice p q) n = path_from p n ++ path_from q (n + path_size p) ++ record_bytes Kind.choice (pred (n + path_size p)) (pred (n + path_size p + path_size q))
  path_from (Path.sequence p q) n = path_from p n ++ path_from q (n + path_size p) ++ record_bytes Kind.sequence (pred (n + path_size p)) (pred (n + path_size p + path_size q))
  path_from (Path.star p) n = path_from p n ++ record_bytes Kind.star (pred (n + path_size p)) 0

abbrev pub postorder : Form → List ℕ
postorder f = form_from f 0
