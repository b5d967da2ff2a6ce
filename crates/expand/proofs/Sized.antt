-- Six bytes a record: the bytes of a tree, of a step and of a row of steps are six for each record. So the steps of a record write as
-- many records as its tree has.
use Prim.Native.Nat.{ℕ, ◌+◌, ◌*◌}
use mathlib.Core.Path.{◌≡◌, refl, ap}
use mathlib.Core.Bool.{true}
use mathlib.Core.List.{List, [], ◌∷◌}
use native.Mathlib.Omega.{arith}
use lib.ListN.{length, length-append}
use Rattle.meaning.specs.Record.{full, Kind, record_size, Sort, formula, path, Use, unused, atomNumber, child, use_a, use_b, sort_of, known}
use Rattle.meaning.specs.Tree.{Tree, as_form, as_path, node_of, form_from, path_from, form_size, path_size}
use Rattle.meaning.specs.Formula.{Form, Path}
use Rattle.expand.specs.Steps.{Step, part_a, part_b, atom, leaf, one, two, steps_of, tree_from, tree_size, field_from, field_size}
use Rattle.expand.specs.Steps.{step_from, step_size, next_under}
use Rattle.expand.proofs.Stepping.{steps_from, node_from}

mutual
  unfolding form_from form_size path_from path_size

  form_length : (f : Form) (n : ℕ) → length (form_from f n) ≡ record_size * form_size f
  form_length (Form.constant v) n = refl
  form_length (Form.atom i) n = refl
  form_length (Form.modal m p f) n =
      simp length-append (omega (arith, path_length p n, form_length f (n + path_size p)))

  path_length : (p : Path) (n : ℕ) → length (path_from p n) ≡ record_size * path_size p
  path_length (Path.move w) n = refl
  path_length (Path.test f) n = simp length-append (omega (arith, form_length f n))
  path_length (Path.choice p q) n =
      simp length-append (omega (arith, path_length p n, path_length q (n + path_size p)))
  path_length (Path.sequence p q) n =
      simp length-append (omega (arith, path_length p n, path_length q (n + path_size p)))
  path_length (Path.star p) n = simp length-append (omega (arith, path_length p n))

pub tree_length : (σ : Sort) (t : Tree) (n : ℕ) → length (tree_from σ t n) ≡ record_size * tree_size σ t
unfolding tree_from tree_size
tree_length formula t n = form_length (as_form t) n
tree_length path t n = path_length (as_path t) n

field_length : (u : Use) (t : Tree) (n : ℕ) → length (field_from u t n) ≡ record_size * field_size u t
unfolding field_from field_size
field_length unused t n = refl
field_length atomNumber t n = refl
field_length (child σ) t n = tree_length σ t n

module _ (K : Kind) (a b : ℕ) (t : ℕ → Tree) where
  pub step_length : (d : Step) (under n : ℕ) → length (step_from K a b t d under n) ≡ record_size * step_size K a b t d
  unfolding step_from step_size
  step_length part_a under n = field_length (use_a K) (t a) n
  step_length part_b under n = field_length (use_b K) (t b) n
  step_length atom under n = refl
  step_length (leaf own) under n = refl
  step_length (one own) under n = refl
  step_length (two own) under n = refl

  -- How many records a row of steps writes.
  unfoldable pub steps_size : List Step → ℕ
  steps_size [] = 0
  steps_size (d ∷ ds) = step_size K a b t d + steps_size ds

  steps_length : (ds : List Step) (under n : ℕ) → length (steps_from K a b t ds under n) ≡ record_size * steps_size ds
  unfolding steps_from steps_size
  steps_length [] under n = refl
  steps_length (d ∷ ds) under n =
      simp length-append (omega (arith, step_length d under n, steps_length ds (next_under d under n) (n + step_size K a b t d)))

  pub node_size : known full K ≡ true → tree_size (sort_of K) (node_of K a b t) ≡ steps_size (steps_of K)
  node_size h =
      omega (arith, tree_length (sort_of K) (node_of K a b t) 0, steps_length (steps_of K) 0 0, ap length (node_from K a b t 0 h))
