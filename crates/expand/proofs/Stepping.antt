-- A record's steps write its tree. By its kind the tree is written out on one side and the steps on the other, and
-- both are the same records end to end.
use Prim.Native.Nat.{ℕ, ◌+◌}
use mathlib.Core.Path.{◌≡◌, refl, sym}
use mathlib.Core.Bool.{true, true≢false}
use mathlib.Core.List.{List, [], ◌∷◌, ◌++◌, append_assoc}
use native.Mathlib.Nat.{add_assoc}
use Rattle.meaning.specs.Record.{full, Kind, constant, atom, modal, move, test, choice, sequence, star, shorthand, unknown}
use Rattle.meaning.specs.Record.{columns_of, denied, both, either, implies, end, beside, along, until, since}
use Rattle.meaning.specs.Record.{arguments_of, sort_of, known}
use Rattle.meaning.specs.Tree.{Tree, as_form, as_path, node_of, form_from, path_from, form_size, path_size}
use Rattle.meaning.specs.Shorthand.{expansion}
use Rattle.expand.specs.Steps.{Step, form_steps, path_steps, steps_of, tree_from, tree_size, field_from, field_size}
use Rattle.expand.specs.Steps.{step_from, step_size, next_under}

-- The records of a list of steps.
module _ (K : Kind) (a b : ℕ) (t : ℕ → Tree) where
  unfoldable pub steps_from : List Step → ℕ → ℕ → List ℕ
  steps_from [] under n = []
  steps_from (d ∷ ds) under n = step_from K a b t d under n ++ steps_from ds (next_under d under n) (n + step_size K a b t d)

pub node_from : (K : Kind) (a b : ℕ) (t : ℕ → Tree) (n : ℕ) → known full K ≡ true
    → tree_from (sort_of K) (node_of K a b t) n ≡ steps_from K a b t (steps_of K) n n
unfolding known columns_of node_of as_form as_path expansion tree_from tree_size form_from path_from form_size path_size
    steps_of form_steps path_steps steps_from step_from step_size next_under field_from field_size arguments_of
node_from (constant v) a b t n h = refl
node_from atom a b t n h = refl
node_from (modal m) a b t n h = simp (append_assoc, add_assoc)
node_from (move w) a b t n h = refl
node_from test a b t n h = refl
node_from choice a b t n h = simp (append_assoc, add_assoc)
node_from sequence a b t n h = simp (append_assoc, add_assoc)
node_from star a b t n h = refl
node_from (shorthand denied) a b t n h = simp (append_assoc, add_assoc)
node_from (shorthand both) a b t n h = simp (append_assoc, add_assoc)
node_from (shorthand either) a b t n h = simp (append_assoc, add_assoc)
node_from (shorthand implies) a b t n h = simp (append_assoc, add_assoc)
node_from (shorthand (end w)) a b t n h = refl
node_from (shorthand (beside w m)) a b t n h = refl
node_from (shorthand (along w m)) a b t n h = simp add_assoc
node_from (shorthand until) a b t n h = simp (append_assoc, add_assoc)
node_from (shorthand since) a b t n h = simp (append_assoc, add_assoc)
node_from unknown a b t n h = absurd (true≢false (sym h))
