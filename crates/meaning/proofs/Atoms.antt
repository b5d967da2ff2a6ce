-- The atoms of a tree. In well-formed records every atom's number is below A, and so it is in the tree of each record: a node
-- has the atoms of its children, and a shorthand's expansion those of its arguments.
use Prim.Native.Nat.{ℕ, zero, suc, ◌≤◌, ◌<◌, max}
use mathlib.Core.List.{List}
use native.Mathlib.Nat.{le_refl}
use native.Mathlib.Omega.{arith}
use Rattle.meaning.specs.Record.{Kind, Shorthand, columns_of, arguments_of, Language, Use, unused, atomNumber, child, use_a, use_b, count, kind_at}
use Rattle.meaning.specs.Formula.{form_atoms, path_atoms}
use Rattle.meaning.specs.Shorthand.{expansion}
use Rattle.meaning.specs.Tree.{Tree, as_form, as_path, node_of, tree_at, form_at}
use Rattle.meaning.specs.WellFormed.{Fits, WellFormed}
use Rattle.meaning.proofs.Cases.{by_kind, by_shorthand}
use Rattle.meaning.proofs.Nodes.{tree_of}

-- Of a tree taken as either sort.
abbrev tree_atoms : Tree → ℕ
tree_atoms t = max (form_atoms (as_form t)) (path_atoms (as_path t))

module _ (A : ℕ) where
  -- A child's atoms are below A; of other fields only an atom's number is asked.
  abbrev Low : Use → ℕ → Tree → Type 0
  Low unused v t = Unit {0}
  Low atomNumber v t = v < A
  Low (child σ) v t = tree_atoms t ≤ A

  -- A shorthand has its arguments' atoms.
  expansion_atoms : (a b : ℕ) (t u : Tree) (σ : Shorthand) → Low (arguments_of σ).0 a t → Low (arguments_of σ).1 b u
      → form_atoms (expansion σ (as_form t) (as_form u)) ≤ A
  unfolding expansion arguments_of form_atoms
  expansion_atoms a b t u =
      by_shorthand _ (omega arith) (omega arith) (omega arith) (omega arith) (λ w. omega arith) (λ w m. omega arith) (λ w m. omega arith)
      (omega arith) (omega arith)

  -- A node has its children's.
  node_atoms : (a b : ℕ) (tree : ℕ → Tree) (K : Kind) → Low (use_a K) a (tree a) → Low (use_b K) b (tree b)
      → tree_atoms (node_of K a b tree) ≤ A
  unfolding node_of columns_of as_form as_path form_atoms
  node_atoms a b tree =
      by_kind _ (λ v. omega arith) (omega arith) (λ m. omega arith) (λ w. omega arith) (omega arith) (omega arith) (omega arith) (omega arith)
      (λ σ p q. omega (arith, expansion_atoms a b (tree a) (tree b) σ p q)) (omega arith)

module _ {ℓ : Language} {s : List ℕ} {A : ℕ} (w : WellFormed ℓ s A) where
  -- A field that fits is low if the records before have low trees.
  field_low : (r : ℕ) → ((q : ℕ) → q < r → tree_atoms (tree_at s q) ≤ A) → (u : Use) (v : ℕ) → Fits s A r u v
      → Low A u v (tree_at s v)
  field_low r before unused v f = tt
  field_low r before atomNumber v f = f
  field_low r before (child σ) v f = before v f.0

  -- By induction on a bound of the record's number.
  tree_atoms_at : (n r : ℕ) → r < n → r < count s → tree_atoms (tree_at s r) ≤ A
  tree_atoms_at zero r b l = absurd (omega arith)
  tree_atoms_at (suc n) r b l =
      let K = kind_at s r in
      let before : (q : ℕ) → q < r → tree_atoms (tree_at s q) ≤ A = λ q h. tree_atoms_at n q (omega arith) (omega arith) in
      let first = field_low r before (use_a K) _ (w.first r l) in
      let second = field_low r before (use_b K) _ (w.second r l) in
      rw (tree_of w r l) (node_atoms A _ _ (tree_at s) K first second)

  pub form_atoms_at : (r : ℕ) → r < count s → form_atoms (form_at s r) ≤ A
  form_atoms_at r l = omega (arith, tree_atoms_at (suc r) r (le_refl _) l)
