-- The tree of a record from its children's. The list of trees grows at its end alone, so a record's tree stays as it was put there;
-- and a node looks at a tree only where a field is a child, which in well-formed records is an earlier record.
use Prim.Native.Nat.{ℕ, zero, suc, ◌<◌}
use mathlib.Core.Path.{◌≡◌, refl, ap, ◌∙◌}
use mathlib.Core.Logic.{◌⊎◌, inl, inr}
use mathlib.Core.List.{List}
use native.Mathlib.Omega.{arith}
use lib.ListN.{length, get_or, length-append, get_or-append}
use lib.Seq.{get_or_at}
use Rattle.meaning.specs.Record.{Kind, columns_of, arguments_of, Shorthand, Use, unused, atomNumber, child, use_a, use_b, Sort}
use Rattle.meaning.specs.Record.{Language, count, kind_at, field_a, field_b}
use Rattle.meaning.specs.Shorthand.{expansion}
use Rattle.meaning.specs.Tree.{Tree, no_tree, as_form, as_path, node_of, trees, tree_at, form_at, path_at}
use Rattle.meaning.specs.WellFormed.{Fits, WellFormed}
use Rattle.meaning.proofs.Bounds.{below_suc}
use Rattle.meaning.proofs.Cases.{by_kind, by_shorthand}

-- ---- the list of trees
module _ (s : List ℕ) where
  -- It has one tree for each record.
  pub trees_length : (n : ℕ) → length (trees s n) ≡ n
  unfolding trees
  trees_length zero = refl
  trees_length (suc n) = simp (length-append, trees_length n) (omega arith)

  -- A record's tree is made of those before it.
  pub tree_node : (r : ℕ) → tree_at s r ≡ node_of (kind_at s r) (field_a s r) (field_b s r) (λ q. get_or (trees s r) q no_tree)
  unfolding trees tree_at
  tree_node r = get_or_at (trees s r) _ _ _ r (trees_length r)

  -- It stays where it is put.
  pub trees_settled : (n q : ℕ) → q < n → get_or (trees s n) q no_tree ≡ tree_at s q
  unfolding trees tree_at
  trees_settled zero q l = absurd (omega arith)
  trees_settled (suc n) q l = elim (below_suc l) [
    | inl e ↦ rw e
    | inr m ↦ get_or-append (trees s n) _ _ q (rw (trees_length n) m) ∙ trees_settled n q m
  ]

-- ---- the trees that a node looks at
-- A field that is a child has the same tree on both sides; of others nothing is asked.
abbrev Agree : Use → Tree → Tree → Type 0
Agree unused t t' = Unit {0}
Agree atomNumber t t' = Unit {0}
Agree (child σ) t t' = t ≡ t'

-- A shorthand looks at its arguments alone.
expansion_agrees : (t t' u u' : Tree) (σ : Shorthand) → Agree (arguments_of σ).0 t t' → Agree (arguments_of σ).1 u u'
    → expansion σ (as_form t) (as_form u) ≡ expansion σ (as_form t') (as_form u')
unfolding expansion arguments_of
expansion_agrees t t' u u' =
    by_shorthand _ (λ p q. cc) (λ p q. cc) (λ p q. cc) (λ p q. cc) (λ w p q. cc) (λ w m p q. cc) (λ w m p q. cc) (λ p q. cc) (λ p q. cc)

-- A node looks at its children alone.
node_agrees : (a b : ℕ) (t t' : ℕ → Tree) (K : Kind) → Agree (use_a K) (t a) (t' a) → Agree (use_b K) (t b) (t' b)
    → node_of K a b t ≡ node_of K a b t'
unfolding node_of columns_of
node_agrees a b t t' =
    by_kind _ (λ v p q. refl) (λ p q. refl) (λ m p q. cc) (λ w p q. refl) (λ p q. cc) (λ p q. cc) (λ p q. cc) (λ p q. cc)
    (λ σ p q. cc (expansion_agrees _ _ _ _ σ p q)) (λ p q. refl)

-- A child that fits is earlier, so its tree is settled.
child_settled : (s : List ℕ) (A r : ℕ) (u : Use) (v : ℕ) → Fits s A r u v
    → Agree u (get_or (trees s r) v no_tree) (tree_at s v)
child_settled s A r unused v f = tt
child_settled s A r atomNumber v f = tt
child_settled s A r (child σ) v f = trees_settled s r v f.0

-- The tree of a well-formed record is its node over the trees of its children.
pub tree_of : {ℓ : Language} {s : List ℕ} {A : ℕ} → WellFormed ℓ s A → (r : ℕ) → r < count s
    → tree_at s r ≡ node_of (kind_at s r) (field_a s r) (field_b s r) (tree_at s)
tree_of {s} {A} w r l =
    let K = kind_at s r in
    let a = child_settled s A r (use_a K) (field_a s r) (w.first r l) in
    let b = child_settled s A r (use_b K) (field_b s r) (w.second r l) in
    tree_node s r ∙ node_agrees _ _ _ _ K a b

-- So is its formula, or its path, by its kind.
module _ {ℓ : Language} {s : List ℕ} {A r : ℕ} (w : WellFormed ℓ s A) (l : r < count s) where
  pub form_node : {K : Kind} → kind_at s r ≡ K → form_at s r ≡ as_form (node_of K (field_a s r) (field_b s r) (tree_at s))
  form_node e = ap as_form (rw e at (tree_of w r l))

  pub path_node : {K : Kind} → kind_at s r ≡ K → path_at s r ≡ as_path (node_of K (field_a s r) (field_b s r) (tree_at s))
  path_node e = ap as_path (rw e at (tree_of w r l))

-- ---- the sort of a tree
-- It is one of two,
pub either_sort : (σ : Sort) → (σ ≡ Sort.formula) ⊎ (σ ≡ Sort.path)
either_sort Sort.formula = inl refl
either_sort Sort.path = inr refl

-- and not both.
pub differs : {σ : Sort} → σ ≡ Sort.formula → σ ≡ Sort.path → ⊥
differs e d = let z : ◌≡◌ {A = ℕ} 0 1 = cc in omega arith
