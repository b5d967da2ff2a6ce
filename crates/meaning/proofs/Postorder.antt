-- A formula written in postorder is read back as that formula. A forest is a run of records that are sound, and each of them is the child
-- of one place among them, but for the roots. Two forests side by side have the roots of both; and a record after a forest, whose fields
-- are its roots, makes it a block: that record is its one root. So places add up, and no field has to be looked for. By induction on the
-- formula, the blocks of its parts stand side by side, and its own record follows them.
--   Forest ℓ e A n m roots      the records n .. m - 1 of e; roots r is 1 if r is one of the roots, else 0
--   Block ℓ e A n m σ t         the same with one root, the last; it is of the sort σ, and its tree is t
--   Part ℓ e A n size σ t x     bytes that are `size` records, and a block if they stand in e from record n on
use Prim.Native.Nat.{ℕ, zero, suc, pred, ◌+◌, ◌*◌, ◌≤◌, ◌<◌}
use mathlib.Core.Path.{◌≡◌, refl, sym, ◌∙◌}
use mathlib.Core.Bool.{true, cond}
use mathlib.Core.Logic.{inl, inr}
use mathlib.Core.List.{List, ◌++◌}
use native.Mathlib.Nat.{le_refl}
use native.Mathlib.Omega.{arith}
use lib.ListN.{length, get_or, length-append}
use lib.Dec.{eqb}
use borrow.Author.Tests.{eq-eqb, ne_eqb}
use Rattle.meaning.specs.Record.{Language, record_size, record_bytes, Kind, columns_of, Sort, unused, child, use_a, use_b, sort_of, known, kind_at, names, uses, places_in}
use Rattle.meaning.specs.Formula.{Form, Path, form_atoms, path_atoms}
use Rattle.meaning.specs.Tree.{Tree, no_tree, as_form, as_path, node_of, trees, tree_at, form_size, path_size, form_from, path_from}
use Rattle.meaning.specs.WellFormed.{Fits}
use Rattle.meaning.proofs.Bounds.{le_or_lt, below_suc, first_within, second_within}
use Rattle.meaning.proofs.Accepted.{Sound}
use Rattle.meaning.proofs.Nodes.{tree_node, trees_settled}
use Rattle.meaning.proofs.Bytes.{At, Reads, at_first, at_second, at_record}

-- ---- counting
-- 1 if the two are the same record, else 0.
abbrev pub one : ℕ → ℕ → ℕ
one v r = cond (eqb v r) 1 0

one_other : (v r : ℕ) → (v ≡ r → ⊥) → one v r ≡ 0
one_other v r d = rw (ne_eqb v r d)

-- How many of the first m records are r: 1 if it is one of them, else 0.
pub seen : ℕ → ℕ → ℕ
seen r zero = 0
seen r (suc m) = seen r m + one m r

seen_none : (r m : ℕ) → m ≤ r → seen r m ≡ 0
unfolding seen
seen_none r zero l = refl
seen_none r (suc m) l = omega (arith, seen_none r m (omega arith), one_other m r (omega arith))

seen_once : (r m : ℕ) → r < m → seen r m ≡ 1
unfolding seen
seen_once r zero l = absurd (omega arith)
seen_once r (suc m) l = elim (below_suc l) [
  | inl e ↦ let here : one m r ≡ 1 = rw (eq-eqb m r (sym e)) in omega (arith, seen_none r m (omega arith))
  | inr h ↦ omega (arith, seen_once r m h, one_other m r (omega arith))
]

module _ (ℓ : Language) (e : List ℕ) (A : ℕ) where
  -- ---- forests
  pub record Forest (n m : ℕ) (roots : ℕ → ℕ) : Type 0 where
    pub sound : (r : ℕ) → n ≤ r → r < m → Sound ℓ e A r
    pub counted : (r : ℕ) → places_in e r m + roots r + seen r n ≡ places_in e r n + seen r m

  forest_join : (n m k : ℕ) {p q : ℕ → ℕ} → Forest n m p → Forest m k q → Forest n k (λ r. p r + q r)
  forest_join n m k f g = record {
    sound = λ r a b. elim (le_or_lt m r) [ inl h ↦ g.sound r h b | inr h ↦ f.sound r a h ];
    counted = λ r. omega (arith, f.counted r, g.counted r);
  }

  -- ---- blocks
  pub record Block (n m : ℕ) (σ : Sort) (t : Tree) : Type 0 where
    pub some : n < m
    pub forest : Forest n m (one (pred m))
    pub sorted : sort_of (kind_at e (pred m)) ≡ σ
    pub tree : tree_at e (pred m) ≡ t

  -- Its root is a child that fits a later record, and its tree is the block's.
  root_fits : {n m k : ℕ} {σ : Sort} {t : Tree} → Block n m σ t → m ≤ k → Fits e A k (child σ) (pred m)
  root_fits block l = let s = block.some in (omega arith, block.sorted)

  root_tree : {n m k : ℕ} {σ : Sort} {t : Tree} → Block n m σ t → m ≤ k → get_or (trees e k) (pred m) no_tree ≡ t
  root_tree {n} {m} {k} block l = let s = block.some in trees_settled e k (pred m) (omega arith) ∙ block.tree

  -- A record after a forest whose roots its fields name.
  block_node : (n m a b : ℕ) (K : Kind) {p : ℕ → ℕ} {t : Tree} → n ≤ m → Forest n m p → Reads e m K a b
      → known ℓ K ≡ true → Fits e A m (use_a K) a → Fits e A m (use_b K) b
      → ((r : ℕ) → names (use_a K) a r + names (use_b K) b r ≡ p r)
      → node_of K a b (λ q. get_or (trees e m) q no_tree) ≡ t → Block n (suc m) (sort_of K) t
  unfolding uses places_in seen
  block_node n m a b K {p} l f reads k g h named node =
      let sound : Sound ℓ e A m = rw (reads.kind, reads.first, reads.second) (k, reads.zero_byte_is, g, h) in
      let u : (r : ℕ) → uses e r m ≡ p r = λ r. rw (reads.kind, reads.first, reads.second) (named r) in
      record {
        some = omega arith;
        forest = record {
          sound = λ r a b. elim (below_suc b) [ inl e ↦ rw e sound | inr h ↦ f.sound r a h ];
          counted = λ r. omega (arith, f.counted r, u r);
        };
        sorted = rw reads.kind;
        tree = tree_node e m ∙ rw (reads.kind, reads.first, reads.second) node;
      }

  -- ---- all records
  -- Of a block from the first record on, each record but the last is the child of one place.
  pub block_once : {m : ℕ} {σ : Sort} {t : Tree} → Block 0 m σ t → (r : ℕ) → suc r < m → places_in e r m ≡ 1
  unfolding places_in seen
  block_once {m} block r l =
      omega (arith, block.forest.counted r, seen_once r m (omega arith), one_other (pred m) r (omega arith))

  -- ---- parts, by the number of children; t and u are the children's trees, v the node's
  pub record Part (n size : ℕ) (σ : Sort) (t : Tree) (bytes : List ℕ) : Type 0 where
    pub whole : length bytes ≡ record_size * size
    pub block : At e n bytes → Block n (n + size) σ t

  -- One record,
  part_leaf : (K : Kind) (i : ℕ) {n : ℕ} {v : Tree} → known ℓ K ≡ true → Fits e A n (use_a K) i → use_b K ≡ unused
      → ((r : ℕ) → names (use_a K) i r ≡ 0) → ((tree : ℕ → Tree) → node_of K i 0 tree ≡ v) → Part n 1 (sort_of K) v (record_bytes K i 0)
  unfolding names
  part_leaf K i {n} core first second empty node = record {
    whole = refl;
    block = λ at.
        let next : n + 1 ≡ suc n = omega arith in
        let none : Forest n n (λ r. 0) = record { sound = λ r a b. absurd (omega arith); counted = λ r. omega arith } in
        rw next (block_node n n i 0 K (le_refl n) none (at_record K i 0 at) core first (rw second refl)
        (λ r. rw second (omega (arith, empty r))) (node _));
  }

  -- a part and a record that follows it,
  part_single : (K : Kind) {σ : Sort} {t v : Tree} {n a : ℕ} {x : List ℕ} → known ℓ K ≡ true → use_a K ≡ child σ → use_b K ≡ unused
      → Part n a σ t x → ((tree : ℕ → Tree) (i : ℕ) → tree i ≡ t → node_of K i 0 tree ≡ v)
      → Part n (a + 1) (sort_of K) v (x ++ record_bytes K (pred (n + a)) 0)
  unfolding names
  part_single K {n} {a} {x} core first second p node = record {
    whole = simp length-append (omega (arith, p.whole));
    block = λ at.
        let next : n + (a + 1) ≡ suc (n + a) = omega arith in
        let b = p.block (at_first x _ at) in
        rw next (block_node n (n + a) _ 0 K (omega arith) b.forest (at_record K _ 0 (at_second x _ a p.whole at)) core
        (rw first (root_fits b (le_refl _))) (rw second refl) (λ r. rw (first, second) (omega arith)) (node _ _ (root_tree b (le_refl _))));
  }

  -- two parts and a record that follows them.
  part_double : (K : Kind) {σ τ : Sort} {t u v : Tree} {n a b : ℕ} {x y : List ℕ} → known ℓ K ≡ true → use_a K ≡ child σ → use_b K ≡ child τ
      → Part n a σ t x → Part (n + a) b τ u y → ((tree : ℕ → Tree) (i j : ℕ) → tree i ≡ t → tree j ≡ u → node_of K i j tree ≡ v)
      → Part n (a + b + 1) (sort_of K) v (x ++ y ++ record_bytes K (pred (n + a)) (pred (n + a + b)))
  unfolding names
  part_double K {n} {a} {b} {x} {y} core first second p q node =
      let both : length (x ++ y) ≡ record_size * (a + b) = simp length-append (omega (arith, p.whole, q.whole)) in
      record {
        whole = simp length-append (omega (arith, p.whole, q.whole));
        block = λ at.
            let next : n + (a + b + 1) ≡ suc (n + a + b) = omega arith in
            let place : n + (a + b) ≡ n + a + b = omega arith in
            let last = rw place at (at_second (x ++ y) _ (a + b) both at) in
            let left = p.block (at_first x y (at_first (x ++ y) _ at)) in
            let right = q.block (at_second x y a p.whole (at_first (x ++ y) _ at)) in
            let l : n + a ≤ n + a + b = omega arith in
            rw next (block_node n (n + a + b) _ _ K (omega arith) (forest_join n (n + a) (n + a + b) left.forest right.forest)
            (at_record K _ _ last) core (rw first (root_fits left l)) (rw second (root_fits right (le_refl _)))
            (λ r. rw (first, second)) (node _ _ _ (root_tree left l) (root_tree right (le_refl _))));
      }

  -- ---- formulas and paths
  mutual
    unfolding form_from form_size form_atoms names columns_of known node_of as_form as_path

    pub form_part : (F : Form) (n : ℕ) → form_atoms F ≤ A → Part n (form_size F) Sort.formula (Tree.formula F) (form_from F n)
    form_part (Form.constant v) n low = part_leaf (Kind.constant v) 0 refl refl refl (λ r. refl) (λ t. refl)
    form_part (Form.atom i) n low = part_leaf Kind.atom i refl (omega arith) refl (λ r. refl) (λ t. refl)
    form_part (Form.modal m p f) n low =
        part_double (Kind.modal m) refl refl refl (path_part p n (first_within _ _ low))
        (form_part f (n + path_size p) (second_within (path_atoms p) _ low)) (λ t i j a b. rw (a, b))

    pub path_part : (P : Path) (n : ℕ) → path_atoms P ≤ A → Part n (path_size P) Sort.path (Tree.path P) (path_from P n)
    path_part (Path.move w) n low = part_leaf (Kind.move w) 0 refl refl refl (λ r. refl) (λ t. refl)
    path_part (Path.test f) n low = part_single Kind.test refl refl refl (form_part f n low) (λ t i a. rw a)
    path_part (Path.choice p q) n low =
        part_double Kind.choice refl refl refl (path_part p n (first_within _ _ low))
        (path_part q (n + path_size p) (second_within (path_atoms p) _ low)) (λ t i j a b. rw (a, b))
    path_part (Path.sequence p q) n low =
        part_double Kind.sequence refl refl refl (path_part p n (first_within _ _ low))
        (path_part q (n + path_size p) (second_within (path_atoms p) _ low)) (λ t i j a b. rw (a, b))
    path_part (Path.star p) n low = part_single Kind.star refl refl refl (path_part p n low) (λ t i a. rw a)
