-- How many records a tree has. A record's tree has one more than the trees of its children. Summed over all records, each tree counts as
-- often as its record is a child: in a formula that is once for every record but the last, so the last one's tree has them all.
use Prim.Native.Nat.{ℕ, zero, suc, pred, ◌+◌, ◌*◌, ◌<◌, ◌≤◌}
use mathlib.Core.Path.{◌≡◌, refl, sym, ap}
use mathlib.Core.Bool.{true, true≢false, cond}
use mathlib.Core.List.{List}
use native.Mathlib.Decide.{ℕ_discrete}
use native.Mathlib.Nat.{le_refl, mul-suc, mul-add}
use native.Mathlib.Omega.{arith}
use lib.Dec.{eqb}
use borrow.Author.Tests.{eq-eqb, ne_eqb}
use Rattle.meaning.specs.Record.{core, count, kind_at, field_a, field_b, known, Sort, sort_of, columns_of, use_a, use_b, names, uses, places_in}
use Rattle.meaning.specs.Record.{Kind, constant, atom, modal, move, test, choice, sequence, star, shorthand, unknown}
use Rattle.meaning.specs.Record.{Use, unused, atomNumber, child}
use Rattle.meaning.specs.Tree.{Tree, as_form, as_path, node_of, tree_at, form_at, form_size, path_size}
use Rattle.meaning.specs.WellFormed.{Fits, WellFormed}
use Rattle.meaning.proofs.Nodes.{tree_of}

-- ---- a tree's size
-- Of a tree of the sort,
abbrev size_as : Sort → Tree → ℕ
size_as Sort.formula t = form_size (as_form t)
size_as Sort.path t = path_size (as_path t)

-- and of the one that a field names.
abbrev field_size : Use → Tree → ℕ
field_size unused t = 0
field_size atomNumber t = 0
field_size (child σ) t = size_as σ t

node_size : (K : Kind) (a b : ℕ) (t : ℕ → Tree) → known core K ≡ true
    → size_as (sort_of K) (node_of K a b t) ≡ field_size (use_a K) (t a) + field_size (use_b K) (t b) + 1
unfolding known columns_of node_of as_form as_path form_size
node_size (constant v) a b t h = omega arith
node_size atom a b t h = omega arith
node_size (modal m) a b t h = omega arith
node_size (move w) a b t h = omega arith
node_size test a b t h = omega arith
node_size choice a b t h = omega arith
node_size sequence a b t h = omega arith
node_size star a b t h = omega arith
node_size (shorthand σ) a b t h = absurd (true≢false (sym h))
node_size unknown a b t h = absurd (true≢false (sym h))

-- ---- sums over the first n records, each size as often as f says
module _ (size : ℕ → ℕ) where
  unfoldable sum : ℕ → (ℕ → ℕ) → ℕ
  sum zero f = 0
  sum (suc n) f = sum n f + size n * f n

  sum_add : (n : ℕ) (f g : ℕ → ℕ) → sum n (λ r. f r + g r) ≡ sum n f + sum n g
  unfolding sum
  sum_add zero f g = refl
  sum_add (suc n) f g = omega (arith, sum_add n f g, mul-add (size n) (f n) (g n))

  sum_same : (n : ℕ) (f g : ℕ → ℕ) → ((r : ℕ) → r < n → f r ≡ g r) → sum n f ≡ sum n g
  unfolding sum
  sum_same zero f g h = refl
  sum_same (suc n) f g h = rw (sum_same n f g (λ r l. h r (omega arith)), h n (le_refl _))

  sum_none : (n : ℕ) → sum n (λ r. 0) ≡ 0
  unfolding sum
  sum_none zero = refl
  sum_none (suc n) = omega (arith, sum_none n)

  -- The size of one record.
  sum_one : (v n : ℕ) → (v < n → sum n (λ r. cond (eqb v r) 1 0) ≡ size v) × (n ≤ v → sum n (λ r. cond (eqb v r) 1 0) ≡ 0)
  unfolding sum
  sum_one v zero = (λ l. absurd (omega arith), λ l. refl)
  sum_one v (suc n) =
      let (below, beyond) = sum_one v n in
      elim (ℕ_discrete v n) [
        | yes e ↦ rw (eq-eqb v n e) (λ l. omega (arith, beyond (omega arith), ap size e), λ l. absurd (omega arith))
        | no d ↦ rw (ne_eqb v n d) (λ l. omega (arith, below (omega arith)), λ l. omega (arith, beyond (omega arith)))
      ]

-- A number that is n more than a multiple of itself is n.
multiple : (p x n : ℕ) → 0 < n → x ≡ n + x * p → x ≡ n
multiple zero x n h e = omega arith
multiple (suc p) x n h e = absurd (omega (arith, mul-suc x p))

-- ---- in a formula
module _ {s : List ℕ} {A : ℕ} (w : WellFormed core s A) where
  abbrev size : ℕ → ℕ
  size r = size_as (sort_of (kind_at s r)) (tree_at s r)

  -- A field's tree counts once in the sum of the trees that the field names.
  field_sum : (r : ℕ) (u : Use) (v : ℕ) → r < count s → Fits s A r u v → sum size (count s) (λ q. names u v q) ≡ field_size u (tree_at s v)
  unfolding names
  field_sum r unused v l f = sum_none size (count s)
  field_sum r atomNumber v l f = sum_none size (count s)
  field_sum r (child σ) v l (earlier, sorted) = rw (← sorted) ((sum_one size v (count s)).0 (omega arith))

  record_size_is : (q : ℕ) → q < count s → size q ≡ sum size (count s) (λ r. uses s r q) + 1
  unfolding uses
  record_size_is q l =
      let K = kind_at s q in
      let a = field_sum q (use_a K) (field_a s q) l (w.first q l) in
      let b = field_sum q (use_b K) (field_b s q) l (w.second q l) in
      rw (tree_of w q l, sum_add size (count s) (λ r. names (use_a K) (field_a s q) r) (λ r. names (use_b K) (field_b s q) r), a, b)
      (node_size K _ _ (tree_at s) (w.kinds q l))

  -- The first m records together.
  first_sizes : (m : ℕ) → m ≤ count s → sum size m (λ r. 1) ≡ m + sum size (count s) (λ r. places_in s r m)
  unfolding sum places_in
  first_sizes zero l = omega (arith, sum_none size (count s))
  first_sizes (suc m) l =
      rw (sum_add size (count s) (λ r. places_in s r m) (λ r. uses s r m))
      (omega (arith, first_sizes m (omega arith), record_size_is m l))

  pub whole_size : form_size (form_at s (pred (count s))) ≡ count s
  unfolding sum
  whole_size = go (count s) refl
    where
      go : (n : ℕ) → count s ≡ n → form_size (form_at s (pred n)) ≡ n
      go zero e = absurd (omega (arith, w.some))
      go (suc k) e =
          let all = rw e at (first_sizes (count s) (le_refl _)) in
          let once = sum_same size k (λ r. places_in s r (suc k)) (λ r. 1) (λ r l. rw e at (w.once r (omega arith))) in
          rw (rw e at w.last) at (multiple (places_in s k (suc k)) (size k) (suc k) (omega arith) (omega (arith, all, once)))
