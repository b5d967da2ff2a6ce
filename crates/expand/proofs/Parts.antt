-- One step of a record. Every step of a kind's row fits the kind; a part's step that fits goes to an earlier record, whose tree it writes.
use Prim.Native.Nat.{ℕ, ◌<◌}
use mathlib.Core.Path.{◌≡◌, refl, sym}
use mathlib.Core.Bool.{Bool, true, ◌&&◌, true≢false}
use mathlib.Core.List.{List, [], ◌∷◌}
use native.Mathlib.Omega.{arith}
use Rattle.meaning.specs.Record.{Use, unused, atomNumber, child, use_a, use_b, kind_at, field_a, field_b, arguments_of, columns_of}
use Rattle.meaning.specs.Record.{Kind, constant, modal, move, test, choice, sequence, star, shorthand, unknown}
use Rattle.meaning.specs.Record.{denied, both, either, implies, end, beside, along, until, since}
use Rattle.meaning.specs.{Shorthand.expansion, Tree.tree_at, WellFormed.Fits}
use Rattle.meaning.proofs.{Nodes.tree_of}
use Rattle.expand.specs.Steps.{Step, part_a, part_b, form_steps, path_steps, steps_of, field_from, field_size}
use Rattle.expand.specs.Expanding.{Expandable, bytes_at, size_at, is_child, is_atom, fits}
use Rattle.expand.proofs.{Stepping.steps_from, Stepping.node_from, Sized.steps_size, Sized.node_size}

-- Every step of the list fits the kind.
unfoldable pub all_fit : Kind → List Step → Bool
all_fit K [] = true
all_fit K (d ∷ ds) = fits K d && all_fit K ds

pub steps_fit : (K : Kind) → all_fit K (steps_of K) ≡ true
unfolding all_fit fits is_child is_atom columns_of arguments_of steps_of form_steps path_steps expansion
steps_fit (constant v) = refl
steps_fit Kind.atom = refl
steps_fit (modal m) = refl
steps_fit (move w) = refl
steps_fit test = refl
steps_fit choice = refl
steps_fit sequence = refl
steps_fit star = refl
steps_fit (shorthand denied) = refl
steps_fit (shorthand both) = refl
steps_fit (shorthand either) = refl
steps_fit (shorthand implies) = refl
steps_fit (shorthand (end w)) = refl
steps_fit (shorthand (beside w m)) = refl
steps_fit (shorthand (along w m)) = refl
steps_fit (shorthand until) = refl
steps_fit (shorthand since) = refl
steps_fit unknown = refl

-- What a row of steps of record r writes, and how many records that are.
module _ (s : List ℕ) (r : ℕ) where
  abbrev pub row_bytes : List Step → ℕ → ℕ → List ℕ
  row_bytes = steps_from (kind_at s r) (field_a s r) (field_b s r) (tree_at s)

  abbrev pub row_count : List Step → ℕ
  row_count = steps_size (kind_at s r) (field_a s r) (field_b s r) (tree_at s)

-- ---- a field that holds a child names an earlier record
-- The record q of a field: its tree is what the field's step writes.
pub record Part (s : List ℕ) (r : ℕ) (u : Use) (q : ℕ) : Type 0 where
  pub earlier : q < r
  pub expandable : Expandable s q
  pub bytes : (n : ℕ) → field_from u (tree_at s q) n ≡ bytes_at s q n
  pub count : field_size u (tree_at s q) ≡ size_at s q

part_of : {s : List ℕ} {r : ℕ} (w : Expandable s r) (u : Use) (q : ℕ) → is_child u ≡ true → Fits s w.atoms r u q → Part s r u q
unfolding is_child field_from field_size
part_of w unused q e f = absurd (true≢false (sym e))
part_of w atomNumber q e f = absurd (true≢false (sym e))
part_of w (child σ) q e f = record {
  earlier = f.0;
  expandable = record { atoms = w.atoms; formed = w.formed; index = omega (arith, w.index, f.0) };
  bytes = λ n. rw f.1;
  count = rw f.1;
}

module _ {s : List ℕ} {r : ℕ} (w : Expandable s r) where
  pub bytes_stepped : (n : ℕ) → bytes_at s r n ≡ row_bytes s r (steps_of (kind_at s r)) n n
  bytes_stepped n =
      rw (tree_of w.formed r w.index) (node_from _ _ _ (tree_at s) n (w.formed.kinds r w.index))

  pub size_stepped : size_at s r ≡ row_count s r (steps_of (kind_at s r))
  size_stepped = rw (tree_of w.formed r w.index) (node_size _ _ _ (tree_at s) (w.formed.kinds r w.index))

  pub first_part : fits (kind_at s r) part_a ≡ true → Part s r (use_a (kind_at s r)) (field_a s r)
  unfolding fits
  first_part f = part_of w _ _ f (w.formed.first r w.index)

  pub second_part : fits (kind_at s r) part_b ≡ true → Part s r (use_b (kind_at s r)) (field_b s r)
  unfolding fits
  second_part f = part_of w _ _ f (w.formed.second r w.index)
