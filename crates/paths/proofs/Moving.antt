-- What is asked of a record by its kind and its parts: whether it may stand still, its moves, its grounds. Its parts are earlier,
-- so what is known of all paths before it gives its own. A record that is no path counts as a step.
use Prim.Native.Nat.{ℕ, ◌+◌, ◌<◌}
use mathlib.Core.Path.{◌≡◌, refl, sym, ap, ◌∙◌}
use mathlib.Core.Bool.{Bool, true, false, cond, ◌&&◌, ◌||◌}
use mathlib.Core.List.{List, [], ◌∷◌}
use native.Mathlib.Omega.{arith}
use lib.ListN.{get_or, set, replicate, length-set}
use lib.Seq.{get_or-set_same, get_or-set_other}
use borrow.Author.Count.{below_more}
use Rattle.meaning.specs.Record.{Kind, move, test, choice, sequence, star, ahead, back}
use Rattle.meaning.specs.Record.{most_records, kind_at, count, field_a, field_b, path, child, use_a, use_b}
use Rattle.meaning.specs.Refusal.{of_first, first_of, is_star, ground11, ground12}
use Rattle.meaning.specs.{Formula.may_stand, Formula.goes, Formula.same_way}
use Rattle.meaning.specs.Tree.{as_path, node_of, path_at}
use Rattle.meaning.proofs.{First.Clear, First.none_clear, Cases.by_kind, Nodes.path_node}
use Rattle.paths.specs.declared.stars.Moves.{Moves}
use Rattle.paths.specs.declared.stars.Moves.TheVariants.{Nowhere, Ahead, Back, BothWays}
use Rattle.paths.specs.Asking.{Formed, ways, joined, moves_of, MovesAt, Known, Scanned}

-- ---- by the kind, and what its parts have
abbrev pub stands_by : Kind → Bool → Bool → Bool
stands_by test x y = true
stands_by star x y = true
stands_by choice x y = x || y
stands_by sequence x y = x && y
stands_by _ x y = false

abbrev pub moves_by : Kind → Moves → Moves → Moves
moves_by (move w) m n = ways (same_way ahead w) (same_way back w)
moves_by test m n = Nowhere
moves_by choice m n = joined m n
moves_by sequence m n = joined m n
moves_by star m n = m
moves_by _ m n = Ahead

joined_ways : (x y x' y' : Bool) → ways (x || x') (y || y') ≡ joined (ways x y) (ways x' y')
joined_ways false false x y = refl
joined_ways true false false false = refl
joined_ways true false true false = refl
joined_ways true false false true = refl
joined_ways true false true true = refl
joined_ways false true false false = refl
joined_ways false true true false = refl
joined_ways false true false true = refl
joined_ways false true true true = refl
joined_ways true true x y = refl

abbrev pub both_ways : Moves → Bool
both_ways Nowhere = false
both_ways Ahead = false
both_ways Back = false
both_ways BothWays = true

both : (x y : Bool) → (x && y) ≡ both_ways (ways x y)
both false false = refl
both false true = refl
both true false = refl
both true true = refl

-- A star's ground by whether its body turns, and whether it may stand still.
abbrev pub ground_by : Kind → Bool → Bool → ℕ
ground_by star x y = cond x 12 (cond y 11 0)
ground_by _ x y = 0

grounds_by : (K : Kind) (x y : Bool) → cond (is_star K && x) 12 (cond (is_star K && y) 11 0) ≡ ground_by K x y
unfolding is_star
grounds_by =
    by_kind _ (λ v x y. refl) (λ x y. refl) (λ m x y. refl) (λ w x y. refl) (λ x y. refl) (λ x y. refl) (λ x y. refl) (λ x y. refl)
    (λ σ x y. refl) (λ x y. refl)

-- ---- one record
module _ {s : List ℕ} {r : ℕ} (w : Formed s × (r < count s)) where
  node_stands : (K : Kind) → kind_at s r ≡ K
      → may_stand (path_at s r) ≡ stands_by K (may_stand (path_at s (field_a s r))) (may_stand (path_at s (field_b s r)))
  unfolding node_of as_path may_stand
  node_stands =
      let node = λ (K : Kind) (e : kind_at s r ≡ K). ap may_stand (path_node w.0.formed w.1 e) in
      by_kind _ (λ v. node _) (node _) (λ m. node _) (λ v. node _) (node _) (node _) (node _) (node _) (λ σ. node _) (node _)

  pub path_stands : may_stand (path_at s r) ≡ stands_by (kind_at s r) (may_stand (path_at s (field_a s r))) (may_stand (path_at s (field_b s r)))
  path_stands = node_stands _ refl

  node_moves : (K : Kind) → kind_at s r ≡ K → moves_of (path_at s r) ≡ moves_by K (moves_of (path_at s (field_a s r))) (moves_of (path_at s (field_b s r)))
  unfolding node_of as_path moves_of goes same_way
  node_moves =
      let node = λ (K : Kind) (e : kind_at s r ≡ K). ap moves_of (path_node w.0.formed w.1 e) in
      by_kind _ (λ v. node _) (node _) (λ m. node _) (λ v. node _) (node _) (λ e. node _ e ∙ joined_ways _ _ _ _) (λ e. node _ e ∙ joined_ways _ _ _ _) (node _) (λ σ. node _) (node _)

  pub path_moves : moves_of (path_at s r) ≡ moves_by (kind_at s r) (moves_of (path_at s (field_a s r))) (moves_of (path_at s (field_b s r)))
  path_moves = node_moves _ refl

  -- Parts that are paths are earlier.
  pub first_part : use_a (kind_at s r) ≡ child path → field_a s r < r
  first_part e = (rw e at (w.0.formed.first r w.1)).0

  pub second_part : use_b (kind_at s r) ≡ child path → field_b s r < r
  second_part e = (rw e at (w.0.formed.second r w.1)).0

-- What is known of those.
module _ {s : List ℕ} {r : ℕ} {moves : List Moves} (w : Scanned s r moves) where
  pub known_first : use_a (kind_at s r) ≡ child path → get_or moves (field_a s r) Nowhere ≡ moves_of (path_at s (field_a s r))
  known_first e = let f = rw e at (w.whole.formed.first r w.index) in w.known.before _ f.0 f.1

  pub known_second : use_b (kind_at s r) ≡ child path → get_or moves (field_b s r) Nowhere ≡ moves_of (path_at s (field_b s r))
  known_second e = let f = rw e at (w.whole.formed.second r w.index) in w.known.before _ f.0 f.1

-- ---- grounds
pub star_ground : (s : List ℕ) (r : ℕ) → let body = moves_of (path_at s (field_a s r)) in
    first_of (ground12 s r ∷ ground11 s r ∷ []) ≡ ground_by (kind_at s r) (both_ways body) (may_stand (path_at s (field_a s r)))
unfolding of_first ground11 ground12 moves_of
star_ground s r = grounds_by (kind_at s r) _ _ ∙ rw both

-- Where they give no number, none applies.
pub grounds_clear : (s : List ℕ) (r : ℕ) → 0 ≡ first_of (ground12 s r ∷ ground11 s r ∷ []) → Clear (ground12 s r ∷ ground11 s r ∷ [])
unfolding ground11 ground12
grounds_clear s r e = none_clear _ (omega arith, (omega arith, tt)) (sym e)

-- ---- one record more
pub known_none : (s : List ℕ) → Known s 0 (replicate most_records Nowhere)
known_none s = record { size = refl; before = λ q l. absurd (omega arith) }

pub known_more : {s : List ℕ} {moves : List Moves} {r : ℕ} {x : Moves} → r < most_records → Known s r moves → MovesAt s r x
    → Known s (r + 1) (set moves r x)
known_more {s} {moves} {r} {x} l k m = record {
  size = length-set moves r x ∙ k.size;
  before =
      below_more (λ q. MovesAt s q (get_or (set moves r x) q Nowhere)) r
      (λ q h. rw (get_or-set_other moves r q x Nowhere (λ z. omega arith)) (k.before q h))
      (rw (get_or-set_same moves r x Nowhere (omega (arith, k.size))) m);
}
