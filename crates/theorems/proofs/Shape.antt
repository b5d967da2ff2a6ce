-- What acceptance gives of a record, by its kind: children that are earlier and of their sort, what they stand under, a continuation
-- that is a record, and of a star that its body leads strictly one way. For that body may not stand still and has not both directions: it
-- lacks one, and leads strictly in the other. A child stands under what the record hands it, as its first child or as its second, and
-- these differ.
use Prim.Native.Nat.{ℕ, ◌<◌}
use mathlib.Core.Path.{◌≡◌, refl, sym, ap}
use mathlib.Core.Bool.{Bool, true, false, ◌&&◌, true≢false}
use mathlib.Core.Logic.{◌⊎◌, inl, inr}
use mathlib.Core.List.{List}
use Rattle.meaning.specs.Record.{Kind, constant, atom, modal, move, test, choice, sequence, star, shorthand, unknown, columns_of, Mode, Way, ahead, back}
use Rattle.meaning.specs.Record.{core, count, kind_at, field_a, field_b, child, use_a, use_b, Sort, formula, path, sort_of, known}
use Rattle.meaning.specs.Formula.{Path, may_stand, goes}
use Rattle.meaning.specs.Tree.{path_at}
use Rattle.meaning.specs.Value.{square_of}
use Rattle.meaning.specs.Translation.{Context, handed, context}
use Rattle.meaning.specs.Refusal.{ground11, ground12, is_star}
use Rattle.meaning.specs.WellFormed.{WellFormed}
use Rattle.meaning.proofs.Onward.{other, Strictly, onward}
use Rattle.meaning.proofs.Accepted.{stars_clear, starred_formed}
use Rattle.meaning.proofs.Climbing.{path_before, continuation_record, first_context, second_context}
use Rattle.theorems.specs.Demand3.{Accepted}

-- ---- the shape of a record
-- The mode that record r stands under, and the record whose label continues it.
abbrev pub mode_at : List ℕ → ℕ → Mode
mode_at s r = (context s r).mode

abbrev pub cont_at : List ℕ → ℕ → ℕ
cont_at s r = (context s r).continuation

-- A child q of record r, of a sort; a child path, with the mode and the continuation that it has.
pub record Child (s : List ℕ) (r q : ℕ) (σ : Sort) : Type 0 where
  pub earlier : q < r
  pub sorted : sort_of (kind_at s q) ≡ σ

pub record PathChild (s : List ℕ) (r q : ℕ) (m : Mode) (c : ℕ) : Type 0 where
  pub child : Child s r q path
  pub moded : mode_at s q ≡ m
  pub continued : cont_at s q ≡ c

-- A path leads strictly one way.
abbrev OneWay : ℕ → (ℕ → ℕ → ℕ) → Path → Type 0
OneWay L cell p = (w : Way) × ((k j : ℕ) → 0 < square_of L cell p k j → Strictly w k j)

module _ (s : List ℕ) (L : ℕ) (cell : ℕ → ℕ → ℕ) where
  unfoldable pub Shape : Kind → ℕ → Type 0
  Shape (constant v) r = Unit {0}
  Shape atom r = Unit {0}
  Shape (modal m) r = PathChild s r (field_a s r) m (field_b s r) × Child s r (field_b s r) formula
  Shape (move w) r = cont_at s r < count s
  Shape test r = (cont_at s r < count s) × Child s r (field_a s r) formula
  Shape choice r = PathChild s r (field_a s r) (mode_at s r) (cont_at s r) × PathChild s r (field_b s r) (mode_at s r) (cont_at s r)
  Shape sequence r = PathChild s r (field_a s r) (mode_at s r) (field_b s r) × PathChild s r (field_b s r) (mode_at s r) (cont_at s r)
  Shape star r = (cont_at s r < count s) × PathChild s r (field_a s r) (mode_at s r) r × OneWay L cell (path_at s (field_a s r))
  Shape (shorthand σ) r = ⊥
  Shape unknown r = ⊥

-- ---- stars
-- Not both of two.
and_fails : (a b : Bool) → (a && b) ≡ false → (a ≡ false) ⊎ (b ≡ false)
and_fails true b e = inr e
and_fails false b e = inl refl

-- One that may not stand still and has not both directions does.
one_way : (L : ℕ) (cell : ℕ → ℕ → ℕ) (p : Path) → (goes ahead p && goes back p) ≡ false → may_stand p ≡ false
    → OneWay L cell p
unfolding other
one_way L cell p d m = elim (and_fails (goes ahead p) (goes back p) d) [
  | inl g ↦ (back, λ k j z. (onward L cell back p g k j z).1 m)
  | inr g ↦ (ahead, λ k j z. (onward L cell ahead p g k j z).1 m)
]

-- The body of an accepted star does.
accepted_star : (s : List ℕ) (A : ℕ) → Accepted s A → (L : ℕ) (cell : ℕ → ℕ → ℕ) (r : ℕ) → r < count s
    → kind_at s r ≡ star → OneWay L cell (path_at s (field_a s r))
unfolding ground11 ground12 is_star
accepted_star s A accepted L cell r l e =
    let (d, (m, _)) = stars_clear s A accepted r l in
    one_way L cell (path_at s (field_a s r)) (rw e at d) (rw e at m)

-- ---- children
-- A child that is a path has the mode and the continuation of what it stands under.
part_of : {s : List ℕ} {r q : ℕ} {c : Context} → Child s r q path → context s q ≡ c → PathChild s r q c.mode c.continuation
part_of h e = record {
  child = h;
  moded = ap (λ (c : Context). c.mode) e;
  continued = ap (λ (c : Context). c.continuation) e;
}

module _ {s : List ℕ} {A : ℕ} (w : WellFormed core s A) (r : ℕ) (l : r < count s) where
  module _ (K : Kind) (e : kind_at s r ≡ K) where
    -- A field that is a child holds an earlier record of its sort.
    first_child : {σ : Sort} → use_a K ≡ child σ → Child s r (field_a s r) σ
    first_child u = let f = rw (e, u) at (w.first r l) in record { earlier = f.0; sorted = f.1 }

    second_child : {σ : Sort} → use_b K ≡ child σ → Child s r (field_b s r) σ
    second_child u = let f = rw (e, u) at (w.second r l) in record { earlier = f.0; sorted = f.1 }

    -- What the record hands to a first child that is a path,
    first_part : use_a K ≡ child path
        → let c = handed K true (field_b s r) r (context s r) in PathChild s r (field_a s r) c.mode c.continuation
    first_part u = part_of (first_child u) (rw e at (first_context w r l {σ = path} (rw e u)))

    -- and to a second one, which isn't the first.
    second_part : {σ : Sort} → use_a K ≡ child σ → use_b K ≡ child path
        → let c = handed K false (field_b s r) r (context s r) in PathChild s r (field_b s r) c.mode c.continuation
    second_part {σ} t u = part_of (second_child u) (rw e at (second_context w r l {σ = σ} (rw e t) {τ = path} (rw e u)))

    -- A path's continuation is a record.
    continued : sort_of K ≡ path → cont_at s r < count s
    continued p = continuation_record w r (path_before w r l (rw e p))

  -- ---- shapes
  -- By the kind; shorthands and unknown kinds are refused.
  shaped : (L : ℕ) (cell : ℕ → ℕ → ℕ) → (kind_at s r ≡ star → OneWay L cell (path_at s (field_a s r)))
      → (K : Kind) → kind_at s r ≡ K → Shape s L cell K r
  unfolding Shape columns_of known handed
  shaped L cell body (constant v) e = tt
  shaped L cell body atom e = tt
  shaped L cell body (modal m) e = (first_part (modal m) e refl, second_child (modal m) e refl)
  shaped L cell body (move d) e = continued (move d) e refl
  shaped L cell body test e = (continued test e refl, first_child test e refl)
  shaped L cell body choice e = (first_part choice e refl, second_part choice e refl refl)
  shaped L cell body sequence e = (first_part sequence e refl, second_part sequence e refl refl)
  shaped L cell body star e = (continued star e refl, first_part star e refl, body e)
  shaped L cell body (shorthand σ) e = true≢false (sym (rw e at (w.kinds r l)))
  shaped L cell body unknown e = true≢false (sym (rw e at (w.kinds r l)))

pub shapes : (s : List ℕ) (A : ℕ) → Accepted s A → (L : ℕ) (cell : ℕ → ℕ → ℕ)
    → (r : ℕ) → r < count s → Shape s L cell (kind_at s r) r
shapes s A h L cell r l = shaped (starred_formed s A h) r l L cell (accepted_star s A h L cell r l) (kind_at s r) refl
