-- Parents. A record that is the child of some place has a parent, the last record that names it. In a tree a parent is
-- later than its child, and there is one place alone: so whatever record names it is its parent, and names it in one of
-- its fields alone.
use Prim.Native.Nat.{ℕ, zero, suc, ◌<◌, ◌≤◌}
use mathlib.Core.Path.{◌≡◌, refl, sym}
use mathlib.Core.Bool.{cond}
use mathlib.Core.Logic.{◌⊎◌, inl, inr}
use mathlib.Core.List.{List}
use native.Mathlib.Decide.{ℕ_discrete}
use native.Mathlib.Nat.{le_refl}
use native.Mathlib.Omega.{arith}
use lib.Dec.{eqb}
use borrow.Author.Tests.{eq-eqb, ne_eqb}
use Rattle.meaning.specs.Record.{Language, count, kind_at, field_a, field_b, Sort, Use, unused, atomNumber, child, use_a, use_b, names, uses, places_in, parent_in, parent}
use Rattle.meaning.specs.WellFormed.{WellFormed}
use Rattle.meaning.proofs.Bounds.{le_or_lt, below_suc}

-- ---- fields
-- A field of this use that holds v has the record q as its child.
abbrev Named : Use → ℕ → ℕ → Type 0
Named u v q = (σ : Sort) × (u ≡ child σ) × (v ≡ q)

-- The first field of record p does, or the second.
abbrev pub InFirst : List ℕ → ℕ → ℕ → Type 0
InFirst s q p = Named (use_a (kind_at s p)) (field_a s p) q

abbrev pub InSecond : List ℕ → ℕ → ℕ → Type 0
InSecond s q p = Named (use_b (kind_at s p)) (field_b s p) q

-- A field that names q has it as its child,
names_child : (u : Use) (v q : ℕ) → 0 < names u v q → Named u v q
unfolding names
names_child unused v q h = absurd (omega arith)
names_child atomNumber v q h = absurd (omega arith)
names_child (child σ) v q h = elim (ℕ_discrete v q) [
  | yes e ↦ (σ, refl, e)
  | no d ↦ absurd (let z : ◌≡◌ {A = ℕ} (cond (eqb v q) 1 0) 0 = rw (ne_eqb v q d) in omega arith)
]

-- and one that has it so names it once.
child_names : (u : Use) (v q : ℕ) → Named u v q → names u v q ≡ 1
unfolding names
child_names u v q (σ, e, f) = rw (e, eq-eqb v q f)

module _ (s : List ℕ) (q p : ℕ) where
  -- A record that names q has it in one of its fields.
  pub used_in : 0 < uses s q p → InFirst s q p ⊎ InSecond s q p
  unfolding uses
  used_in h = elim (le_or_lt 1 (names (use_a (kind_at s p)) (field_a s p) q)) [
    | inl n ↦ inl (names_child _ _ q n)
    | inr n ↦ inr (names_child _ _ q (omega arith))
  ]

  -- One that has it in its first field names it,
  pub first_used : InFirst s q p → 0 < uses s q p
  unfolding uses
  first_used a = omega (arith, child_names _ _ q a)

  -- and so does one that has it in its second.
  pub second_used : InSecond s q p → 0 < uses s q p
  unfolding uses
  second_used b = omega (arith, child_names _ _ q b)

-- ---- places
module _ (s : List ℕ) (q : ℕ) where
  -- A record that is the child of some place has a parent.
  parent_of : (m : ℕ) → 0 < places_in s q m → (parent_in s q m < m) × (0 < uses s q (parent_in s q m))
  unfolding places_in parent_in
  parent_of zero h = absurd (omega arith)
  parent_of (suc m) h = elim (ℕ_discrete (uses s q m) 0) [
    | yes e ↦ let (l, u) = parent_of m (omega arith) in rw (eq-eqb (uses s q m) 0 e) (omega arith, u)
    | no d ↦ rw (ne_eqb (uses s q m) 0 d) (le_refl _, omega arith)
  ]

  -- Each record's places count.
  uses_count : (m p : ℕ) → p < m → uses s q p ≤ places_in s q m
  unfolding places_in
  uses_count zero p l = absurd (omega arith)
  uses_count (suc m) p l = elim (below_suc l) [ inl e ↦ rw e (omega arith) | inr k ↦ omega (arith, uses_count m p k) ]

  -- Of one place, the record that has it is the parent.
  only_parent : (m p : ℕ) → p < m → 0 < uses s q p → places_in s q m ≡ 1 → parent_in s q m ≡ p
  unfolding places_in parent_in
  only_parent zero p l u e = absurd (omega arith)
  only_parent (suc m) p l u e = elim (below_suc l) [
    | inl d ↦ let v : 0 < uses s q m = rw (← d) u in rw (ne_eqb (uses s q m) 0 (omega arith)) (sym d)
    | inr k ↦ let c = uses_count m p k in rw (eq-eqb (uses s q m) 0 (omega arith)) (only_parent m p k u (omega arith))
  ]

-- ---- in a tree
module _ {ℓ : Language} {s : List ℕ} {A : ℕ} (w : WellFormed ℓ s A) where
  -- A record before the last has a parent.
  pub has_parent : (q : ℕ) → suc q < count s → (parent s q < count s) × (0 < uses s q (parent s q))
  has_parent q l = parent_of s q (count s) (omega (arith, w.once q l))

  module _ (q p : ℕ) (l : p < count s) where
    -- A record that names q is later,
    pub child_earlier : 0 < uses s q p → q < p
    child_earlier u = elim (used_in s q p u) [
      | inl (σ, e, f) ↦ let fits = rw e at (w.first p l) in omega (arith, fits.0)
      | inr (σ, e, f) ↦ let fits = rw e at (w.second p l) in omega (arith, fits.0)
    ]

    -- is its parent,
    pub parent_is : 0 < uses s q p → parent s q ≡ p
    parent_is u =
        let e = child_earlier u in
        only_parent s q (count s) p l u (w.once q (omega arith))

    -- and names it in one field alone.
    pub one_field : InFirst s q p → InSecond s q p → ⊥
    unfolding uses
    one_field a b =
        let e = child_earlier (first_used s q p a) in
        omega (arith, child_names _ _ q a, child_names _ _ q b, uses_count s q (count s) p l, w.once q (omega arith))
