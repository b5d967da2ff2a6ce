-- Climbing from parent to parent. A parent is later than its child, so from record r fewer than count s - r steps go
-- up, and with so many left the climb ends before they do. For it ends at a modality, which hands down what is its own:
-- a record that hands on what it stands under itself is a path, as a core formula with a child is a modality; and a
-- path isn't the last record, so it has a parent.
use Prim.Native.Nat.{ℕ, zero, suc, pred, ◌+◌, ◌<◌, ◌≤◌}
use mathlib.Core.Path.{◌≡◌, refl, sym, ap}
use mathlib.Core.Bool.{Bool, true, false, true≢false}
use mathlib.Core.Logic.{inl, inr}
use mathlib.Core.List.{List}
use native.Mathlib.Omega.{arith}
use lib.Dec.{eqb}
use borrow.Author.Tests.{eq-eqb, ne_eqb}
use Rattle.meaning.specs.Record.{Kind, constant, atom, modal, move, test, choice, sequence, star, shorthand, unknown, columns_of}
use Rattle.meaning.specs.Record.{core, count, kind_at, field_a, field_b, Sort, child, use_a, use_b, path, sort_of, known, names, uses, parent}
use Rattle.meaning.specs.Translation.{Context, under, handed, context_in, context}
use Rattle.meaning.specs.WellFormed.{Fits, WellFormed}
use Rattle.meaning.proofs.Bounds.{le_or_lt}
use Rattle.meaning.proofs.Parents.{InSecond, first_used, second_used, one_field, has_parent, child_earlier, parent_is}

module _ {s : List ℕ} {A : ℕ} (w : WellFormed core s A) where
  -- A path isn't the last record.
  pub path_before : (r : ℕ) → r < count s → sort_of (kind_at s r) ≡ path → suc r < count s
  path_before r l e = elim (le_or_lt (count s) (suc r)) [
    | inl h ↦ let z : pred (count s) ≡ r = omega arith in let y : ◌≡◌ {A = ℕ} 0 1 = cc in omega arith
    | inr h ↦ h
  ]

  -- What is found is the same with one step more, and its continuation is a record.
  abbrev Settled : Context → Context → Type 0
  Settled u v = (u ≡ v) × (u.continuation < count s)

  -- If that is so of record q where q is a path, it is so of each child r of q, by q's kind K and its fields a and b.
  hands : (K : Kind) (first : Bool) (a b q r : ℕ) (u v : Context)
      → q < count s → known core K ≡ true → Fits s A q (use_b K) b → 0 < names (use_a K) a r + names (use_b K) b r
      → (sort_of K ≡ path → Settled u v) → Settled (handed K first b q u) (handed K first b q v)
  unfolding handed columns_of names known
  hands (constant x) first a b q r u v l k f n h = absurd (omega arith)
  hands atom first a b q r u v l k f n h = absurd (omega arith)
  hands (modal m) first a b q r u v l k f n h = (refl, omega (arith, f.0))
  hands (move d) first a b q r u v l k f n h = h refl
  hands test first a b q r u v l k f n h = h refl
  hands choice first a b q r u v l k f n h = h refl
  hands sequence true a b q r u v l k f n h = (ap (λ (c : Context). under c.mode b) (h refl).0, omega (arith, f.0))
  hands sequence false a b q r u v l k f n h = h refl
  hands star first a b q r u v l k f n h = (ap (λ (c : Context). under c.mode q) (h refl).0, l)
  hands (shorthand σ) first a b q r u v l k f n h = absurd (true≢false (sym k))
  hands unknown first a b q r u v l k f n h = absurd (true≢false (sym k))

  -- So it is so of each record before the last, with as many steps as there are records from it on.
  climbs : (m r : ℕ) → suc r < count s → count s ≤ m + r → Settled (context_in s m r) (context_in s (suc m) r)
  unfolding context_in uses
  climbs zero r l e = absurd (omega arith)
  climbs (suc m) r l e =
      let q = parent s r in
      let (ql, u) = has_parent w r l in
      let later = child_earlier w r q ql u in
      hands (kind_at s q) (eqb (field_a s q) r) (field_a s q) (field_b s q) q r _ _ ql (w.kinds q ql) (w.second q ql) u
      (λ p. climbs m q (path_before q ql p) (omega arith))

  -- What continues such a record is a record,
  pub continuation_record : (r : ℕ) → suc r < count s → (context s r).continuation < count s
  continuation_record r l = (climbs (count s) r l (omega arith)).1

  -- and it stands under what the record q that has it as its child hands it.
  pub context_handed : (r q : ℕ) → q < count s → 0 < uses s r q
      → context s r ≡ handed (kind_at s q) (eqb (field_a s q) r) (field_b s q) q (context s q)
  unfolding context_in
  context_handed r q l u =
      let later = child_earlier w r q l u in
      rw (← parent_is w r q l u) (climbs (count s) r (omega arith) (omega arith)).0

  -- So does its first child, and its second, which isn't the first.
  module _ (q : ℕ) (l : q < count s) {σ : Sort} (a : use_a (kind_at s q) ≡ child σ) where
    pub first_context : context s (field_a s q) ≡ handed (kind_at s q) true (field_b s q) q (context s q)
    first_context =
        let h = context_handed (field_a s q) q l (first_used s (field_a s q) q (σ, a, refl)) in
        rw (eq-eqb (field_a s q) (field_a s q) refl) at h

    pub second_context : {τ : Sort} → use_b (kind_at s q) ≡ child τ
        → context s (field_b s q) ≡ handed (kind_at s q) false (field_b s q) q (context s q)
    second_context {τ} b =
        let named : InSecond s (field_b s q) q = (τ, b, refl) in
        let h = context_handed (field_b s q) q l (second_used s (field_b s q) q named) in
        rw (ne_eqb (field_a s q) (field_b s q) (λ x. one_field w (field_b s q) q l (σ, a, x) named)) at h
