-- Right labels are determined. A formula's label is its value, and a path's is made from the label that continues the
-- path. What continues a path is a record; and if it is itself a path, then what continues that continues a later path too. By the
-- parent: under a modality it is the formula. A choice, and a sequence to its second part, hand on their own. A sequence's first part
-- goes on with the second, which goes on as the sequence does; a star's body with the star. So one comes to a formula in fewer steps than
-- there are records, and labels that are made from one another in so many steps no longer hang on what they were at first: they
-- are right, and right labels are these.
use Prim.Native.Nat.{ℕ, zero, suc, ◌+◌, ◌≤◌, ◌<◌, zero-le}
use mathlib.Core.Path.{◌≡◌, refl, sym, ap, ◌∙◌}
use mathlib.Core.Bool.{true≢false}
use mathlib.Core.List.{List}
use mathlib.Core.Logic.{◌⊎◌, inl, inr, ◌↔◌}
use native.Mathlib.Omega.{arith}
use Rattle.meaning.specs.Record.{Kind, columns_of, core, count, kind_at, field_a, field_b, Sort, formula, path, sort_of, Mode, child, use_a, use_b, parent}
use Rattle.meaning.specs.WellFormed.{WellFormed}
use Rattle.meaning.specs.Value.{Row}
use Rattle.meaning.proofs.Cases.{by_kind}
use Rattle.meaning.proofs.Nodes.{either_sort, differs}
use Rattle.meaning.proofs.Parents.{InFirst, InSecond, used_in, has_parent, child_earlier}
use Rattle.meaning.proofs.Climbing.{path_before}
use Rattle.meaning.proofs.Modality.{modal_bound, modal_congruence}
use Rattle.meaning.proofs.Onward.{values_bound}
use Rattle.theorems.proofs.Shape.{cont_at, PathChild, Shape}
use Rattle.theorems.proofs.Labelled.{meant, Right}

-- ---- what continues a path
-- The sort of record r.
abbrev pub sort_at : List ℕ → ℕ → Sort
sort_at s r = sort_of (kind_at s r)

-- Record q is a path after r.
pub record Later (s : List ℕ) (r q : ℕ) : Type 0 where
  pub later : r < q
  pub within : q < count s
  pub sorted : sort_at s q ≡ path

-- Path r goes on with record z; and if that is a path, what continues it continues a later path than r.
pub record Onto (s : List ℕ) (r z : ℕ) : Type 0 where
  pub within : z < count s
  pub onward : sort_at s z ≡ path → (q : ℕ) × Later s r q × (cont_at s z ≡ cont_at s q)

module _ (s : List ℕ) (L : ℕ) (cell : ℕ → ℕ → ℕ) (q : ℕ) (l : q < count s)
    (up : sort_at s q ≡ path → Onto s q (cont_at s q)) where
  -- A part of a path q.
  module _ {r : ℕ} {m : Mode} {c : ℕ} (p : PathChild s q r m c) (e : sort_at s q ≡ path) where
    after : Later s r q
    after = record { later = p.child.earlier; within = l; sorted = e }

    -- If it goes on as q does.
    as_parent : c ≡ cont_at s q → Onto s r c
    as_parent d = let g = up e in rw d (record {
      within = g.within;
      onward = λ t.
          let (z, a, f) = g.onward t in
          (z, record { later = omega arith; within = a.within; sorted = a.sorted }, f);
    })

  -- The first child of q, and the second.
  first_onto : (K : Kind) → kind_at s q ≡ K → Shape s L cell K q → use_a K ≡ child path → Onto s (field_a s q) (cont_at s (field_a s q))
  unfolding Shape columns_of
  first_onto =
      by_kind _ (λ v e sh u. absurd (true≢false cc)) (λ e sh u. absurd (true≢false cc))
      (λ m e (p, b) u. rw p.continued (record { within = omega arith; onward = λ t. absurd (differs b.sorted t) }))
      (λ v e sh u. absurd (true≢false cc)) (λ e sh u. absurd (true≢false cc))
      (λ e (p, b) u. rw p.continued (as_parent p (rw e) refl))
      (λ e (p, b) u. rw p.continued (record { within = omega arith; onward = λ _. (q, after p (rw e), b.continued) }))
      (λ e (c, p, _) u. rw p.continued (record { within = l; onward = λ _. (q, after p (rw e), refl) }))
      (λ σ e sh u. absurd sh) (λ e sh u. absurd sh)

  second_onto : (K : Kind) → kind_at s q ≡ K → Shape s L cell K q → use_b K ≡ child path → Onto s (field_b s q) (cont_at s (field_b s q))
  unfolding Shape columns_of
  second_onto =
      by_kind _ (λ v e sh u. absurd (true≢false cc)) (λ e sh u. absurd (true≢false cc)) (λ m e sh u. absurd (true≢false cc))
      (λ v e sh u. absurd (true≢false cc)) (λ e sh u. absurd (true≢false cc)) (λ e (a, p) u. rw p.continued (as_parent p (rw e) refl))
      (λ e (a, p) u. rw p.continued (as_parent p (rw e) refl)) (λ e sh u. absurd (true≢false cc))
      (λ σ e sh u. absurd sh) (λ e sh u. absurd sh)

module _ {s : List ℕ} {A : ℕ} (w : WellFormed core s A) where
  module _ (L : ℕ) (cell : ℕ → ℕ → ℕ) (shape : (r : ℕ) → r < count s → Shape s L cell (kind_at s r) r) where
    -- If record q goes on, so does a path that it has in one of its fields.
    part_onto : (r q : ℕ) → q < count s → (sort_at s q ≡ path → Onto s q (cont_at s q)) → sort_at s r ≡ path
        → InFirst s r q ⊎ InSecond s r q → Onto s r (cont_at s r)
    part_onto r q b up p (inl (σ, e, f)) =
        let fits = rw e at (w.first q b) in
        let z : σ ≡ path = sym fits.1 ∙ ap (sort_at s) f ∙ p in
        rw f at (first_onto s L cell q b up (kind_at s q) refl (shape q b) (e ∙ ap child z))
    part_onto r q b up p (inr (σ, e, f)) =
        let fits = rw e at (w.second q b) in
        let z : σ ≡ path = sym fits.1 ∙ ap (sort_at s) f ∙ p in
        rw f at (second_onto s L cell q b up (kind_at s q) refl (shape q b) (e ∙ ap child z))

    -- By climbing, t times at most.
    onto_in : (t r : ℕ) → r < count s → count s ≤ t + r → sort_at s r ≡ path → Onto s r (cont_at s r)
    onto_in zero r l h p = absurd (omega arith)
    onto_in (suc t) r l h p =
        let q = parent s r in
        let (b, u) = has_parent w r (path_before w r l p) in
        let a = child_earlier w r q b u in
        part_onto r q b (onto_in t q b (omega arith)) p (used_in s r q u)

    -- So every path goes on.
    pub onto : (r : ℕ) → r < count s → sort_at s r ≡ path → Onto s r (cont_at s r)
    onto r l p = onto_in (count s) r l (omega arith) p

-- ---- labels
module _ (s : List ℕ) (L : ℕ) (cell : ℕ → ℕ → ℕ) where
  -- What the label of r is meant to be, among the labels X.
  abbrev made : (ℕ → Row) → ℕ → Row
  made X r = meant s L cell (sort_at s r) X r

  -- ---- the labels, step by step
  labels : ℕ → ℕ → Row
  labels zero r k = 0
  labels (suc d) r k = made (labels d) r k

  -- More steps than there are records.
  pub solution : ℕ → Row
  solution = labels (suc (count s))

  module _ (cells : (k i : ℕ) → k < L → cell k i ≤ 2) where
    -- Of values, values are made.
    made_low : (X : ℕ → Row) → ((q j : ℕ) → j < L → X q j ≤ 2) → (σ : Sort) (r k : ℕ) → k < L
        → meant s L cell σ X r k ≤ 2
    unfolding meant
    made_low X b formula r k l = values_bound L cell cells _ k l
    made_low X b path r k l = modal_bound _ L _ _ k (b (cont_at s r))

    labels_low : (d r k : ℕ) → k < L → labels d r k ≤ 2
    unfolding labels
    labels_low zero r k l = zero-le
    labels_low (suc d) r k l = made_low (labels d) (labels_low d) (sort_at s r) r k l

    pub solution_low : (r k : ℕ) → k < L → solution r k ≤ 2
    unfolding solution
    solution_low = labels_low (suc (count s))

  -- ---- labels that agree
  -- Below L.
  abbrev Agree : Row → Row → Type 0
  Agree x y = (k : ℕ) → k < L → x k ≡ y k

  -- What is meant hangs on the continuation alone.
  made_agrees : (X Y : ℕ → Row) (r : ℕ) → (sort_at s r ≡ path → Agree (X (cont_at s r)) (Y (cont_at s r)))
      → Agree (made X r) (made Y r)
  unfolding meant
  made_agrees X Y r e k l = elim (either_sort (sort_at s r))
      [ inl t ↦ rw t refl | inr t ↦ rw t (modal_congruence _ L _ _ _ k (λ j i _. e t j i)) ]

  -- Labels X d of which each is made from those a step before.
  abbrev Steps : (ℕ → ℕ → Row) → Type 0
  Steps X = (d r k : ℕ) → r < count s → k < L → X (suc d) r k ≡ made (X d) r k

  module _ {A : ℕ} (w : WellFormed core s A) (shape : (r : ℕ) → r < count s → Shape s L cell (kind_at s r) r) where
    -- After enough steps, what continues a path does not hang on what was at first.
    steps_agree : (X Y : ℕ → ℕ → Row) → Steps X → Steps Y → (d r : ℕ) → r < count s → count s ≤ suc d + r
        → sort_at s r ≡ path → Agree (X d (cont_at s r)) (Y d (cont_at s r))
    steps_agree X Y f g zero r l n p k i = absurd (omega (arith, path_before w r l p))
    steps_agree X Y f g (suc d) r l n p k i =
        let c = cont_at s r in
        let o = onto w L cell shape r l p in
        let before : sort_at s c ≡ path → Agree (X d (cont_at s c)) (Y d (cont_at s c))
        = λ t. let (q, a, e) = o.onward t in rw e (steps_agree X Y f g d q a.within (omega arith) a.sorted) in
        f d c k o.within i ∙ made_agrees (X d) (Y d) c before k i ∙ sym (g d c k o.within i)

    -- As many steps as there are records are enough.
    settles : (X Y : ℕ → ℕ → Row) → Steps X → Steps Y → (r : ℕ) → r < count s
        → Agree (made (X (count s)) r) (made (Y (count s)) r)
    settles X Y f g r l = made_agrees (X (count s)) (Y (count s)) r (steps_agree X Y f g (count s) r l (omega arith))

    -- Labels are right exactly if they are these.
    pub determined : (X : ℕ → Row)
        → ((r : ℕ) → r < count s → Right s L cell X r) ↔ ((r k : ℕ) → r < count s → k < L → X r k ≡ solution r k)
    unfolding solution labels
    determined X = (
      λ h r k l i. h r l k i ∙ settles (λ d. X) labels (λ d q j b. h q b j) (λ d q j b v. refl) r l k i,
      λ h r l k i. h r k l i
          ∙ settles labels (λ d. labels (suc d)) (λ d q j b v. refl) (λ d q j b v. refl) r l k i
          ∙ made_agrees solution X r (λ p j v. sym (h (cont_at s r) j (onto w L cell shape r l p).within v)) k i,
    )
