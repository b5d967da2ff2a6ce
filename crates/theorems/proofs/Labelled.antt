-- The rules of a record are kept exactly if its label is what it is meant to be: a formula's value, or a path's
-- modality over the label that continues the path. The rules speak of the labels of the record's children, which are
-- earlier; where these are right already, the laws of rows do the rest.
use Prim.Native.Nat.{ℕ, zero, suc, ◌+◌, ◌≤◌, ◌<◌}
use mathlib.Core.Path.{◌≡◌, refl, sym, ◌∙◌, ap, ap₂}
use mathlib.Core.Bool.{true, false}
use mathlib.Core.List.{List}
use mathlib.Core.Logic.Iff
use mathlib.Core.Logic.{◌↔◌}
use native.Mathlib.Nat.{le_refl}
use native.Mathlib.Omega.{arith}
use Rattle.meaning.specs.Record.{Kind, constant, atom, modal, move, test, choice, sequence, star, shorthand, unknown, columns_of}
use Rattle.meaning.specs.Record.{core, Mode, count, kind_at, field_a, field_b, Sort, formula, path, sort_of}
use Rattle.meaning.specs.Tree.{as_form, as_path, node_of, tree_at, form_at, path_at}
use Rattle.meaning.specs.Value.{Row, value_of, square_of, modal_row}
use Rattle.meaning.specs.Rule.{literal}
use Rattle.meaning.specs.Translation.{label, rules_of, rules_at}
use Rattle.meaning.specs.WellFormed.{WellFormed}
use Rattle.meaning.proofs.Nodes.{tree_of}
use Rattle.meaning.proofs.Within.{joined, gate}
use Rattle.meaning.proofs.Modality.{modal_congruence, modal_choice, modal_sequence, modal_test}
use Rattle.meaning.proofs.Solution.{star_solves}
use Rattle.theorems.proofs.Shape.{mode_at, cont_at, Child, PathChild, Shape}
use Rattle.theorems.proofs.Saying.{Keeping, same_says, join_says, test_says, move_says}
use Rattle.meaning.proofs.Holding.{literal_column, literal_false, literal_true}

-- What the label of record r is meant to be, by its sort, among the labels X.
unfoldable pub meant : List ℕ → ℕ → (ℕ → ℕ → ℕ) → Sort → (ℕ → Row) → ℕ → Row
meant s L cell formula X r = value_of L cell (form_at s r)
meant s L cell path X r = modal_row (mode_at s r) L (square_of L cell (path_at s r)) (X (cont_at s r))

-- It is that.
abbrev pub Right : List ℕ → ℕ → (ℕ → ℕ → ℕ) → (ℕ → Row) → ℕ → Type 0
Right s L cell X r = (k : ℕ) → k < L → X r k ≡ meant s L cell (sort_of (kind_at s r)) X r k

module _ {s : List ℕ} {A L : ℕ} {cell grid : ℕ → ℕ → ℕ} (w : WellFormed core s A) (low : (k i : ℕ) → grid k i ≤ 2)
    (same : (k i : ℕ) → k < L → i < A → grid k i ≡ cell k i) where
  -- The labels as they stand in the grid, after the atoms.
  abbrev X : ℕ → Row
  X r k = grid k (A + r)

  -- A record's symbol is worth its label.
  pub literal_label : (r k : ℕ) → r < count s → literal grid (label A r) k ≡ X r k
  literal_label r k l =
      let e : 2 + A + r ≡ 2 + (A + r) = omega arith in
      rw e (literal_column grid (A + r) k (omega arith))

  -- Two rows that are equal below L are equal to the same rows there.
  by_row : {x y z : Row} → ((k : ℕ) → k < L → y k ≡ z k) → ((k : ℕ) → k < L → x k ≡ y k) ↔ ((k : ℕ) → k < L → x k ≡ z k)
  by_row e = (λ h k l. h k l ∙ e k l, λ h k l. h k l ∙ sym (e k l))

  module _ (r : ℕ) (l : r < count s) (before : (q : ℕ) → q < r → Right s L cell X q) where
    -- A child that is a formula, and one that is a path.
    form_row : {q : ℕ} → Child s r q formula → (k : ℕ) → k < L → X q k ≡ value_of L cell (form_at s q) k
    unfolding meant
    form_row {q} c k h = rw c.sorted at (before q c.earlier) k h

    path_row : {q : ℕ} {m : Mode} {c : ℕ} → PathChild s r q m c → (k : ℕ) → k < L
        → X q k ≡ modal_row m L (square_of L cell (path_at s q)) (X c) k
    unfolding meant
    path_row {q} p k h = rw (p.child.sorted, p.moded, p.continued) at (before q p.child.earlier k h)

    -- An earlier record is one, and the label of a record is a symbol.
    inside : {q : ℕ} → q < r → q < count s
    inside b = omega arith

    labelled : {q : ℕ} → q < count s → label A q < 16_384
    labelled b = omega arith

    -- By the kind.
    settled : (K : Kind) → kind_at s r ≡ K → Shape s L cell K r
        → tree_at s r ≡ node_of K (field_a s r) (field_b s r) (tree_at s)
        → Keeping L grid (rules_of K (mode_at s r) (label A r) (label A (field_a s r)) (label A (field_b s r))
        (label A (cont_at s r)) (field_a s r))
        ↔ ((k : ℕ) → k < L → X r k ≡ meant s L cell (sort_of K) X r k)
    unfolding Shape rules_of meant columns_of node_of as_form as_path value_of square_of
    settled (constant false) e sh t = rw t (simp (same_says L grid low, literal_label, literal_false) Iff.rfl)
    settled (constant true) e sh t = rw t (simp (same_says L grid low, literal_label, literal_true) Iff.rfl)
    settled atom e sh t =
        let a : field_a s r < A = unfold columns_of in rw e at (w.first r l) in
        let b : field_a s r < 16_000 = omega arith in
        rw t (simp (same_says L grid low, literal_label, literal_column) (by_row (λ k h. same k (field_a s r) h a)))
    settled (modal m) e (p, b) t =
        rw t (simp (same_says L grid low, literal_label, inside p.child.earlier)
        (by_row (λ k h. path_row p k h ∙ modal_congruence m L _ _ _ k (λ j i _. form_row b j i))))
    settled (move v) e c t =
        rw t (simp (move_says L grid low, literal_label, labelled l, labelled c)
        (by_row (λ k h. modal_congruence _ L _ _ _ k (λ j _ _. literal_label (cont_at s r) j c))))
    settled test e (c, b) t =
        let a = inside b.earlier in
        rw t (simp (test_says L grid low, literal_label, labelled a, labelled c) (by_row (λ k h.
        ap (λ (u : ℕ). gate (mode_at s r) u (X (cont_at s r) k)) (form_row b k h)
        ∙ sym (modal_test _ L _ _ k h (low k _)))))
    settled choice e (p, q) t =
        rw t (simp (join_says L grid low, literal_label, inside p.child.earlier, inside q.child.earlier) (by_row (λ k h.
        ap₂ (joined (mode_at s r)) (path_row p k h) (path_row q k h) ∙ sym (modal_choice _ L _ _ _ k))))
    settled sequence e (p, q) t =
        rw t (simp (same_says L grid low, literal_label, inside p.child.earlier) (by_row (λ k h.
        path_row p k h ∙ modal_congruence _ L _ _ _ k (λ j i _. path_row q j i) ∙ sym (modal_sequence _ L _ _ _ k))))
    settled star e (c, p, (v, strict)) t =
        rw t (simp (join_says L grid low, literal_label, inside p.child.earlier) (Iff.trans
        (by_row (λ k h. ap (joined (mode_at s r) (X (cont_at s r) k)) (path_row p k h)))
        (star_solves (mode_at s r) L _ v strict (X (cont_at s r)) (λ k _. low k _) (X r))))
    settled (shorthand σ) e sh t = absurd sh
    settled unknown e sh t = absurd sh

    -- The rules of record r.
    record_settled : Shape s L cell (kind_at s r) r → Keeping L grid (rules_at s A r) ↔ Right s L cell X r
    unfolding rules_at
    record_settled sh = settled (kind_at s r) refl sh (tree_of w r l)

  -- So the rules of all records are kept exactly if all labels are right.
  pub all_settled : ((r : ℕ) → r < count s → Shape s L cell (kind_at s r) r)
      → ((r : ℕ) → r < count s → Keeping L grid (rules_at s A r)) ↔ ((r : ℕ) → r < count s → Right s L cell X r)
  all_settled shape = (
    λ h r. below h (suc r) r (le_refl _),
    λ h r l. (record_settled r l (λ q b. h q (omega arith)) (shape r l)).1 (h r l),
  )
    where
      below : ((r : ℕ) → r < count s → Keeping L grid (rules_at s A r)) → (m r : ℕ) → r < m → r < count s
          → Right s L cell X r
      below h zero r b l = absurd (omega arith)
      below h (suc m) r b l = (record_settled r l (λ q a. below h m q (omega arith) (omega arith)) (shape r l)).0 (h r l)
