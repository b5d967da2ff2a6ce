-- A filling meets the rules exactly if its labels are the right ones. There is such a filling, its rows laid out by a
-- rule; and a filling is known by its labels, since its other cells are the trace's. The rule that asserts the whole
-- formula asks that the last record's label be 2 at the first instant, and the last record is a formula.
use Prim.Native.Nat.{ℕ, pred, ◌+◌, ◌*◌, ◌-◌, ◌≤◌, ◌<◌}
use mathlib.Core.Path.{◌≡◌, refl, sym, ◌∙◌}
use mathlib.Core.Bool.{cond}
use mathlib.Core.List.{List, [], ◌∷◌}
use mathlib.Core.Logic.Iff
use mathlib.Core.Logic.{◌↔◌, inl, inr}
use native.Mathlib.Omega.{arith}
use lib.ListN.{length, get_or, get_or-eq_default}
use lib.Seq.{ext_get_or}
use lib.Dec.{ltb}
use borrow.Author.Tests.{lt-ltb, le-ltb, eqb-true}
use Rattle.meaning.specs.Run.{each, tabulate, cell_of}
use Rattle.meaning.specs.Record.{core, count, kind_at, box, Sort, formula, path, sort_of}
use Rattle.meaning.specs.Tree.{form_at}
use Rattle.meaning.specs.Value.{Row, value_of}
use Rattle.meaning.specs.Rule.{words, placed}
use Rattle.meaning.specs.Translation.{label, edge_rule, rules_at, asserted, translation}
use Rattle.meaning.specs.Judge.{AllHold}
use Rattle.meaning.specs.WellFormed.{WellFormed, Trace}
use Rattle.meaning.proofs.Bounds.{le_or_lt, cond_within}
use Rattle.meaning.proofs.Runs.{length_each, get_d_each, length_tabulate, get_d_tabulate, row_place}
use Rattle.meaning.proofs.Within.{edge}
use Rattle.theorems.specs.Filling.{Filling, label_of, Meets}
use Rattle.theorems.specs.Demand3.{OneFilling}
use Rattle.theorems.proofs.Shape.{Shape}
use Rattle.theorems.proofs.Saying.{Keeping, all_hold, append_kept, each_keeping, edge_placed}
use Rattle.theorems.proofs.Labelled.{meant, Right, literal_label, all_settled}
use Rattle.theorems.proofs.Determined.{solution, solution_low, determined}

-- ---- fillings
-- Two fillings with the same labels are the same.
same_filling : {A n L : ℕ} {cells f g : List ℕ} → Filling A n L cells f → Filling A n L cells g
    → ((r k : ℕ) → r < n → k < L → label_of A n f r k ≡ label_of A n g r k) → f ≡ g
same_filling {A} {n} {L} {cells} {f} {g} φ γ h = ext_get_or 0 f g (φ.size ∙ sym γ.size) (λ i l.
    let (k, j, a, b, e) = row_place (A + n) L i (omega arith) in
    rw e (elim (le_or_lt A j) [
      | inl o ↦ let d : j ≡ A + (j - A) = omega arith in rw d (h (j - A) k (omega arith) a)
      | inr o ↦ φ.same k j a o ∙ sym (γ.same k j a o)
    ]))

module _ {s : List ℕ} {A L : ℕ} {cells : List ℕ} (w : WellFormed core s A) (trace : Trace A L cells)
    (shape : (r : ℕ) → r < count s → Shape s L (cell_of A cells) (kind_at s r) r) where
  -- How many records; the right labels.
  abbrev n : ℕ
  n = count s

  abbrev right : ℕ → Row
  right = solution s L (cell_of A cells)

  -- ---- any filling
  module _ {f : List ℕ} (φ : Filling A n L cells f) where
    -- Its cells, all of them values.
    abbrev grid : ℕ → ℕ → ℕ
    grid = cell_of (A + n) f

    low : (k i : ℕ) → grid k i ≤ 2
    low k i = φ.low _

    -- It meets the rules exactly if each label is what it is meant to be.
    meets_right : Meets s A L f ↔ ((r : ℕ) → r < n → Right s L (cell_of A cells) (label_of A n f) r)
    meets_right =
        Iff.trans (all_hold L grid _) (Iff.trans (each_keeping L grid (rules_at s A) n) (all_settled w low φ.same shape))

    -- That is, if its labels are the right ones.
    meets_solution : Meets s A L f ↔ ((r k : ℕ) → r < n → k < L → label_of A n f r k ≡ right r k)
    meets_solution = Iff.trans meets_right (determined s L (cell_of A cells) w shape (label_of A n f))

    -- The rule that asserts the whole formula is kept exactly if the last label is 2 at the first instant.
    asserted_kept : Keeping L grid (asserted s A ∷ []) ↔ (label_of A n f (pred n) 0 ≡ 2)
    unfolding edge_rule edge placed
    asserted_kept =
        let x = label A (pred n) in
        let e = literal_label w low φ.same (pred n) 0 (omega arith) in (
          λ h. sym e ∙ (edge_placed L grid low 0 box 1 x).0 (h 0 trace.some).0 refl,
          λ h k l. ((edge_placed L grid low k box 1 x).1 (λ q. let z : k ≡ 0 = eqb-true k 0 q in rw z (e ∙ h)), tt),
        )

    -- All rules, that one included.
    translation_kept : AllHold (words (translation s A)) L grid ↔ (Meets s A L f × (label_of A n f (pred n) 0 ≡ 2))
    unfolding translation
    translation_kept = simp (← asserted_kept, all_hold, append_kept) (
      λ h. (λ k l. (h k l).0, λ k l. (h k l).1),
      λ h k l. (h.0 k l, h.1 k l),
    )

    -- Where it meets the rules, each label is what is meant, by its sort.
    label_sorted : Meets s A L f → (σ : Sort) (r k : ℕ) → r < n → k < L → sort_of (kind_at s r) ≡ σ
        → label_of A n f r k ≡ meant s L (cell_of A cells) σ (label_of A n f) r k
    label_sorted h σ r k l i e = rw e at (meets_right.0 h r l k i)

  -- ---- the filling
  -- Cell i of row k: the trace's cells, and then the right labels.
  fill : ℕ → ℕ → ℕ
  fill k i = cond (ltb i A) (cell_of A cells k i) (right (i - A) k)

  -- Row after row.
  filled : List ℕ
  filled = each L (λ k. tabulate (A + n) (fill k))

  filled_size : length filled ≡ (A + n) * L
  unfolding filled
  filled_size = length_each (A + n) _ (λ k. length_tabulate (A + n) (fill k)) L

  -- Its cells are those.
  filled_cell : (k i : ℕ) → k < L → i < A + n → cell_of (A + n) filled k i ≡ fill k i
  unfolding filled
  filled_cell k i l h =
      get_d_each (A + n) _ (λ k. length_tabulate (A + n) (fill k)) 0 i h L k l ∙ get_d_tabulate (A + n) (fill k) i h

  -- They are values.
  fill_low : (k i : ℕ) → k < L → fill k i ≤ 2
  unfolding fill
  fill_low k i l = cond_within (ltb i A) (trace.low _) (solution_low s L (cell_of A cells) (λ k i _. trace.low _) (i - A) k l)

  filled_low : (i : ℕ) → get_or filled i 0 ≤ 2
  filled_low i = elim (le_or_lt (length filled) i) [
    | inl h ↦ omega (arith, get_or-eq_default filled 0 h)
    | inr h ↦
        let (k, j, a, b, e) = row_place (A + n) L i (omega (arith, filled_size)) in
        rw e (omega (arith, filled_cell k j a b, fill_low k j a))
  ]

  -- So it is a filling.
  filled_fills : Filling A n L cells filled
  filled_fills = record {
    size = filled_size;
    low = filled_low;
    same = λ k i l h. filled_cell k i l (omega arith) ∙ unfold fill in rw (lt-ltb i A h);
  }

  -- Its labels are the right ones.
  filled_label : (r k : ℕ) → r < n → k < L → label_of A n filled r k ≡ right r k
  unfolding fill
  filled_label r k h l =
      let e : A + r - A ≡ r = omega arith in
      filled_cell k (A + r) l (omega arith) ∙ rw (le-ltb (A + r) A (omega arith), e)

  -- So it meets the rules.
  filled_meets : Meets s A L filled
  filled_meets = (meets_solution filled_fills).1 filled_label

  -- ---- the theorem
  pub one_filling : OneFilling s A L cells
  unfolding meant
  one_filling = record {
    filling = filled;
    fills = filled_fills;
    meets = filled_meets;
    only = λ f φ h. same_filling φ filled_fills (λ r k l i. (meets_solution φ).0 h r k l i ∙ sym (filled_label r k l i));
    formulas = label_sorted filled_fills filled_meets formula;
    paths = label_sorted filled_fills filled_meets path;
    asserted = (
      λ (f, φ, h). let (m, e) = (translation_kept φ).0 h in sym (last φ m) ∙ e,
      λ e. (filled, filled_fills, (translation_kept filled_fills).1 (filled_meets, last filled_fills filled_meets ∙ e)),
    );
  }
    where
      last : {f : List ℕ} (φ : Filling A n L cells f) → Meets s A L f
          → label_of A n f (pred n) 0 ≡ value_of L (cell_of A cells) (form_at s (pred n)) 0
      last φ m = label_sorted φ m formula (pred n) 0 (omega arith) trace.some w.last
