-- Judge and values agree. Neither refuses: the sizes fit, the cells are values, the records are a tree and the rules are in form. For a label is
-- a column of the filling, because what a record names is a record; and the mark for the previous instant stands only where there is one, at
-- all instants but the first. So the judge's yes says that all rules hold in the one filling, and valuing gives the whole formula's
-- value at the first instant. That is 2 exactly if all rules hold in some filling; and such a filling is the one.
use Prim.Native.Nat.{ℕ, pred, ◌+◌, ◌≤◌, ◌<◌, ◌*◌}
use mathlib.Core.Path.{◌≡◌, refl, ◌∙◌}
use mathlib.Core.Bool.{true, false}
use mathlib.Core.List.{List, [], ◌∷◌}
use mathlib.Core.Logic.Iff
use mathlib.Core.Logic.{◌↔◌}
use native.Mathlib.Omega.{arith}
use native.Mathlib.Nat.{le_refl}
use lib.ListN.{length, get_or, length-append}
use borrow.Author.Tests.{lt-leb, le-ltb}
use Rattle.meaning.specs.Record.{Kind, constant, atom, modal, move, test, choice, sequence, star, shorthand, unknown, core, Mode, diamond, box, Way}
use Rattle.meaning.specs.Record.{ahead, back, count, kind_at, field_a, field_b, columns_of}
use Rattle.meaning.specs.Rule.{Rule, previously, negated, words}
use Rattle.meaning.specs.Translation.{label, same_rules, edge_rule, join_rules, test_rules, move_rules, rules_of, rules_at, asserted, translation}
use Rattle.meaning.specs.Refusal.{most_columns, bad_literal, bad_rule, most_atoms, most_rules, ground8_cells, grounds9, ground10, ground13}
use Rattle.meaning.specs.Refusal.{ground13_length, value_grounds, judge_grounds}
use Rattle.meaning.specs.WellFormed.{WellFormed, Trace}
use Rattle.meaning.specs.Run.{each, cell_of}
use Rattle.meaning.specs.Tree.{form_at}
use Rattle.meaning.specs.Value.{value_of}
use Rattle.meaning.specs.Judge.{AllHold, rule_count}
use Rattle.meaning.specs.Service.{judge_answer, value_answer}
use Rattle.meaning.proofs.Holding.{marks}
use Rattle.meaning.proofs.Runs.{All, all_append, all_each}
use Rattle.meaning.proofs.Fails.{tests}
use Rattle.meaning.proofs.First.{Clear, clear_none, clear_append, each_clear}
use Rattle.meaning.proofs.Accepted.{clear_well_formed, starred_formed}
use Rattle.meaning.proofs.RuleCount.{few_rules, words_length}
use Rattle.meaning.proofs.Outcome.{judge_refusal, judge_verdict}
use Rattle.theorems.specs.Filling.{Filling, others, Meets}
use Rattle.theorems.specs.Demand3.{Accepted, OneFilling}
use Rattle.theorems.specs.Why.{Agreement}
use Rattle.theorems.proofs.Shape.{mode_at, cont_at, Shape, shapes}
use Rattle.theorems.proofs.Saying.{every_word, all_hold, append_kept}

-- ---- rules in form
-- Every rule of a list is in form, over W columns.
abbrev pub Formed : ℕ → List Rule → Type 0
Formed W = All (λ ρ. bad_rule W ρ ≡ false)

module _ (W : ℕ) (few : W ≤ most_columns) where
  -- ---- literals
  -- A symbol without marks.
  plain_formed : (p x : ℕ) → x < 2 + W → bad_literal W p x ≡ false
  unfolding bad_literal
  plain_formed p x l = let (e, q, _) = marks x x 0 (omega arith) (omega arith) in rw (e, q, lt-leb (2 + W) x l)

  -- With the mark for negation.
  negated_formed : (p x : ℕ) → x < 2 + W → bad_literal W p (negated x) ≡ false
  unfolding bad_literal
  negated_formed p x l = let (e, q, _) = marks (negated x) x 2 (omega arith) (omega arith) in rw (e, q, lt-leb (2 + W) x l)

  -- With the mark for the previous instant, at all instants but the first.
  previous_formed : (x : ℕ) → x < 2 + W → bad_literal W 2 (previously x) ≡ false
  unfolding bad_literal
  previous_formed x l = let (e, q, _) = marks (previously x) x 1 (omega arith) (omega arith) in rw (e, q, lt-leb (2 + W) x l)

  -- The symbols of false and true.
  false_formed : (p : ℕ) → bad_literal W p 0 ≡ false
  false_formed p = plain_formed p 0 (omega arith)

  true_formed : (p : ℕ) → bad_literal W p 1 ≡ false
  true_formed p = plain_formed p 1 (omega arith)

  ruleset literals = (false_formed, true_formed, plain_formed, negated_formed, previous_formed)

  -- ---- rules
  module _ (x u : ℕ) (xl : x < 2 + W) (ul : u < 2 + W) where
    -- Two literals are the same.
    same_formed : Formed W (same_rules 0 x u)
    unfolding bad_rule
    same_formed = simp literals (refl, (refl, tt))

    move_formed : (w : Way) (m : Mode) → Formed W (move_rules w m x u)
    unfolding move_rules edge_rule bad_rule
    move_formed ahead = elim [ diamond ↦ simp literals (refl, (refl, (refl, tt))) | box ↦ simp literals (refl, (refl, (refl, tt))) ]
    move_formed back = elim [ diamond ↦ simp literals (refl, (refl, (refl, tt))) | box ↦ simp literals (refl, (refl, (refl, tt))) ]

    module _ (v : ℕ) (vl : v < 2 + W) where
      -- Choice and star.
      join_formed : (m : Mode) → Formed W (join_rules m x u v)
      unfolding join_rules bad_rule
      join_formed = elim [ diamond ↦ simp literals (refl, (refl, (refl, tt))) | box ↦ simp literals (refl, (refl, (refl, tt))) ]

      test_formed : (m : Mode) → Formed W (test_rules m x u v)
      unfolding test_rules bad_rule
      test_formed = elim [ diamond ↦ simp literals (refl, (refl, (refl, tt))) | box ↦ simp literals (refl, (refl, (refl, (refl, tt)))) ]

  -- The rule that asserts the whole formula.
  asserted_formed : (s : List ℕ) (A : ℕ) → label A (pred (count s)) < 2 + W → Formed W (asserted s A ∷ [])
  unfolding bad_rule
  asserted_formed s A l = simp literals (refl, tt)

-- ---- records
module _ {s : List ℕ} {A : ℕ} (w : WellFormed core s A) where
  -- The columns, which are the atoms and the labels, are not too many.
  abbrev W : ℕ
  W = A + count s

  pub narrow : W ≤ most_columns
  narrow = omega arith

  -- The label of a record is one.
  labelled : {r : ℕ} → r < count s → label A r < 2 + W
  labelled l = omega arith

  module _ (L : ℕ) (cell : ℕ → ℕ → ℕ) where
    -- By the kind.
    kind_formed : (r : ℕ) → r < count s → (K : Kind) → kind_at s r ≡ K → Shape s L cell K r
        → Formed W (rules_of K (mode_at s r) (label A r) (label A (field_a s r)) (label A (field_b s r))
        (label A (cont_at s r)) (field_a s r))
    unfolding Shape rules_of
    kind_formed r l (constant false) e sh = same_formed W narrow _ _ (labelled l) (omega arith)
    kind_formed r l (constant true) e sh = same_formed W narrow _ _ (labelled l) (omega arith)
    kind_formed r l atom e sh =
        let a : field_a s r < A = unfold columns_of in rw e at (w.first r l) in
        same_formed W narrow _ _ (labelled l) (omega arith)
    kind_formed r l (modal m) e (p, b) = same_formed W narrow _ _ (labelled l) (omega arith)
    kind_formed r l (move v) e c = move_formed W narrow _ _ (labelled l) (labelled c) v _
    kind_formed r l test e (c, b) = test_formed W narrow _ _ (labelled l) (omega arith) _ (labelled c) _
    kind_formed r l choice e (p, q) = join_formed W narrow _ _ (labelled l) (omega arith) _ (omega arith) _
    kind_formed r l sequence e (p, q) = same_formed W narrow _ _ (labelled l) (omega arith)
    kind_formed r l star e (c, p, b) = join_formed W narrow _ _ (labelled l) (labelled c) _ (omega arith) _
    kind_formed r l (shorthand σ) e sh = absurd sh
    kind_formed r l unknown e sh = absurd sh

    pub translation_formed : ((r : ℕ) → r < count s → Shape s L cell (kind_at s r) r) → Formed W (translation s A)
    unfolding translation rules_at
    translation_formed shape = simp (all_append, all_each) (
      λ r l. kind_formed r l (kind_at s r) refl (shape r l),
      asserted_formed W narrow s A (labelled (omega (arith, w.some))),
    )

-- ---- grounds that do not apply
sizes_clear : (most W L : ℕ) (cells : List ℕ) → W ≤ most → 0 < L → L ≤ 32 → length cells ≡ W * L
    → (ground8_cells most W L cells).applies ≡ false
unfolding ground8_cells
sizes_clear most W L cells few some short size = simp tests (((omega arith, omega arith), omega arith), size)

cells_clear : (cells : List ℕ) → ((i : ℕ) → get_or cells i 0 ≤ 2) → Clear (grounds9 cells)
unfolding grounds9
cells_clear cells low = each_clear _ (length cells) (λ i l. simp tests (omega (arith, low i), tt))

-- ---- the judge over a filling
module _ (s : List ℕ) {A L : ℕ} {cells f : List ℕ} (accepted : Accepted s A) (trace : Trace A L cells)
    (φ : Filling A (count s) L cells f) where
  -- The records are a tree, and the rules in form.
  formed : WellFormed core s A
  formed = starred_formed s A accepted

  all_formed : Formed (A + count s) (translation s A)
  all_formed = translation_formed formed L (cell_of A cells) (shapes s A accepted L (cell_of A cells))

  -- It refuses no rules in form, if they are not too many.
  takes : (ρs : List Rule) → length ρs ≤ most_rules → Formed (A + count s) ρs
      → (judge_answer (words ρs) (A + count s) L f).refusal ≡ 0
  unfolding judge_grounds ground13_length ground13
  takes ρs few form =
      let ws = words ρs in
      let sizes = sizes_clear most_columns (A + count s) L f (narrow formed) trace.some trace.few φ.size in
      let whole : (ground13_length ws).applies ≡ false =
      let n = words_length ρs in
      simp tests (omega arith, omega arith) in
      let forms = each_clear (λ i. ground13 ws (A + count s) i ∷ []) (rule_count ws) (λ i l. ((every_word _ ρs).1 form i l, tt)) in
      judge_refusal ws (A + count s) L f
      ∙ clear_none _ (simp clear_append ((sizes, (whole, forms)), cells_clear f φ.low))

  -- Not those of the translation, nor those without the last one.
  pub takes_all : (judge_answer (words (translation s A)) (A + count s) L f).refusal ≡ 0
  takes_all = takes (translation s A) (omega (arith, few_rules s A, formed.few)) all_formed

  pub takes_others : (judge_answer (others s A) (A + count s) L f).refusal ≡ 0
  unfolding translation
  takes_others =
      let ρs = each (count s) (rules_at s A) in
      let n : length (translation s A) ≡ length ρs + 1 = length-append ρs (asserted s A ∷ []) in
      takes ρs (omega (arith, few_rules s A, formed.few)) ((all_append _ ρs _).0 all_formed).0

-- ---- values
module _ {s : List ℕ} {A L : ℕ} {cells : List ℕ} (accepted : Accepted s A) (trace : Trace A L cells)
    (one : OneFilling s A L cells) where
  -- The whole formula's value.
  abbrev value : ℕ
  value = value_of L (cell_of A cells) (form_at s (pred (count s))) 0

  -- None of valuing applies where there is room, and it gives the value.
  value_clear : (room : ℕ) → count s * L ≤ room → Clear (value_grounds s A L cells room)
  unfolding value_grounds ground10
  value_clear room enough =
      let w = starred_formed s A accepted in
      let (bytes, (_, tree)) = (clear_well_formed core s A).1 w in
      let sizes = sizes_clear most_atoms A L cells w.atoms trace.some trace.few trace.size in
      simp clear_append
      ((bytes, (sizes, tree)), (cells_clear cells trace.low, (le-ltb room (count s * L) enough, tt)))

  value_given : (value_answer s A L cells (count s * L)).value ≡ value
  unfolding value_answer
  value_given = rw (clear_none _ (value_clear (count s * L) (le_refl _)))

  -- Where all rules hold, all but the last do.
  others_met : (f : List ℕ) → AllHold (words (translation s A)) L (cell_of (A + count s) f) → Meets s A L f
  unfolding translation
  others_met f h =
      let kept = simp (all_hold, append_kept) at h in
      (all_hold L (cell_of (A + count s) f) _).1 (λ k l. (kept k l).0)

  -- All rules hold in the one filling exactly if the value is 2.
  all_or_two : AllHold (words (translation s A)) L (cell_of (A + count s) one.filling) ↔ (value ≡ 2)
  all_or_two = (
    λ h. one.asserted.0 (one.filling, one.fills, h),
    λ e.
        let (f, φ, h) = one.asserted.1 e in
        rw (one.only f φ (others_met f h)) at h,
  )

pub agreement : Agreement
agreement = record {
  agrees = λ s A L cells accepted trace one.
      rw (value_given accepted trace one)
      (Iff.trans (judge_verdict _ _ L _ (takes_all s accepted trace one.fills)).yes (all_or_two accepted trace one));
}
