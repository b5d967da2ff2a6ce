-- Each service's grounds stand for its reasons. A ground's test holds exactly where the reason's plain fact is so; and the grounds are in the
-- reasons' order: those of one record in turn, then of each record, then stage after stage.
use Prim.Native.Nat.{ℕ, suc, ◌<◌, ◌≤◌}
use mathlib.Core.Path.{◌≡◌, refl, sym, ◌∙◌}
use mathlib.Core.Bool.{Bool, true, false, not, ◌&&◌, ◌||◌, true≢false}
use mathlib.Core.Logic.Iff
use mathlib.Core.Logic.{◌⊎◌, inl, inr, ◌↔◌, ◌≢◌, ⊎_map}
use mathlib.Core.List.{List, [], ◌∷◌}
use mathlib.Core.Option.{Option, none, some}
use native.Mathlib.Nat.{le_refl}
use native.Mathlib.Omega.{arith}
use lib.ListN.{length}
use lib.Dec.{leb, eqb}
use borrow.Author.Tests.{leb-true, le-leb}
use Rattle.meaning.specs.Record.{Language, count, kind_at, Kind, move, star, ahead, back, Sort, formula, path, sort_of, Use, unused, atomNumber, child, core, full}
use Rattle.meaning.specs.Rule.{rule_at, rule_word}
use Rattle.meaning.specs.Refusal.{stray, late, beyond, differ, misfit, is_star, bad_literal, bad_rule, ground1, ground2, ground3}
use Rattle.meaning.specs.Refusal.{ground4, ground5, ground6, ground6_last, ground7, ground8_cells, ground11, ground12, ground13}
use Rattle.meaning.specs.Refusal.{ground13_length, Ground, most_atoms, ground8, grounds9, ground10, ground14, record_grounds, tree_grounds}
use Rattle.meaning.specs.Refusal.{star_grounds, starred_grounds, formula_grounds, check_grounds, expand_grounds, value_grounds, translate_grounds, judge_grounds}
use Rattle.meaning.specs.Reason.{WrongSize, WrongWord, WrongRule, given, position, position_of, no_room, RecordRefused}
use Rattle.meaning.specs.Reason.{TreeRefused, FormulaRefused, StarRefused, CellRefused, CheckRefused, ExpandRefused, ValueRefused}
use Rattle.meaning.specs.Reason.{TranslateRefused, JudgeRefused, ◌when◌}
use Rattle.meaning.specs.Reason.{WriteRefused, ReadRefused}
use Rattle.meaning.specs.Refusal.{is_back, ground14_text, ground18, ground19, write_grounds, read_grounds}
use Rattle.meaning.specs.Formula.{Form}
use Rattle.meaning.specs.Tree.{form_size, postorder}
use Rattle.meaning.specs.Text.{is_ahead, Spells, read, is_read, form_in}
use Rattle.meaning.specs.Judge.{rule_count}
use Rattle.meaning.proofs.Bounds.{below_suc}
use Rattle.meaning.proofs.Cases.{by_kind}
use Rattle.meaning.proofs.Fails.{and_holds, not_holds, eqb_holds, eqb_fails, ltb_holds}
use Rattle.meaning.proofs.RuleCount.{translation_counted}
use Rattle.meaning.proofs.Spelling.{not_found, reads, spelled}
use Rattle.meaning.proofs.Ordered.{Ordered, ordered_one, ordered_cons, ordered_same, ordered_append, ordered_each}

-- ---- tests
or_holds : (a b : Bool) → ((a || b) ≡ true) ↔ ((a ≡ true) ⊎ (b ≡ true))
or_holds true b = (λ e. inl refl, λ p. refl)
or_holds false b = (inr, λ p. elim p [ inl e ↦ absurd (true≢false (sym e)) | inr e ↦ e ])

leb_holds : (a b : ℕ) → (leb a b ≡ true) ↔ (a ≤ b)
leb_holds a b = (leb-true a b, le-leb a b)

-- A test that fails, of what is not so.
never : {P : Type 0} → (P → true ≡ false) → (false ≡ true) ↔ P
never n = (λ e. absurd (true≢false (sym e)), λ p. absurd (true≢false (n p)))

differ_holds : (σ τ : Sort) → (differ σ τ ≡ true) ↔ (τ ≢ σ)
unfolding differ
differ_holds formula = elim [ formula ↦ never (λ n. absurd (n refl)) | path ↦ (λ e p. absurd (true≢false cc), λ n. refl) ]
differ_holds path = elim [ formula ↦ (λ e p. absurd (true≢false cc), λ n. refl) | path ↦ never (λ n. absurd (n refl)) ]

path_differs : (σ : Sort) → (differ formula σ ≡ true) ↔ (σ ≡ path)
unfolding differ
path_differs = elim [ formula ↦ never (λ e. cc) | path ↦ (λ e. refl, λ e. refl) ]

unequal : (a b : ℕ) → (not (eqb a b) ≡ true) ↔ (a ≢ b)
unequal a b = Iff.trans (not_holds (eqb a b)) (eqb_fails a b)

-- Tests of which each is a fact.
module _ {a b : Bool} {P Q : Type 0} (p : (a ≡ true) ↔ P) (q : (b ≡ true) ↔ Q) where
  either : ((a || b) ≡ true) ↔ (P ⊎ Q)
  either = (λ e. ⊎_map p.0 q.0 ((or_holds a b).0 e), λ i. (or_holds a b).1 (⊎_map p.1 q.1 i))

  both : ((a && b) ≡ true) ↔ (P × Q)
  both = (
    λ e. let (x, y) = (and_holds a b).0 e in (p.0 x, q.0 y),
    λ (x, y). (and_holds a b).1 (p.1 x, q.1 y),
  )

-- Of three, one is so.
one_of_three : {P Q R : Type 0} → ((P ⊎ Q) ⊎ R) ↔ (P ⊎ Q ⊎ R)
one_of_three = (
  λ p. elim p [ inl q ↦ elim q [ inl a ↦ inl a | inr b ↦ inr (inl b) ] | inr c ↦ inr (inr c) ],
  λ p. elim p [ inl a ↦ inl (inl a) | inr q ↦ elim q [ inl b ↦ inl (inr b) | inr c ↦ inr c ] ],
)

-- ---- lengths and sizes
sizes_apply : (most W L : ℕ) (cells : List ℕ) → ((ground8_cells most W L cells).applies ≡ true) ↔ WrongSize most W L cells
unfolding ground8_cells
sizes_apply most W L cells =
    Iff.trans (either (either (either (ltb_holds _ _) (eqb_holds _ _)) (ltb_holds _ _)) (unequal _ _))
    (Iff.trans one_of_three one_of_three)

-- ---- one field
-- An unused field that is not zero, a child that is late, an atom that there isn't, a child of the wrong sort.
field_applies : (s : List ℕ) (r A v : ℕ) (u : Use) → ((stray u v ≡ true) ↔ ((u ≡ unused) × (v ≢ 0)))
    × ((late u v r ≡ true) ↔ ((σ : Sort) × (u ≡ child σ) × (r ≤ v))) × ((beyond u v A ≡ true) ↔ ((u ≡ atomNumber) × (A ≤ v)))
    × ((misfit s u v ≡ true) ↔ ((σ : Sort) × (u ≡ child σ) × (sort_of (kind_at s v) ≢ σ)))
unfolding stray late beyond misfit
field_applies s r A v unused =
    (Iff.trans (unequal v 0) (λ n. (refl, n), λ p. p.1), never (λ p. cc), never (λ p. cc), never (λ p. cc))
field_applies s r A v atomNumber =
    (never (λ p. cc), never (λ p. cc), Iff.trans (leb_holds A v) (λ l. (refl, l), λ p. p.1), never (λ p. cc))
field_applies s r A v (child σ) = (
  never (λ p. cc),
  Iff.trans (leb_holds r v) (λ l. (σ, refl, l), λ p. p.2),
  never (λ p. cc),
  Iff.trans (differ_holds σ _) (λ n. (σ, refl, n), λ (τ, e, n) d. n (d ∙ cc)),
)

-- ---- stars
star_is : (K : Kind) → (is_star K ≡ true) ↔ (K ≡ star)
unfolding is_star
star_is =
    by_kind _ (λ v. never (λ e. cc)) (never (λ e. cc)) (λ m. never (λ e. cc)) (λ w. never (λ e. cc)) (never (λ e. cc)) (never (λ e. cc))
    (never (λ e. cc)) (λ e. refl, λ e. refl) (λ σ. never (λ e. cc)) (never (λ e. cc))

-- ---- rules
word_applies : (W place w : ℕ) → (bad_literal W place w ≡ true) ↔ WrongWord W place w
unfolding bad_literal
word_applies W place w = either (leb_holds _ _) (both Iff.rfl (unequal _ _))

-- Something, or a number of which F is so; no number, and one more.
none_more : {a : Bool} {P : Type 0} (F : ℕ → Type 0) → ((a ≡ true) ↔ P) → (a ≡ true) ↔ (P ⊎ ((j : ℕ) × (0 < j) × (j < 1) × F j))
none_more F p = (λ e. inl (p.0 e), λ i. elim i [ inl x ↦ p.1 x | inr (j, a, b, f) ↦ absurd (omega arith) ])

one_more : {a b : Bool} {P : Type 0} (F : ℕ → Type 0) (n : ℕ) → 0 < n → ((a ≡ true) ↔ (P ⊎ ((j : ℕ) × (0 < j) × (j < n) × F j)))
    → ((b ≡ true) ↔ F n) → ((a || b) ≡ true) ↔ (P ⊎ ((j : ℕ) × (0 < j) × (j < suc n) × F j))
one_more F n z p q = Iff.trans (either p q) (
  λ i. elim i [ inl (inl x) ↦ inl x | inl (inr (j, a, b, f)) ↦ inr (j, a, omega arith, f) | inr f ↦ inr (n, z, le_refl _, f) ],
  λ i. elim i [ inl x ↦ inl (inl x) | inr (j, a, b, f) ↦ elim (below_suc b) [ inl e ↦ inr (rw e at f) | inr l ↦ inl (inr (j, a, l, f)) ] ],
)

rule_applies : (ws : List ℕ) (W i : ℕ) → ((ground13 ws W i).applies ≡ true) ↔ WrongRule ws W i
unfolding ground13 bad_rule rule_at
rule_applies ws W i =
    let F : ℕ → Type 0 = λ j. WrongWord W (rule_word ws i 0) (rule_word ws i j) in
    one_more F 5 (omega arith) (one_more F 4 (omega arith) (one_more F 3 (omega arith) (one_more F 2 (omega arith) (one_more F 1 (omega arith)
    (none_more F (ltb_holds _ _)) (word_applies W _ _)) (word_applies W _ _)) (word_applies W _ _)) (word_applies W _ _)) (word_applies W _ _)

-- ---- records
module _ (ℓ : Language) (s : List ℕ) (A : ℕ) where
  record_ordered : (r : ℕ) → Ordered (record_grounds ℓ s A r) (RecordRefused ℓ s A r) (position 2 r 0) (position 2 r 4)
  unfolding record_grounds ground2 ground3 ground4 ground5 ground6 given position_of
  record_ordered r =
      let field = field_applies s r A in
      ordered_cons refl (omega arith) (not_holds _)
      (ordered_cons refl (omega arith) (Iff.trans (either (either (unequal _ _) (field _ _).0) (field _ _).0) one_of_three)
      (ordered_cons refl (omega arith) (either (field _ _).1 (field _ _).1)
      (ordered_cons refl (omega arith) (either (field _ _).2 (field _ _).2)
      (ordered_one refl (omega arith) (either (field _ _).3 (field _ _).3)) (omega arith)) (omega arith)) (omega arith)) (omega arith)

  -- All records, the last, and each before it.
  pub tree_ordered : Ordered (tree_grounds ℓ s A) (TreeRefused ℓ s A) (position 2 0 0) (position 5 0 0)
  unfolding tree_grounds ground6_last ground7 given position_of
  tree_ordered =
      ordered_append (ordered_each 2 4 record_ordered (count s))
      (ordered_cons refl (omega arith) (path_differs _)
      (ordered_same (λ ρ. (λ (r, l, w). (r, omega arith, w), λ (r, l, w). (r, omega arith, w))) (omega arith)
      (ordered_each 4 0 (λ r. ordered_one refl (omega arith) (unequal _ _)) _)) (omega arith)) (omega arith)

  -- With the ground 8 of the service.
  formula_ordered : (g : Ground) (sizes : Type 0) → g.number ≡ 8 → ((g.applies ≡ true) ↔ sizes)
      → Ordered (ground1 s ∷ g ∷ tree_grounds ℓ s A) (FormulaRefused ℓ s A sizes) (position 0 0 0) (position 5 0 0)
  unfolding ground1 given position_of
  formula_ordered g sizes eight fact =
      ordered_cons refl (omega arith) (Iff.trans (either (either (eqb_holds _ _) (unequal _ _)) (ltb_holds _ _)) one_of_three)
      (ordered_cons eight (omega arith) fact tree_ordered (omega arith)) (omega arith)

-- ---- traces and buffers
cells_ordered : (cells : List ℕ) → Ordered (grounds9 cells) (CellRefused cells) (position 13 0 0) (position 13 (length cells) 0)
unfolding grounds9 given position_of
cells_ordered cells = ordered_each 13 0 (λ i. ordered_one refl (omega arith) (ltb_holds _ _)) (length cells)

room_ordered : (needed room : ℕ) → Ordered (ground10 needed room ∷ []) (no_room when (room < needed)) (position 14 0 0) (position 14 0 0)
unfolding ground10 given position_of
room_ordered needed room = ordered_one refl (omega arith) (ltb_holds _ _)

-- ---- the services
module _ (s : List ℕ) (A : ℕ) where
  -- Without a trace.
  pub atoms_ordered : (ℓ : Language) → Ordered (formula_grounds ℓ s A) (FormulaRefused ℓ s A (most_atoms < A)) (position 0 0 0) (position 5 0 0)
  unfolding ground8
  atoms_ordered ℓ = formula_ordered ℓ s A _ _ refl (ltb_holds _ _)

  pub check_ordered : Ordered (check_grounds s A) (CheckRefused s A) (position 0 0 0) (position 5 0 0)
  unfolding check_grounds
  check_ordered = atoms_ordered core

  pub expand_ordered : (room : ℕ) → Ordered (expand_grounds s A room) (ExpandRefused s A room) (position 0 0 0) (position 14 0 0)
  unfolding expand_grounds ground14 given position_of
  expand_ordered room =
      ordered_append (atoms_ordered full)
      (ordered_cons refl (omega arith) (ltb_holds _ _) (room_ordered _ room) (omega arith)) (omega arith)

  pub value_ordered : (L : ℕ) (cells : List ℕ) (room : ℕ)
      → Ordered (value_grounds s A L cells room) (ValueRefused s A L cells room) (position 0 0 0) (position 14 0 0)
  unfolding value_grounds ground8_cells
  value_ordered L cells room =
      ordered_append (formula_ordered core s A _ _ refl (sizes_apply _ A L cells))
      (ordered_append (cells_ordered cells) (room_ordered _ room) (omega arith)) (omega arith)

  pub starred_ordered : Ordered (starred_grounds s A) (λ ρ. CheckRefused s A ρ ⊎ ((r : ℕ) × (r < count s) × StarRefused s r ρ))
      (position 0 0 0) (position 5 (count s) 0)
  unfolding star_grounds ground11 ground12 given position_of
  starred_ordered =
      ordered_append check_ordered (ordered_each 5 1 (λ r. ordered_cons refl (omega arith)
      (Iff.trans (both (star_is _) (both Iff.rfl Iff.rfl)) (λ (k, (a, b)). (k, a, b), λ (k, a, b). (k, (a, b))))
      (ordered_one refl (omega arith) (both (star_is _) Iff.rfl)) (omega arith)) (count s)) (omega arith)

  pub translate_ordered : (room : ℕ)
      → Ordered (translate_grounds s A room) (TranslateRefused s A room) (position 0 0 0) (position 14 0 0)
  unfolding translate_grounds
  translate_ordered room =
      rw (translation_counted s A)
      (ordered_same (λ ρ. one_of_three) (omega arith) (ordered_append starred_ordered (room_ordered _ room) (omega arith)))

-- ---- text
back_is : (K : Kind) → (is_back K ≡ true) ↔ (K ≡ move back)
unfolding is_back is_ahead
back_is =
    by_kind _ (λ v. never (λ e. cc)) (never (λ e. cc)) (λ m. never (λ e. cc)) (elim [ ahead ↦ never (λ e. cc) | back ↦ (λ e. refl, λ e. refl) ])
    (never (λ e. cc)) (never (λ e. cc)) (never (λ e. cc)) (never (λ e. cc)) (λ σ. never (λ e. cc)) (never (λ e. cc))

-- What is not read is the text of no formula.
unread_is : (t : List ℕ) → (not (is_read (read t)) ≡ true) ↔ ((F : Form) → Spells F t → ⊥)
unfolding is_read
unread_is t = go (read t) refl
  where
    go : (x : Option Form) → read t ≡ x → (not (is_read x) ≡ true) ↔ ((F : Form) → Spells F t → ⊥)
    go none e = (λ h F s. not_found F (sym e ∙ spelled t F s), λ h. refl)
    go (some F) e = (λ h. absurd (true≢false (sym h)), λ h. absurd (h F (reads t F e)))

pub write_ordered : (s : List ℕ) (A room : ℕ) → Ordered (write_grounds s A room) (WriteRefused s A room) (position 0 0 0) (position 14 0 0)
unfolding write_grounds ground18 given position_of
write_ordered s A room =
    ordered_append (check_ordered s A)
    (ordered_append (ordered_each 6 0 (λ r. ordered_one refl (omega arith) (back_is _)) (count s)) (room_ordered _ room) (omega arith)) (omega arith)

pub read_ordered : (t : List ℕ) (A room : ℕ) → Ordered (read_grounds t A room) (ReadRefused t A room) (position 1 0 0) (position 14 0 0)
unfolding read_grounds ground5 ground8 ground14_text ground19 ground14 given position_of
read_ordered t A room =
    let field = field_applies (postorder (form_in t)) 0 A in
    ordered_cons refl (omega arith) (ltb_holds _ _)
    (ordered_cons refl (omega arith) (ltb_holds _ _)
    (ordered_cons refl (omega arith) (unread_is t)
    (ordered_cons refl (omega arith) (ltb_holds _ _)
    (ordered_append (ordered_each 10 0 (λ r. ordered_one refl (omega arith) (either (field _ _).2 (field _ _).2)) (form_size (form_in t)))
    (room_ordered _ room) (omega arith)) (omega arith)) (omega arith)) (omega arith)) (omega arith)

pub judge_ordered : (ws : List ℕ) (W L : ℕ) (cells : List ℕ)
    → Ordered (judge_grounds ws W L cells) (JudgeRefused ws W L cells) (position 1 0 0) (position 13 (length cells) 0)
unfolding judge_grounds ground8_cells ground13_length ground13 given position_of
judge_ordered ws W L cells =
    ordered_cons refl (omega arith) (sizes_apply _ W L cells)
    (ordered_cons refl (omega arith) (either (unequal _ _) (ltb_holds _ _))
    (ordered_append (ordered_each 12 0 (λ i. ordered_one refl (omega arith) (rule_applies ws W i)) (rule_count ws))
    (cells_ordered cells) (omega arith)) (omega arith)) (omega arith)
