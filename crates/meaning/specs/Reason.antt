-- Specification, Refusals: each reason to refuse as a plain fact, the number that it gives, and which comes before which.
--   Reason                the reasons; r is the record, i the rule or the cell, that a reason is about; an unknown atom is a text's
--   given ρ               the number that is given back for it
--   Before σ ρ            σ comes before ρ
--   First Applies x       x is the number of the first reason that applies; 0 if none does
--   (σ when P) ρ          ρ is the reason σ, and the fact P is so
--   FormulaRefused ..     what every service asks of the records; CheckRefused .. what each service refuses
use Rattle.std.specs.Prelude.{ℕ, suc, pred, ◌+◌, ◌*◌, ◌%◌, ◌<◌, ◌≤◌, ◌≡◌, true, false, ◌⊎◌, ◌≢◌, List, length, get_or}
use Rattle.meaning.specs.Record.{Language, core, full, known, record_size, most_records, count, zero_byte, field_a, field_b, kind_at, move, star, Sort, path, sort_of}
use Rattle.meaning.specs.Record.{Use, unused, atomNumber, child, use_a, use_b, places, ahead, back}
use Rattle.meaning.specs.Formula.{Form, may_stand, goes}
use Rattle.meaning.specs.Tree.{path_at, form_size, postorder}
use Rattle.meaning.specs.Text.{whole_text, most_text, Spells, form_in}
use Rattle.meaning.specs.Rule.{rule_size, rule_word, symbol_of, is_previous}
use Rattle.meaning.specs.Translation.{rule_sum}
use Rattle.meaning.specs.Judge.{rule_count}
use Rattle.meaning.specs.Refusal.{most_atoms, most_instants, most_columns, most_rules, whole_form}

-- ---- the reasons
pub data Reason : Type 0 where
  wrongLength wrongSize : Reason
  unknownKind notZero lateChild noSuchAtom wrongSort : ℕ → Reason
  last_is_path : Reason
  notOneParent starTurns starStands noSign : ℕ → Reason
  longText noText tooLong : Reason
  unknown_atom : ℕ → Reason
  wrong_words : Reason
  wrongRule wrongCell : ℕ → Reason
  no_room : Reason

unfoldable pub given : Reason → ℕ
given wrongLength = 1
given wrongSize = 8
given (unknownKind r) = 2
given (notZero r) = 3
given (lateChild r) = 4
given (noSuchAtom r) = 5
given (wrongSort r) = 6
given last_is_path = 6
given (notOneParent r) = 7
given (starTurns r) = 12
given (starStands r) = 11
given (noSign r) = 18
given longText = 14
given noText = 19
given tooLong = 14
given (unknown_atom r) = 5
given wrong_words = 13
given (wrongRule i) = 13
given (wrongCell i) = 9
given no_room = 10

-- ---- the order: stage by stage; in a stage record by record, rule by rule, or cell by cell; of one record, in turn
pub record Position : Type 0 where
  pub stage : ℕ
  pub index : ℕ
  pub turn : ℕ

abbrev pub position : ℕ → ℕ → ℕ → Position
position stage index turn = record { stage = stage; index = index; turn = turn }

unfoldable pub position_of : Reason → Position
position_of wrongLength = position 0 0 0
position_of wrongSize = position 1 0 0
position_of (unknownKind r) = position 2 r 0
position_of (notZero r) = position 2 r 1
position_of (lateChild r) = position 2 r 2
position_of (noSuchAtom r) = position 2 r 3
position_of (wrongSort r) = position 2 r 4
position_of last_is_path = position 3 0 0
position_of (notOneParent r) = position 4 r 0
position_of (starTurns r) = position 5 r 0
position_of (starStands r) = position 5 r 1
position_of (noSign r) = position 6 r 0
position_of longText = position 7 0 0
position_of noText = position 8 0 0
position_of tooLong = position 9 0 0
position_of (unknown_atom r) = position 10 r 0
position_of wrong_words = position 11 0 0
position_of (wrongRule i) = position 12 i 0
position_of (wrongCell i) = position 13 i 0
position_of no_room = position 14 0 0

abbrev pub Earlier : Position → Position → Type 0
Earlier p q =
    (p.stage < q.stage)
    ⊎ ((p.stage ≡ q.stage) × ((p.index < q.index) ⊎ ((p.index ≡ q.index) × (p.turn < q.turn))))

abbrev pub Before : Reason → Reason → Type 0
Before σ ρ = Earlier (position_of σ) (position_of ρ)

pub record First (Applies : Reason → Type 0) (x : ℕ) : Type 0 where
  pub none : x ≡ 0 → (ρ : Reason) → Applies ρ → ⊥
  pub some : x ≢ 0 → (ρ : Reason) × Applies ρ × (given ρ ≡ x) × ((σ : Reason) → Before σ ρ → Applies σ → ⊥)

-- ---- the facts
infix 20 ◌when◌
abbrev pub ◌when◌ : Reason → Type 0 → Reason → Type 0
(σ when P) ρ = (ρ ≡ σ) × P

-- Of a trace with rows of W cells, at most `most`; and of its cells.
abbrev pub WrongSize : ℕ → ℕ → ℕ → List ℕ → Type 0
WrongSize most W L cells = (most < W) ⊎ (L ≡ 0) ⊎ (most_instants < L) ⊎ (length cells ≢ W * L)

abbrev pub CellRefused : List ℕ → Reason → Type 0
CellRefused cells ρ = (i : ℕ) × (i < length cells) × (wrongCell i when (2 < get_or cells i 0)) ρ

-- One of the two fields of record r is of a use and holds a number of which this is so.
abbrev pub InField : List ℕ → ℕ → (Use → ℕ → Type 0) → Type 0
InField s r P = P (use_a (kind_at s r)) (field_a s r) ⊎ P (use_b (kind_at s r)) (field_b s r)

-- Of records; ℓ is the language that the service takes.
module _ (ℓ : Language) (s : List ℕ) (A : ℕ) where
  abbrev pub RecordRefused : ℕ → Reason → Type 0
  RecordRefused r ρ =
      (unknownKind r when (known ℓ (kind_at s r) ≡ false)) ρ
      ⊎ (notZero r when ((zero_byte s r ≢ 0) ⊎ InField s r (λ u v. (u ≡ unused) × (v ≢ 0)))) ρ
      ⊎ (lateChild r when InField s r (λ u v. (σ : Sort) × (u ≡ child σ) × (r ≤ v))) ρ
      ⊎ (noSuchAtom r when InField s r (λ u v. (u ≡ atomNumber) × (A ≤ v))) ρ
      ⊎ (wrongSort r when InField s r (λ u v. (σ : Sort) × (u ≡ child σ) × (sort_of (kind_at s v) ≢ σ))) ρ

  abbrev pub TreeRefused : Reason → Type 0
  TreeRefused ρ =
      ((r : ℕ) × (r < count s) × RecordRefused r ρ)
      ⊎ (last_is_path when (sort_of (kind_at s (pred (count s))) ≡ path)) ρ
      ⊎ ((r : ℕ) × (suc r < count s) × (notOneParent r when (places s r ≢ 1)) ρ)

  abbrev pub FormulaRefused : Type 0 → Reason → Type 0
  FormulaRefused sizes ρ =
      (wrongLength when ((length s ≡ 0) ⊎ (length s % record_size ≢ 0) ⊎ (record_size * most_records < length s))) ρ
      ⊎ (wrongSize when sizes) ρ ⊎ TreeRefused ρ

-- ---- the services
abbrev pub CheckRefused : List ℕ → ℕ → Reason → Type 0
CheckRefused s A = FormulaRefused core s A (most_atoms < A)

abbrev pub ExpandRefused : List ℕ → ℕ → ℕ → Reason → Type 0
ExpandRefused s A room ρ =
    FormulaRefused full s A (most_atoms < A) ρ
    ⊎ (tooLong when (most_records < whole_form s)) ρ ⊎ (no_room when (room < record_size * whole_form s)) ρ

abbrev pub ValueRefused : List ℕ → ℕ → ℕ → List ℕ → ℕ → Reason → Type 0
ValueRefused s A L cells room ρ =
    FormulaRefused core s A (WrongSize most_atoms A L cells) ρ
    ⊎ CellRefused cells ρ ⊎ (no_room when (room < count s * L)) ρ

-- Of the star r: its body has both directions, or may stand still.
abbrev pub StarRefused : List ℕ → ℕ → Reason → Type 0
StarRefused s r ρ =
    let body = path_at s (field_a s r) in
    (starTurns r when ((kind_at s r ≡ star) × (goes ahead body ≡ true) × (goes back body ≡ true))) ρ
    ⊎ (starStands r when ((kind_at s r ≡ star) × (may_stand body ≡ true))) ρ

abbrev pub TranslateRefused : List ℕ → ℕ → ℕ → Reason → Type 0
TranslateRefused s A room ρ =
    CheckRefused s A ρ ⊎ ((r : ℕ) × (r < count s) × StarRefused s r ρ)
    ⊎ (no_room when (room < rule_size * (rule_sum s (count s) + 1))) ρ

-- Of text: the records are those that the formula takes.
abbrev pub WriteRefused : List ℕ → ℕ → ℕ → Reason → Type 0
WriteRefused s A room ρ =
    CheckRefused s A ρ ⊎ ((r : ℕ) × (r < count s) × (noSign r when (kind_at s r ≡ move back)) ρ)
    ⊎ (no_room when (room < length (whole_text s))) ρ

abbrev pub ReadRefused : List ℕ → ℕ → ℕ → Reason → Type 0
ReadRefused t A room ρ =
    (wrongSize when (most_atoms < A)) ρ ⊎ (longText when (most_text < length t)) ρ
    ⊎ (noText when ((F : Form) → Spells F t → ⊥)) ρ ⊎ (tooLong when (most_records < form_size (form_in t))) ρ
    ⊎ ((r : ℕ) × (r < form_size (form_in t)) × (unknown_atom r when InField (postorder (form_in t)) r (λ u v. (u ≡ atomNumber) × (A ≤ v))) ρ)
    ⊎ (no_room when (room < record_size * form_size (form_in t))) ρ

-- Of rule i: a place that there isn't, a symbol that is no column, or the previous instant outside place 2.
abbrev pub WrongWord : ℕ → ℕ → ℕ → Type 0
WrongWord W place w = (2 + W ≤ symbol_of w) ⊎ ((is_previous w ≡ true) × (place ≢ 2))

abbrev pub WrongRule : List ℕ → ℕ → ℕ → Type 0
WrongRule ws W i =
    (3 < rule_word ws i 0) ⊎ ((j : ℕ) × (0 < j) × (j < rule_size) × WrongWord W (rule_word ws i 0) (rule_word ws i j))

abbrev pub JudgeRefused : List ℕ → ℕ → ℕ → List ℕ → Reason → Type 0
JudgeRefused ws W L cells ρ =
    (wrongSize when WrongSize most_columns W L cells) ρ
    ⊎ (wrong_words when ((length ws % rule_size ≢ 0) ⊎ (rule_size * most_rules < length ws))) ρ
    ⊎ ((i : ℕ) × (i < rule_count ws) × (wrongRule i when WrongRule ws W i) ρ)
    ⊎ CellRefused cells ρ
