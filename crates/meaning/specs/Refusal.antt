-- Specification, Refusals: each condition by its number, each service's order as a list of them.
--   Ground            a number to give back, and whether it applies
--   of_first what grounds   what is asked of the first that applies, 0 if none does
--   first_of grounds   its number
--   ground1 ..        the conditions, s being the record bytes, r a record, A the number of atoms
--   check_grounds ..   a service's conditions in their order
use Rattle.std.specs.Prelude.{ℕ, pred, ◌+◌, ◌*◌, ◌%◌, Bool, true, false, cond, not, ◌&&◌, ◌||◌, List, [], ◌∷◌, ◌++◌, length, get_or, leb, ltb, eqb}
use Rattle.meaning.specs.Run.{each}
use Rattle.meaning.specs.Record.{Language, core, full, record_size, most_records, count, zero_byte, field_a, field_b, kind_at, Kind, Sort, Use, unused, atomNumber, child, use_a, use_b, sort_of, known, ahead, back, places}
use Rattle.meaning.specs.Formula.{may_stand, goes}
use Rattle.meaning.specs.Tree.{form_at, path_at, form_size, postorder}
use Rattle.meaning.specs.Rule.{Rule, rule_size, rule_at, symbol_of, is_previous}
use Rattle.meaning.specs.Translation.{translation}
use Rattle.meaning.specs.Judge.{rule_count}
use Rattle.meaning.specs.Text.{whole_text, is_ahead, most_text, read, is_read, form_in}

pub record Ground : Type 0 where
  pub number : ℕ
  pub applies : Bool

abbrev pub ground : ℕ → Bool → Ground
ground n b = record { number = n; applies = b }

unfoldable pub of_first : (Ground → ℕ) → List Ground → ℕ
of_first what [] = 0
of_first what (g ∷ gs) = cond g.applies (what g) (of_first what gs)

abbrev pub first_of : List Ground → ℕ
first_of = of_first (λ g. g.number)

-- ---- the record bytes
-- 1: empty, not a multiple of a record's size, or too many.
unfoldable pub ground1 : List ℕ → Ground
ground1 s = ground 1 (eqb (length s) 0 || not (eqb (length s % record_size) 0) || ltb (record_size * most_records) (length s))

-- 2: a kind that this service does not know.
unfoldable pub ground2 : Language → List ℕ → ℕ → Ground
ground2 ℓ s r = ground 2 (not (known ℓ (kind_at s r)))

-- 3: the zero byte or an unused field isn't zero.
unfoldable pub stray : Use → ℕ → Bool
stray unused v = not (eqb v 0)
stray atomNumber v = false
stray (child sort) v = false

unfoldable pub ground3 : List ℕ → ℕ → Ground
ground3 s r = ground 3 (not (eqb (zero_byte s r) 0) || stray (use_a (kind_at s r)) (field_a s r) || stray (use_b (kind_at s r)) (field_b s r))

-- 4: a child isn't earlier than its parent.
unfoldable pub late : Use → ℕ → ℕ → Bool
late unused v r = false
late atomNumber v r = false
late (child sort) v r = leb r v

unfoldable pub ground4 : List ℕ → ℕ → Ground
ground4 s r = ground 4 (late (use_a (kind_at s r)) (field_a s r) r || late (use_b (kind_at s r)) (field_b s r) r)

-- 5: an atom number A or more.
unfoldable pub beyond : Use → ℕ → ℕ → Bool
beyond unused v A = false
beyond atomNumber v A = leb A v
beyond (child sort) v A = false

unfoldable pub ground5 : List ℕ → ℕ → ℕ → Ground
ground5 s A r = ground 5 (beyond (use_a (kind_at s r)) (field_a s r) A || beyond (use_b (kind_at s r)) (field_b s r) A)

-- 6: a child of the wrong sort; or the last record is a path.
unfoldable pub differ : Sort → Sort → Bool
differ Sort.formula Sort.formula = false
differ Sort.formula Sort.path = true
differ Sort.path Sort.formula = true
differ Sort.path Sort.path = false

unfoldable pub misfit : List ℕ → Use → ℕ → Bool
misfit s unused v = false
misfit s atomNumber v = false
misfit s (child sort) v = differ sort (sort_of (kind_at s v))

unfoldable pub ground6 : List ℕ → ℕ → Ground
ground6 s r = ground 6 (misfit s (use_a (kind_at s r)) (field_a s r) || misfit s (use_b (kind_at s r)) (field_b s r))

unfoldable pub ground6_last : List ℕ → Ground
ground6_last s = ground 6 (differ Sort.formula (sort_of (kind_at s (pred (count s)))))

-- 7: the record r is the child of no place or of several.
unfoldable pub ground7 : List ℕ → ℕ → Ground
ground7 s r = ground 7 (not (eqb (places s r) 1))

-- ---- sizes and cells
-- 8: too many atoms; and, where there is a trace, L not 1 to 32 or cells of the wrong length. The judge's width W is 0 to 287.
abbrev pub most_atoms : ℕ
most_atoms = 32

abbrev pub most_instants : ℕ
most_instants = 32

abbrev pub most_columns : ℕ
most_columns = 287

unfoldable pub ground8 : ℕ → Ground
ground8 A = ground 8 (ltb most_atoms A)

unfoldable pub ground8_cells : ℕ → ℕ → ℕ → List ℕ → Ground
ground8_cells most W L cells = ground 8 (ltb most W || eqb L 0 || ltb most_instants L || not (eqb (length cells) (W * L)))

-- 9: a cell over 2.
unfoldable pub grounds9 : List ℕ → List Ground
grounds9 cells = each (length cells) (λ i. ground 9 (ltb 2 (get_or cells i 0)) ∷ [])

-- 10: output shorter than needed.
unfoldable pub ground10 : ℕ → ℕ → Ground
ground10 needed room = ground 10 (ltb room needed)

-- ---- the translator's stars
unfoldable pub is_star : Kind → Bool
is_star (Kind.constant v) = false
is_star Kind.atom = false
is_star (Kind.modal m) = false
is_star (Kind.move w) = false
is_star Kind.test = false
is_star Kind.choice = false
is_star Kind.sequence = false
is_star Kind.star = true
is_star (Kind.shorthand σ) = false
is_star Kind.unknown = false

-- 11: a star's body may stand still.
unfoldable pub ground11 : List ℕ → ℕ → Ground
ground11 s r = ground 11 (is_star (kind_at s r) && may_stand (path_at s (field_a s r)))

-- 12: a star's body has step and back step.
unfoldable pub ground12 : List ℕ → ℕ → Ground
ground12 s r = ground 12 (is_star (kind_at s r) && (goes ahead (path_at s (field_a s r)) && goes back (path_at s (field_a s r))))

-- ---- the judge's rules
-- 13: the words are not a multiple of 6 or over 6,126; a place over 3, a symbol 2 + W or more, or previous outside place 2.
abbrev pub most_rules : ℕ
most_rules = 1_021

unfoldable pub ground13_length : List ℕ → Ground
ground13_length ws = ground 13 (not (eqb (length ws % rule_size) 0) || ltb (rule_size * most_rules) (length ws))

unfoldable pub bad_literal : ℕ → ℕ → ℕ → Bool
bad_literal W place w = leb (2 + W) (symbol_of w) || is_previous w && not (eqb place 2)

unfoldable pub bad_rule : ℕ → Rule → Bool
bad_rule W ρ =
    ltb 3 ρ.place
    || bad_literal W ρ.place ρ.body1 || bad_literal W ρ.place ρ.body2
    || bad_literal W ρ.place ρ.head1 || bad_literal W ρ.place ρ.head2 || bad_literal W ρ.place ρ.head3

unfoldable pub ground13 : List ℕ → ℕ → ℕ → Ground
ground13 ws W i = ground 13 (bad_rule W (rule_at ws i))

-- ---- sizes
-- 14: over 255 records would be written.
unfoldable pub ground14 : ℕ → Ground
ground14 n = ground 14 (ltb most_records n)

-- ---- text
-- 14: text of more bytes than any formula takes.
unfoldable pub ground14_text : List ℕ → Ground
ground14_text t = ground 14 (ltb most_text (length t))

unfoldable pub is_back : Kind → Bool
is_back (Kind.constant v) = false
is_back Kind.atom = false
is_back (Kind.modal m) = false
is_back (Kind.move w) = not (is_ahead w)
is_back Kind.test = false
is_back Kind.choice = false
is_back Kind.sequence = false
is_back Kind.star = false
is_back (Kind.shorthand σ) = false
is_back Kind.unknown = false

-- 18: a back step, which has no sign.
unfoldable pub ground18 : List ℕ → ℕ → Ground
ground18 s r = ground 18 (is_back (kind_at s r))

-- 19: the text of no formula.
unfoldable pub ground19 : List ℕ → Ground
ground19 t = ground 19 (not (is_read (read t)))

-- ---- the orders
-- How many records the whole formula takes with its shorthands written out.
abbrev pub whole_form : List ℕ → ℕ
whole_form s = form_size (form_at s (pred (count s)))

-- Records from the first, each 2, 3, 4, 5, 6; the last record's sort; 7.
unfoldable pub record_grounds : Language → List ℕ → ℕ → ℕ → List Ground
record_grounds ℓ s A r = ground2 ℓ s r ∷ ground3 s r ∷ ground4 s r ∷ ground5 s A r ∷ ground6 s r ∷ []

unfoldable pub tree_grounds : Language → List ℕ → ℕ → List Ground
tree_grounds ℓ s A = each (count s) (record_grounds ℓ s A) ++ (ground6_last s ∷ each (pred (count s)) (λ r. ground7 s r ∷ []))

unfoldable pub star_grounds : List ℕ → List Ground
star_grounds s = each (count s) (λ r. ground12 s r ∷ ground11 s r ∷ [])

-- What the services without a trace ask of the formula.
abbrev pub formula_grounds : Language → List ℕ → ℕ → List Ground
formula_grounds ℓ s A = ground1 s ∷ ground8 A ∷ tree_grounds ℓ s A

unfoldable pub check_grounds : List ℕ → ℕ → List Ground
check_grounds s A = formula_grounds core s A

unfoldable pub expand_grounds : List ℕ → ℕ → ℕ → List Ground
expand_grounds s A room = formula_grounds full s A ++ (ground14 (whole_form s) ∷ ground10 (record_size * whole_form s) room ∷ [])

unfoldable pub value_grounds : List ℕ → ℕ → ℕ → List ℕ → ℕ → List Ground
value_grounds s A L cells room =
    ground1 s ∷ ground8_cells most_atoms A L cells ∷ tree_grounds core s A ++ (grounds9 cells ++ (ground10 (count s * L) room ∷ []))

-- What the translator asks of the formula, and then of the room.
abbrev pub starred_grounds : List ℕ → ℕ → List Ground
starred_grounds s A = check_grounds s A ++ star_grounds s

unfoldable pub translate_grounds : List ℕ → ℕ → ℕ → List Ground
translate_grounds s A room = starred_grounds s A ++ (ground10 (rule_size * length (translation s A)) room ∷ [])

-- Of each record, a back step.
abbrev pub back_grounds : List ℕ → List Ground
back_grounds s = each (count s) (λ r. ground18 s r ∷ [])

-- Of the first n records of e: 5 of each, and then 10.
abbrev pub atom_grounds : List ℕ → ℕ → ℕ → List Ground
atom_grounds e n A = each n (λ r. ground5 e A r ∷ [])

abbrev pub records_grounds : List ℕ → ℕ → ℕ → ℕ → List Ground
records_grounds e n A room = atom_grounds e n A ++ (ground10 (record_size * n) room ∷ [])

-- Of the text: its form. Of the formula that it is: 14; of the records that would be written, 5; and 10.
abbrev pub form_grounds : List ℕ → ℕ → List Ground
form_grounds t A = ground8 A ∷ ground14_text t ∷ ground19 t ∷ ground14 (form_size (form_in t)) ∷ []

unfoldable pub read_grounds : List ℕ → ℕ → ℕ → List Ground
read_grounds t A room = form_grounds t A ++ records_grounds (postorder (form_in t)) (form_size (form_in t)) A room

unfoldable pub write_grounds : List ℕ → ℕ → ℕ → List Ground
write_grounds s A room = check_grounds s A ++ (back_grounds s ++ (ground10 (length (whole_text s)) room ∷ []))

unfoldable pub judge_grounds : List ℕ → ℕ → ℕ → List ℕ → List Ground
judge_grounds ws W L cells =
    ground8_cells most_columns W L cells ∷ ground13_length ws ∷ each (rule_count ws) (λ i. ground13 ws W i ∷ []) ++ grounds9 cells
