-- Specification, Examples: those that speak of values, rule counts and refusals, from their record bytes through the definitions.
--   Expands short long          the expander takes `short` to the records `long`
--   WholeRow s A L cells row       valuing accepts, and the whole formula has the values `row`
--   Rules s A n                 the translator accepts, and gives n rules
--   Refused s A number          the translator refuses with this number
--   Starred                     the examples that the document marks to be proved
--   Others                      example N, and the printed translation of ⟨step⟩p
--   Since                       "p since q" at and after the instant of q
--   Fillings                      the judge over traces filled with labels, right ones and wrong ones
--   Texted s A t                the records s are written as the text t, and t is read as them
--   Unread A t number           reading t is refused with this number
--   Texts                       formulas as text
use Rattle.std.specs.Prelude.{ℕ, pred, ◌+◌, ◌*◌, ◌≡◌, false, List, [], ◌∷◌, ◌++◌, length, drop, replicate}
use Rattle.meaning.specs.Record.{count, Kind, diamond, box, Way, Shorthand, record_bytes}
use Rattle.meaning.specs.Rule.{rule_size, words}
use Rattle.meaning.specs.Translation.{other_rules}
use Rattle.meaning.specs.Service.{Counted, Judged, judged, judge_answer, expand_answer, expand_after, value_answer, value_after, translate_answer, translate_after, write_answer, write_after, read_answer, read_after}
use Rattle.meaning.specs.Text.{ascii, most_text}

-- ---- what an example says; the lent buffers hold 7 before
abbrev counted : ℕ → ℕ → Counted
counted refusal count = record { refusal = refusal; count = count }

abbrev room : ℕ → List ℕ
room n = replicate n 7

pub record Expands (short long : List ℕ) (A : ℕ) : Type 0 where
  pub answer : expand_answer short A (length long) ≡ counted 0 (count long)
  pub records : expand_after short A (room (length long)) ≡ long

pub record WholeRow (s : List ℕ) (A L : ℕ) (cells row : List ℕ) : Type 0 where
  pub accepted : (value_answer s A L cells (count s * L)).refusal ≡ 0
  pub values : drop (pred (count s) * L) (value_after s A L cells (room (count s * L))) ≡ row

abbrev pub Rules : List ℕ → ℕ → ℕ → Type 0
Rules s A n = translate_answer s A (rule_size * n) ≡ counted 0 n

abbrev pub Refused : List ℕ → ℕ → ℕ → Type 0
Refused s A number = translate_answer s A 0 ≡ counted number 0

-- ---- the formulas: p is atom 0, q is atom 1
abbrev p : List ℕ
p = record_bytes Kind.atom 0 0

abbrev q : List ℕ
q = record_bytes Kind.atom 1 0

abbrev step : List ℕ
step = record_bytes (Kind.move Way.ahead) 0 0

abbrev back : List ℕ
back = record_bytes (Kind.move Way.back) 0 0

-- p until q: ⟨(p? ; step)*⟩q
abbrev pub until_short : List ℕ
until_short = p ++ q ++ record_bytes (Kind.shorthand Shorthand.until) 0 1

abbrev pub until : List ℕ
until = p ++ record_bytes Kind.test 0 0 ++ step ++ record_bytes Kind.sequence 1 2 ++ record_bytes Kind.star 3 0 ++ q ++ record_bytes (Kind.modal diamond) 4 5

-- p since q: ⟨(p? ; back)*⟩q, and not ⟨(back ; p?)*⟩q
abbrev pub since_short : List ℕ
since_short = p ++ q ++ record_bytes (Kind.shorthand Shorthand.since) 0 1

abbrev pub since : List ℕ
since = p ++ record_bytes Kind.test 0 0 ++ back ++ record_bytes Kind.sequence 1 2 ++ record_bytes Kind.star 3 0 ++ q ++ record_bytes (Kind.modal diamond) 4 5

abbrev pub since_wrong : List ℕ
since_wrong = back ++ p ++ record_bytes Kind.test 1 0 ++ record_bytes Kind.sequence 0 2 ++ record_bytes Kind.star 3 0 ++ q ++ record_bytes (Kind.modal diamond) 4 5

-- [(step ; step)*]p
abbrev pub every_second : List ℕ
every_second = step ++ step ++ record_bytes Kind.sequence 0 1 ++ record_bytes Kind.star 2 0 ++ p ++ record_bytes (Kind.modal box) 3 4

-- ⟨(p?)*⟩q
abbrev pub standing : List ℕ
standing = p ++ record_bytes Kind.test 0 0 ++ record_bytes Kind.star 1 0 ++ q ++ record_bytes (Kind.modal diamond) 2 3

-- ⟨(step + back)*⟩p
abbrev pub turning : List ℕ
turning = step ++ back ++ record_bytes Kind.choice 0 1 ++ record_bytes Kind.star 2 0 ++ p ++ record_bytes (Kind.modal diamond) 3 4

-- ⟨back*⟩p
abbrev pub once_p : List ℕ
once_p = back ++ record_bytes Kind.star 0 0 ++ p ++ record_bytes (Kind.modal diamond) 1 2

-- final: [step]false
abbrev pub final : List ℕ
final = step ++ record_bytes (Kind.constant false) 0 0 ++ record_bytes (Kind.modal box) 0 1

-- p implies q: [p?]q
abbrev pub implies_short : List ℕ
implies_short = p ++ q ++ record_bytes (Kind.shorthand Shorthand.implies) 0 1

abbrev pub implies : List ℕ
implies = p ++ record_bytes Kind.test 0 0 ++ q ++ record_bytes (Kind.modal box) 1 2

-- not p: [p?]false
abbrev pub not_short : List ℕ
not_short = p ++ record_bytes (Kind.shorthand Shorthand.denied) 0 0

abbrev pub not_p : List ℕ
not_p = p ++ record_bytes Kind.test 0 0 ++ record_bytes (Kind.constant false) 0 0 ++ record_bytes (Kind.modal box) 1 2

-- ⟨step⟩p and [step]p
abbrev pub next_p : List ℕ
next_p = step ++ p ++ record_bytes (Kind.modal diamond) 0 1

abbrev pub weak_next_p : List ℕ
weak_next_p = step ++ p ++ record_bytes (Kind.modal box) 0 1

-- ---- the examples
pub record Starred : Type 0 where
  pub a : WholeRow until 2 3 (2 ∷ 0 ∷ 1 ∷ 0 ∷ 0 ∷ 2 ∷ []) (1 ∷ 1 ∷ 2 ∷ [])
  pub a_expands : Expands until_short until 2
  pub b : WholeRow until 2 3 (2 ∷ 0 ∷ 2 ∷ 0 ∷ 0 ∷ 2 ∷ []) (2 ∷ 2 ∷ 2 ∷ [])
  pub b_rules : Rules until 2 18
  pub c : WholeRow every_second 1 4 (2 ∷ 0 ∷ 2 ∷ 0 ∷ []) (2 ∷ 0 ∷ 2 ∷ 0 ∷ [])
  pub c_rules : Rules every_second 1 16
  pub d : WholeRow standing 2 1 (2 ∷ 0 ∷ []) (0 ∷ [])
  pub d_refused : Refused standing 2 11
  pub e : WholeRow turning 1 3 (0 ∷ 0 ∷ 1 ∷ []) (1 ∷ 1 ∷ 1 ∷ [])
  pub e_refused : Refused turning 1 12
  pub f : WholeRow once_p 1 2 (2 ∷ 0 ∷ []) (2 ∷ 2 ∷ [])
  pub f_rules : Rules once_p 1 11
  pub g : WholeRow final 0 2 [] (0 ∷ 2 ∷ [])
  pub g_expands : Expands (record_bytes (Kind.shorthand (Shorthand.end Way.ahead)) 0 0) final 0
  pub h : WholeRow implies 2 1 (1 ∷ 1 ∷ []) (2 ∷ [])
  pub h_expands : Expands implies_short implies 2
  pub i : WholeRow implies 2 1 (2 ∷ 1 ∷ []) (1 ∷ [])
  pub j : WholeRow implies 2 1 (1 ∷ 0 ∷ []) (0 ∷ [])
  pub k : WholeRow implies 2 1 (0 ∷ 0 ∷ []) (2 ∷ [])
  pub m : WholeRow not_p 1 1 (1 ∷ []) (0 ∷ [])
  pub m_expands : Expands not_short not_p 1

pub record Others : Type 0 where
  pub n_box : WholeRow weak_next_p 1 1 (0 ∷ []) (2 ∷ [])
  pub n_diamond : WholeRow next_p 1 1 (2 ∷ []) (0 ∷ [])
  pub printed : translate_after next_p 32 (room 48)
      ≡ (2 ∷ 16_418 ∷ 1 ∷ 35 ∷ 0 ∷ 0 ∷ [])
      ++ (2 ∷ 35 ∷ 1 ∷ 16_418 ∷ 0 ∷ 0 ∷ [])
      ++ (3 ∷ 34 ∷ 1 ∷ 0 ∷ 0 ∷ 0 ∷ [])
      ++ (0 ∷ 35 ∷ 1 ∷ 2 ∷ 0 ∷ 0 ∷ [])
      ++ (0 ∷ 2 ∷ 1 ∷ 35 ∷ 0 ∷ 0 ∷ [])
      ++ (0 ∷ 36 ∷ 1 ∷ 34 ∷ 0 ∷ 0 ∷ [])
      ++ (0 ∷ 34 ∷ 1 ∷ 36 ∷ 0 ∷ 0 ∷ [])
      ++ (1 ∷ 1 ∷ 1 ∷ 36 ∷ 0 ∷ 0 ∷ [])

-- q at the first of two instants, p at the second: p since q holds at both. Tested after the step back, p is asked for at the first instant,
-- where it is false, and the plan is thrown away.
pub record Since : Type 0 where
  pub expands : Expands since_short since 2
  pub right : WholeRow since 2 2 (0 ∷ 2 ∷ 2 ∷ 0 ∷ []) (2 ∷ 2 ∷ [])
  pub wrong : WholeRow since_wrong 2 2 (0 ∷ 2 ∷ 2 ∷ 0 ∷ []) (2 ∷ 0 ∷ [])

-- The judge's answer to all rules of a formula but the one that asserts it, over a trace filled with labels: a row has the atoms' cells
-- and a label for each record.
abbrev pub Says : List ℕ → ℕ → ℕ → List ℕ → Judged → Type 0
Says s A L filled answer = judge_answer (words (other_rules s A)) (A + count s) L filled ≡ answer

abbrev pub yes : Judged
yes = judged 0 1 0 0

abbrev pub no : ℕ → ℕ → Judged
no rule instant = judged 0 0 rule instant

-- Labels: H has p, the test, q, the box.
abbrev pub short_h : List ℕ
short_h = 1 ∷ 1 ∷ 1 ∷ 1 ∷ 1 ∷ 1 ∷ []

pub record Fillings : Type 0 where
  -- F, with labels for the back step, the star, p and the diamond: the star's is 2 at the last instant, where p is 0.
  pub f : Says once_p 1 2 (2 ∷ 0 ∷ 2 ∷ 2 ∷ 2 ∷ 0 ∷ 2 ∷ 2 ∷ 0 ∷ 2 ∷ []) yes
  -- A star's label of 1 where 2 is due: the rule c → x fails.
  pub f_short : Says once_p 1 2 (2 ∷ 0 ∷ 1 ∷ 2 ∷ 1 ∷ 0 ∷ 1 ∷ 1 ∷ 0 ∷ 1 ∷ []) (no 4 0)
  -- H: the box's label is 2; with 1 the rule "x, a, not c" fails. J: it is 0.
  pub h : Says implies 2 1 (1 ∷ 1 ∷ 1 ∷ 2 ∷ 1 ∷ 2 ∷ []) yes
  pub h_short : Says implies 2 1 short_h (no 5 0)
  pub j : Says implies 2 1 (1 ∷ 0 ∷ 1 ∷ 0 ∷ 0 ∷ 0 ∷ []) yes
  -- ⟨step⟩p and [step]p over two instants, with labels for the step, p and the modality: there is no step from the last instant.
  pub next : Says next_p 1 2 (0 ∷ 2 ∷ 0 ∷ 2 ∷ 2 ∷ 0 ∷ 2 ∷ 0 ∷ []) yes
  pub next_short : Says next_p 1 2 (0 ∷ 0 ∷ 0 ∷ 0 ∷ 2 ∷ 0 ∷ 2 ∷ 0 ∷ []) (no 1 1)
  pub weak_next : Says weak_next_p 1 2 (0 ∷ 2 ∷ 0 ∷ 2 ∷ 2 ∷ 2 ∷ 2 ∷ 2 ∷ []) yes

-- ---- text
pub record Texted (s : List ℕ) (A : ℕ) (t : List ℕ) : Type 0 where
  pub wrote : write_answer s A (length t) ≡ counted 0 (length t)
  pub text : write_after s A (room (length t)) ≡ t
  pub took : read_answer t A (length s) ≡ counted 0 (count s)
  pub records : read_after t A (room (length s)) ≡ s

abbrev pub Unread : ℕ → List ℕ → ℕ → Type 0
Unread A t number = read_answer t A 0 ≡ counted number 0

pub record Texts : Type 0 where
  pub a : Texted until 2 (ascii "(*(?p0;&t).>?p1)")
  pub c : Texted every_second 1 (ascii "(*(&t;&t).>*p0)")
  pub d : Texted standing 2 (ascii "(*?p0.>?p1)")
  pub g : Texted final 0 (ascii "(&t.>*#false)")
  -- Example F has a back step.
  pub f_unwritten : write_answer once_p 1 0 ≡ counted 18 0
  -- A blank, a leading zero, an atom that there isn't, a capital, half a sign.
  pub blank : Unread 32 (ascii "(&t.>? p1)") 19
  pub leading_zero : Unread 32 (ascii "p00") 19
  pub no_atom : Unread 32 (ascii "p32") 19
  pub capital : Unread 32 (ascii "P1") 19
  pub half_sign : Unread 32 (ascii "#tru") 19
  -- A bracket missing, one too many, text after the formula, a path alone, nothing, a byte that is no character.
  pub missing_bracket : Unread 32 (ascii "(&t.>?p1") 19
  pub spare_bracket : Unread 32 (ascii "(&t.>?p1))") 19
  pub sign_alone : Unread 32 (ascii ".>") 19
  pub text_after : Unread 32 (ascii "p1p2") 19
  pub path_alone : Unread 32 (ascii "&t") 19
  pub nothing : Unread 32 [] 19
  pub no_character : Unread 32 (200 ∷ []) 19
  -- The number of atoms, and the length, come first; an atom too high comes after the form, and the room last.
  pub atoms_first : Unread 33 (ascii "p00") 8
  pub length_second : Unread 32 (replicate (most_text + 1) 40) 14
  pub form_third : Unread 1 (ascii "(&t.>?p1") 19
  pub atom_then : Unread 31 (ascii "p31") 5
  pub room_last : Unread 32 (ascii "p31") 10
