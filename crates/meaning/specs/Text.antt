-- Specification, Text: a core formula as text, in the signs of source 004's Table 2.
--   ascii t, decimal n        the bytes of the text t; the number n in decimal
--   spell F, spell_path P     how they are spelled: every diamond, box, choice and sequence stands in brackets
--   whole_text s              the text of the formula that the records s are
--   Spells F t                t is the text of F: F has no back step, which the table has no sign for, and only the atoms p0 to p31
--   read t                    the formula whose text t is, or none: proofs/Spelling shows that it undoes the spelling
--   form_in t                 that formula, where there is one
use Prim.Native.Char.{code}
use Rattle.std.specs.Prelude.{ℕ, zero, suc, pred, ◌+◌, ◌*◌, ◌-◌, ◌/◌, ◌%◌, ◌≤◌, ◌≡◌, Bool, true, false, cond, ◌&&◌, List, [], ◌∷◌, ◌++◌, length, leb, ltb, eqb}
use Prim.Native.String.{String, [] as []ˢ, ◌∷◌ as ◌∷ˢ◌}
use Rattle.std.proofs.Math.Option.{Option, none, some}
use Rattle.meaning.specs.Record.{Mode, diamond, box, Way, ahead, back, count}
use Rattle.meaning.specs.Formula.{Form, Path, form_atoms}
use Rattle.meaning.specs.Tree.{form_at}

-- ---- characters
abbrev pub ascii : String → List ℕ
ascii []ˢ = []
ascii (c ∷ˢ t) = code c ∷ ascii t

-- The digits of the tens, if there are any, and then that of the ones; m digits at most.
unfoldable pub decimal_in : ℕ → ℕ → List ℕ
decimal_in zero n = []
decimal_in (suc m) n = cond (ltb n 10) [] (decimal_in m (n / 10)) ++ ((code "0" + n % 10) ∷ [])

-- No number n has more than n + 1 digits.
unfoldable pub decimal : ℕ → List ℕ
decimal n = decimal_in (suc n) n

-- ---- signs
abbrev pub false_sign : List ℕ
false_sign = ascii "#false"

abbrev pub true_sign : List ℕ
true_sign = ascii "#true"

abbrev pub atom_sign : List ℕ
atom_sign = ascii "p"

abbrev pub step_sign : List ℕ
step_sign = ascii "&t"

abbrev pub test_sign : List ℕ
test_sign = ascii "?"

abbrev pub star_sign : List ℕ
star_sign = ascii "*"

abbrev pub choice_sign : List ℕ
choice_sign = ascii "+"

abbrev pub sequence_sign : List ℕ
sequence_sign = ascii ";"

abbrev pub diamond_sign : List ℕ
diamond_sign = ascii ".>?"

abbrev pub box_sign : List ℕ
box_sign = ascii ".>*"

abbrev pub opening : List ℕ
opening = ascii "("

abbrev pub closing : List ℕ
closing = ascii ")"

unfoldable pub mode_sign : Mode → List ℕ
mode_sign diamond = diamond_sign
mode_sign box = box_sign

-- A back step has no sign.
unfoldable pub move_sign : Way → List ℕ
move_sign ahead = step_sign
move_sign back = []

-- ---- spelling
unfoldable mutual
  pub spell : Form → List ℕ
  spell (Form.constant false) = false_sign
  spell (Form.constant true) = true_sign
  spell (Form.atom i) = atom_sign ++ decimal i
  spell (Form.modal m p f) = opening ++ (spell_path p ++ (mode_sign m ++ (spell f ++ closing)))

  pub spell_path : Path → List ℕ
  spell_path (Path.move w) = move_sign w
  spell_path (Path.test f) = test_sign ++ spell f
  spell_path (Path.choice p q) = opening ++ (spell_path p ++ (choice_sign ++ (spell_path q ++ closing)))
  spell_path (Path.sequence p q) = opening ++ (spell_path p ++ (sequence_sign ++ (spell_path q ++ closing)))
  spell_path (Path.star p) = star_sign ++ spell_path p

abbrev pub whole_text : List ℕ → List ℕ
whole_text s = spell (form_at s (pred (count s)))

-- No back step anywhere, tests included.
unfoldable pub is_ahead : Way → Bool
is_ahead ahead = true
is_ahead back = false

unfoldable mutual
  pub forward : Form → Bool
  forward (Form.constant v) = true
  forward (Form.atom i) = true
  forward (Form.modal m p f) = forward_path p && forward f

  pub forward_path : Path → Bool
  forward_path (Path.move w) = is_ahead w
  forward_path (Path.test f) = forward f
  forward_path (Path.choice p q) = forward_path p && forward_path q
  forward_path (Path.sequence p q) = forward_path p && forward_path q
  forward_path (Path.star p) = forward_path p

-- The atoms that text may name, and the most bytes that are read.
abbrev pub text_atoms : ℕ
text_atoms = 32

abbrev pub most_text : ℕ
most_text = 1_530

pub record Spells (F : Form) (t : List ℕ) : Type 0 where
  pub ahead_only : forward F ≡ true
  pub few_atoms : form_atoms F ≤ text_atoms
  pub text : t ≡ spell F

-- ---- reading: what stands at the start of a text, and what follows it there
-- One thing and then, with what it gave, another; or one thing, and else another.
unfoldable pub then : {T U : Type 0} → Option T → (T → Option U) → Option U
then none f = none
then (some x) f = f x

unfoldable pub else : {T : Type 0} → Option T → Option T → Option T
else none y = y
else (some x) y = some x

-- What follows a sign, where the text starts with it.
unfoldable pub after : List ℕ → List ℕ → Option (List ℕ)
after [] t = some t
after (b ∷ bs) [] = none
after (b ∷ bs) (c ∷ t) = cond (eqb c b) (after bs t) none

-- The same with what the sign stands for.
unfoldable pub sign : {T : Type 0} → T → List ℕ → List ℕ → Option (T × List ℕ)
sign x bytes t = then (after bytes t) (λ u. some (x, u))

-- An atom's number: two digits where they are a number from 10 to 31, else one.
unfoldable pub digit : ℕ → Bool
digit b = leb (code "0") b && leb b (code "9")

unfoldable pub number : ℕ → ℕ → ℕ
number b c = 10 * (b - code "0") + (c - code "0")

unfoldable pub two_digits : ℕ → ℕ → Bool
two_digits b c = leb (code "1") b && (digit c && ltb (number b c) text_atoms)

unfoldable pub one_digit : ℕ → List ℕ → Option (ℕ × List ℕ)
one_digit b t = cond (digit b) (some (b - code "0", t)) none

unfoldable pub read_number : List ℕ → Option (ℕ × List ℕ)
read_number [] = none
read_number (b ∷ []) = one_digit b []
read_number (b ∷ c ∷ t) = cond (two_digits b c) (some (number b c, t)) (one_digit b (c ∷ t))

unfoldable pub read_atom : List ℕ → Option (Form × List ℕ)
read_atom t = then (after atom_sign t) (λ u. then (read_number u) (λ (i, v). some (Form.atom i, v)))

unfoldable pub read_mode : List ℕ → Option (Mode × List ℕ)
read_mode t = else (sign diamond diamond_sign t) (sign box box_sign t)

-- Choice or sequence, as what they make of two paths.
unfoldable pub read_join : List ℕ → Option ((Path → Path → Path) × List ℕ)
read_join t = else (sign (λ p q. Path.choice p q) choice_sign t) (sign (λ p q. Path.sequence p q) sequence_sign t)

-- n limits how deep reading goes.
unfoldable mutual
  pub read_form : ℕ → List ℕ → Option (Form × List ℕ)
  read_form zero t = none
  read_form (suc n) t =
      else (sign (Form.constant false) false_sign t)
      (else (sign (Form.constant true) true_sign t)
      (else (read_atom t)
      (then (after opening t) (λ u. then (read_path n u) (λ (p, v). then (read_mode v) (λ (m, w). then (read_form n w) (λ (f, x).
      then (after closing x) (λ y. some (Form.modal m p f, y)))))))))

  pub read_path : ℕ → List ℕ → Option (Path × List ℕ)
  read_path zero t = none
  read_path (suc n) t =
      else (sign (Path.move ahead) step_sign t)
      (else (then (after test_sign t) (λ u. then (read_form n u) (λ (f, v). some (Path.test f, v))))
      (else (then (after star_sign t) (λ u. then (read_path n u) (λ (p, v). some (Path.star p, v))))
      (then (after opening t) (λ u. then (read_path n u) (λ (p, v). then (read_join v) (λ (join, w). then (read_path n w) (λ (q, x).
      then (after closing x) (λ y. some (join p q, y)))))))))

-- All of the text.
unfoldable pub whole : Form × List ℕ → Option Form
whole (f, []) = some f
whole (f, b ∷ t) = none

unfoldable pub read : List ℕ → Option Form
read t = then (read_form (length t) t) whole

unfoldable pub is_read : Option Form → Bool
is_read none = false
is_read (some f) = true

-- False stands in where there is none.
unfoldable pub or_false : Option Form → Form
or_false none = Form.constant false
or_false (some f) = f

unfoldable pub form_in : List ℕ → Form
form_in t = or_false (read t)
