-- How long a text is. The longest sign is that of false; a diamond's or a box's with its brackets is shorter, and so is an atom's. So a text
-- has at most that many bytes for each record of its tree, and the text of any formula fits where most_text bytes do.
use Prim.Native.Nat.{ℕ, zero, suc, pred, ◌+◌, ◌*◌, ◌/◌, ◌%◌, ◌<◌, ◌≤◌}
use Prim.Native.Char.{code}
use mathlib.Core.Path.{◌≡◌, refl}
use mathlib.Core.Bool.{true, false}
use mathlib.Core.List.{List, [], ◌∷◌}
use mathlib.Core.Logic.{inl, inr}
use native.Mathlib.Omega.{arith}
use borrow.Author.Tests.{lt-ltb, le-ltb}
use lib.ListN.{length, length-append}
use Rattle.meaning.specs.Record.{core, count, Mode, diamond, box, ahead, back}
use Rattle.meaning.specs.Formula.{Form, Path, form_atoms, path_atoms}
use Rattle.meaning.specs.Tree.{form_at, form_size, path_size}
use Rattle.meaning.specs.Text.{decimal, decimal_in, false_sign, mode_sign, move_sign, spell, spell_path, whole_text, text_atoms, most_text}
use Rattle.meaning.specs.WellFormed.{WellFormed}
use Rattle.meaning.proofs.Bounds.{le_or_lt, first_within, second_within}
use Rattle.meaning.proofs.Atoms.{form_atoms_at}
use Rattle.meaning.proofs.Sizes.{whole_size}

-- ---- numbers of one digit, and of two
digit_alone : (m n : ℕ) → n < 10 → decimal_in (suc m) n ≡ (code "0" + n) ∷ []
unfolding decimal_in
digit_alone m n l =
    let e : n % 10 ≡ n = omega arith in
    rw (lt-ltb n 10 l, e)

pub one_digit_is : (n : ℕ) → n < 10 → decimal n ≡ (code "0" + n) ∷ []
unfolding decimal
one_digit_is n l = digit_alone n n l

pub two_digits_are : (n : ℕ) → 10 ≤ n → n < 100 → decimal n ≡ (code "0" + n / 10) ∷ (code "0" + n % 10) ∷ []
unfolding decimal decimal_in
two_digits_are zero h l = absurd (omega arith)
two_digits_are (suc n) h l = rw (le-ltb (suc n) 10 h, digit_alone n (suc n / 10) (omega arith))

decimal_long : (n : ℕ) → n < text_atoms → length (decimal n) ≤ 2
decimal_long n l = elim (le_or_lt 10 n) [
  | inl h ↦ rw (two_digits_are n h (omega arith)) (omega arith)
  | inr h ↦ rw (one_digit_is n h) (omega arith)
]

-- ---- texts
abbrev longest_sign : ℕ
longest_sign = length false_sign

mode_long : (m : Mode) → length (mode_sign m) ≡ 3
unfolding mode_sign
mode_long diamond = refl
mode_long box = refl

mutual
  unfolding spell form_size form_atoms move_sign

  pub spell_long : (F : Form) → form_atoms F ≤ text_atoms → length (spell F) ≤ longest_sign * form_size F
  spell_long (Form.constant true) low = omega arith
  spell_long (Form.constant false) low = omega arith
  spell_long (Form.atom i) low = omega (arith, decimal_long i (omega arith))
  spell_long (Form.modal m p f) low =
      simp length-append (omega (arith, path_long p (first_within _ _ low), mode_long m, spell_long f (second_within (path_atoms p) _ low)))

  pub path_long : (P : Path) → path_atoms P ≤ text_atoms → length (spell_path P) ≤ longest_sign * path_size P
  path_long (Path.move ahead) low = omega arith
  path_long (Path.move back) low = omega arith
  path_long (Path.test f) low = simp length-append (omega (arith, spell_long f low))
  path_long (Path.choice p q) low =
      simp length-append (omega (arith, path_long p (first_within _ _ low), path_long q (second_within (path_atoms p) _ low)))
  path_long (Path.sequence p q) low =
      simp length-append (omega (arith, path_long p (first_within _ _ low), path_long q (second_within (path_atoms p) _ low)))
  path_long (Path.star p) low = simp length-append (omega (arith, path_long p low))

pub whole_fits : {s : List ℕ} {A : ℕ} → WellFormed core s A → length (whole_text s) ≤ most_text
whole_fits {s} w =
    let r = pred (count s) in
    let l : r < count s = omega (arith, w.some) in
    omega (arith, spell_long (form_at s r) (omega (arith, form_atoms_at w r l, w.atoms)), whole_size w, w.few)
