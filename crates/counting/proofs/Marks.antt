-- A formula's spelling has as many marks as the formula has records.
use Prim.Native.Char.{code}
use Prim.Native.Nat.{ℕ, zero, suc, ◌+◌, ◌/◌, ◌%◌, ◌<◌}
use mathlib.Core.Path.{◌≡◌, refl, sym, ap, ◌∙◌}
use mathlib.Core.Bool.{Bool, true, false, cond, true≢false}
use mathlib.Core.List.{List, [], ◌∷◌, ◌++◌}
use mathlib.Core.Option.{Option, none, some}
use native.Mathlib.Nat.{mod-lt}
use native.Mathlib.Omega.{arith}
use lib.Dec.{ltb}
use Rattle.meaning.specs.Record.{Mode, diamond, box, ahead, back}
use Rattle.meaning.specs.Formula.{Form, Path}
use Rattle.meaning.specs.Tree.{form_size, path_size}
use Rattle.meaning.specs.Text.{decimal_in, decimal, mode_sign, move_sign, spell, spell_path, is_ahead, forward, forward_path, read, is_read, or_false, form_in}
use Rattle.meaning.proofs.Fails.{and_holds}
use Rattle.std.proofs.lemmas.Bool.Decides.{nat_tests}
use Rattle.std.proofs.lemmas.List.Recursion.{is_sum_by}
use Rattle.std.specs.Prelude.{count_by}
use Rattle.counting.specs.Marks.{is_mark, marks}
use Rattle.meaning.proofs.Spelling.{reads}

marks_append : (x y : List ℕ) → marks (x ++ y) ≡ marks x + marks y
unfolding marks
marks_append [] y = omega arith
marks_append (b ∷ x) y = omega (arith, marks_append x y)

-- Digits are no marks.
digit_mark : (d : ℕ) → d < 10 → is_mark (code "0" + d) ≡ false
unfolding is_mark
digit_mark d h = grind (arith, nat_tests)

decimal_marks : (m n : ℕ) → marks (decimal_in m n) ≡ 0
unfolding decimal_in marks
decimal_marks zero n = refl
decimal_marks (suc m) n = marks_append (cond (ltb n 10) [] (decimal_in m (n / 10))) _ ∙ rw (digit_mark (n % 10) (mod-lt n (omega arith))) (go (ltb n 10) _ (decimal_marks m (n / 10)))
  where
    go : (c : Bool) (x : List ℕ) → marks x ≡ 0 → marks (cond c [] x) + 0 ≡ 0
    go true x h = refl
    go false x h = omega arith

mode_mark : (m : Mode) → marks (mode_sign m) ≡ 1
unfolding mode_sign marks is_mark
mode_mark diamond = refl
mode_mark box = refl

mutual
  unfolding spell form_size forward forward_path is_ahead move_sign decimal marks is_mark

  form_marks : (F : Form) → forward F ≡ true → marks (spell F) ≡ form_size F
  form_marks (Form.constant false) h = refl
  form_marks (Form.constant true) h = refl
  form_marks (Form.atom i) h = rw (decimal_marks (suc i) i)
  form_marks (Form.modal m p f) h =
      let (x, y) = (and_holds (forward_path p) (forward f)).0 h in
      simp marks_append (omega (arith, path_marks p x, mode_mark m, form_marks f y))

  path_marks : (P : Path) → forward_path P ≡ true → marks (spell_path P) ≡ path_size P
  path_marks (Path.move ahead) h = refl
  path_marks (Path.move back) h = absurd (true≢false (sym h))
  path_marks (Path.test f) h = omega (arith, form_marks f h)
  path_marks (Path.choice p q) h =
      let (x, y) = (and_holds (forward_path p) (forward_path q)).0 h in
      simp marks_append (omega (arith, path_marks p x, path_marks q y))
  path_marks (Path.sequence p q) h =
      let (x, y) = (and_holds (forward_path p) (forward_path q)).0 h in
      simp marks_append (omega (arith, path_marks p x, path_marks q y))
  path_marks (Path.star p) h = omega (arith, path_marks p h)

counted : (t : List ℕ) → marks t ≡ count_by is_mark t
unfolding marks
counted t = is_sum_by marks (λ b. cond (is_mark b) 1 0) refl (λ b t. refl) t

pub text_marks : (t : List ℕ) → is_read (read t) ≡ true → count_by is_mark t ≡ form_size (form_in t)
unfolding form_in is_read or_false
text_marks t h = sym (counted t) ∙ go (read t) refl h
  where
    go : (r : Option Form) → read t ≡ r → is_read r ≡ true → marks t ≡ form_size (or_false r)
    go none e k = absurd (true≢false (sym k))
    go (some F) e k = let s = reads t F e in ap marks s.text ∙ form_marks F s.ahead_only
