-- All of a text is read where its formula ends at the text's end.
use Prim.Native.Nat.{ℕ, ◌≤◌}
use mathlib.Core.Path.{◌≡◌, refl, sym, ap}
use mathlib.Core.Bool.{true}
use mathlib.Core.List.{List, [], ◌∷◌}
use mathlib.Core.Option.{Option, none, some}
use native.Mathlib.Omega.{arith}
use lib.Dec.{eqb}
use lib.ListN.{length, length-drop, drop}
use borrow.Author.Tests.{eq-eqb, ne_eqb}
use Rattle.std.specs.Option.{option_eq}
use Rattle.std.specs.Prelude.{Option as Perhaps, Some, None}
use Rattle.meaning.specs.Formula.{Form}
use Rattle.meaning.specs.Text.{then, read_form, read, is_read, whole, or_false, form_in}
use lib.Seq.{sets}
use Rattle.meaning.specs.Record.{most_records}
use Rattle.meaning.specs.Tree.{form_size, postorder}
use Rattle.parsing.specs.Writing.{forms, Readable, Made}
use Rattle.parsing.proofs.Writing.{readable}
use Rattle.parsing.specs.Places.{Left, left_at, rest, Within, Deep}
use Rattle.parsing.proofs.Places.{no_read, clash}

module _ (t : List ℕ) where
  all_read : (r : Option (Form × List ℕ)) (e : Perhaps ℕ) → Within t 0 e → rest r ≡ left_at t e → option_eq eqb e (Some (length t)) ≡ is_read (then r whole)
  unfolding rest then is_read whole
  all_read none None w h = refl
  all_read none (Some e) w h = no_read h
  all_read (some r) None w h = no_read (sym h)
  all_read (some (f, [])) (Some e) w h =
      let l : [] ≡ drop e t = cc in
      eq-eqb e (length t) (omega (arith, w.1, length-drop e t, ap length l))
  all_read (some (f, b ∷ v)) (Some e) w h =
      let l : b ∷ v ≡ drop e t = cc in
      ne_eqb e (length t) (omega (arith, w.1, length-drop e t, ap length l))

  pub formula_read : (e : Perhaps ℕ) → Deep read_form t 0 e → option_eq eqb e (Some (length t)) ≡ is_read (read t)
  unfolding read then
  formula_read e a = all_read (read_form (length t) t) e a.within (a.there (length t) (omega arith))

-- A text that is read can be written.
read_whole : (r : Option (Form × List ℕ)) → is_read (then r whole) ≡ true → r ≡ some (or_false (then r whole), [])
unfolding then is_read whole or_false
read_whole none h = clash h
read_whole (some (f, [])) h = refl
read_whole (some (f, b ∷ v)) h = clash h

module _ (t : List ℕ) (h : is_read (read t) ≡ true) where
  reads : read_form (length t) t ≡ some (form_in t, [])
  unfolding read form_in
  reads = read_whole (read_form (length t) t) h

  whole_left : Left t 0 t
  whole_left = record { within = omega arith; is = refl }

  pub formula_readable : form_size (form_in t) ≤ most_records → Readable forms t 0 0
  formula_readable few = readable forms t 0 0 (length t) t [] (form_in t) whole_left reads (omega arith)

  pub formula_wrote : {e m : ℕ} {old new : List ℕ} → Made forms t 0 0 old e m new → new ≡ sets old 0 (postorder (form_in t))
  formula_wrote w = (w.whole (length t) t [] (form_in t) whole_left reads).2
