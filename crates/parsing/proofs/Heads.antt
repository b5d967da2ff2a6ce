-- Reading by the first byte. No two kinds of formula begin alike, nor two kinds of path: so behind that byte one reading is left, and it
-- ends where the whole does.
use Prim.Native.Char.{code}
use Prim.Native.Nat.{ℕ, zero, suc, ◌+◌, ◌≤◌, ◌<◌}
use mathlib.Core.Path.{◌≡◌, refl, sym, ◌∙◌}
use mathlib.Core.Bool.{true, false}
use mathlib.Core.List.{List, [], ◌∷◌}
use mathlib.Core.Option.{Option, none, some}
use native.Mathlib.Omega.{arith}
use native.Mathlib.Numerals.{add-one}
use lib.ListN.{length, get_or, drop, drop_of_length-le}
use lib.Seq.{drop-cons, get_or-drop}
use borrow.Author.Tests.{ne_eqb}
use Rattle.std.specs.Prelude.{Option as Perhaps, Some, None, option_map}
use Rattle.meaning.specs.Record.{ahead, diamond, box}
use Rattle.meaning.specs.Formula.{Form, Path}
use Rattle.meaning.specs.Text.{then, else, after, sign, closing, ascii, read_atom, read_number, read_mode, read_join, read_form, read_path}
use Rattle.meaning.specs.Text.{diamond_sign, box_sign, choice_sign, sequence_sign}
use Rattle.parsing.specs.declared.ends.Atom.{Atom}
use denote.Ref.{Bor}
use native.Mathlib.Nat.{le_refl, add-zero}
use Rattle.std.specs.Slice.{IsItemAt}
use Rattle.parsing.specs.Places.{left_at, rest, Ends, Deep, Numbered, Stars}
use Rattle.parsing.proofs.Places.{rest_then, rest_sign, rest_signs, else_none, later, ends_then, ends_none, by_stars}

-- A reading whose part is kept, and one of two parts with a sign between them, in brackets.
rest_kept : {A B : Type 0} (r : Option (A × List ℕ)) (k : A → B) → rest (then r (λ (x, v). some (k x, v))) ≡ rest r
unfolding then rest
rest_kept none k = refl
rest_kept (some (x, v)) k = refl

module _ {A J B C : Type 0} (j : List ℕ → Option (J × List ℕ)) (s : List ℕ → Option (B × List ℕ)) (k : J → A → B → C) where
  unfoldable pub paired : Option (A × List ℕ) → Option (C × List ℕ)
  paired r = then r (λ (a, v). then (j v) (λ (o, w). then (s w) (λ (b, x). then (after closing x) (λ y. some (k o a b, y)))))

  rest_paired : (r : Option (A × List ℕ)) → rest (paired r) ≡ then (rest r) (λ v. then (rest (j v)) (λ w. then (rest (s w)) (after closing)))
  unfolding paired
  rest_paired r = rest_then r _ _ (λ a v. rest_then (j v) _ _ (λ o w. rest_then (s w) _ _ (λ b x. rest_sign (k o a b) (after closing x))))

-- The byte b at a place within the text.
pub record Stands (t : List ℕ) (at b : ℕ) : Type 0 where
  pub inside : at < length t
  pub is : get_or t at 0 ≡ b

pub stands : {t : List ℕ} {at b : ℕ} (x : Bor ℕ) → IsItemAt t at (Some x) → x.now ≡ b → Stands t at b
stands {at = at} x item is = record { inside = item.3.0; is = sym (item.4 (le_refl at) 0) ∙ is }

pub ends_at : {T : Type 0} {read : ℕ → List ℕ → Option (T × List ℕ)} {t : List ℕ} {at : ℕ} {r : Perhaps ℕ} → Deep read t at r
    → (n : ℕ) → length t ≤ n + at → Ends t (λ u. rest (read n u)) at r
ends_at a n l = record { within = a.within; there = a.there n l }

module _ {T : Type 0} (read : ℕ → List ℕ → Option (T × List ℕ)) {t : List ℕ} {at b : ℕ} (byte : Stands t at b) {r : Perhaps ℕ} where
  deep : (g : ℕ → List ℕ → Option (List ℕ)) → ((n : ℕ) (s : List ℕ) → rest (read (suc n) (b ∷ s)) ≡ g n s)
      → ((n : ℕ) → length t ≤ n + (at + 1) → Ends t (g n) (at + 1) r) → Deep read t at r
  deep g h k = record { within = later t r (omega arith) (k (length t) (omega arith)).within; there = go }
    where
      go : (n : ℕ) → length t ≤ n + at → rest (read n (drop at t)) ≡ left_at t r
      go zero l = absurd (omega (arith, byte.inside))
      go (suc n) l = rw (drop-cons t at 0 byte.inside, byte.is) (h n (drop (suc at) t) ∙ rw add-one at (k n (omega arith)).there)

  -- One part.
  deep_kept : {A : Type 0} (part : ℕ → List ℕ → Option (A × List ℕ)) (k : A → T)
      → ((n : ℕ) (s : List ℕ) → read (suc n) (b ∷ s) ≡ else (then (part n s) (λ (x, v). some (k x, v))) none) → Deep part t (at + 1) r → Deep read t at r
  deep_kept part k h a = deep (λ n s. rest (part n s)) (λ n s. rw (h n s, else_none) (rest_kept (part n s) k)) (ends_at a)

deep_none : {T : Type 0} (read : ℕ → List ℕ → Option (T × List ℕ)) (t : List ℕ) (at : ℕ) → ((n : ℕ) → read n (drop at t) ≡ none) → Deep read t at None
unfolding rest
deep_none read t at h = record { within = tt; there = λ n l. rw (h n) }

-- ---- two parts in brackets
pub record Brackets {T A B : Type 0} (read : ℕ → List ℕ → Option (T × List ℕ)) (r : ℕ → List ℕ → Option (A × List ℕ)) (j : List ℕ → Option (List ℕ))
    (s : ℕ → List ℕ → Option (B × List ℕ)) : Type 0 where
  pub opens : (n : ℕ) (u : List ℕ) → rest (read (suc n) (code "(" ∷ u)) ≡ then (rest (r n u)) (λ v. then (j v) (λ w. then (rest (s n w)) (after closing)))

module _ {T A B : Type 0} {read : ℕ → List ℕ → Option (T × List ℕ)} {r : ℕ → List ℕ → Option (A × List ℕ)} {j : List ℕ → Option (List ℕ)}
    {s : ℕ → List ℕ → Option (B × List ℕ)} (k : Brackets read r j s) {t : List ℕ} {at : ℕ} (byte : Stands t at (code "(")) where
  pub no_first : Deep r t (at + 1) None → Deep read t at None
  no_first first = deep read byte _ k.opens (λ n l. ends_none _ (ends_at first n l))

  module _ {p : ℕ} (first : Deep r t (at + 1) (Some p)) where
    pub no_join : Ends t j p None → Deep read t at None
    no_join join = deep read byte _ k.opens (λ n l. ends_then _ (ends_at first n l) (ends_none _ join))

    module _ {m : ℕ} (join : Ends t j p (Some m)) where
      second_depth : (n : ℕ) → length t ≤ n + (at + 1) → length t ≤ n + m
      second_depth n l = omega (arith, first.within.0, join.within.0)

      pub no_second : Deep s t m None → Deep read t at None
      no_second second =
          deep read byte _ k.opens (λ n l. ends_then _ (ends_at first n l) (ends_then _ join (ends_none _ (ends_at second n (second_depth n l)))))

      pub all_parts : {q : ℕ} {e : Perhaps ℕ} → Deep s t m (Some q) → Ends t (after closing) q e → Deep read t at e
      all_parts second end =
          deep read byte _ k.opens (λ n l. ends_then _ (ends_at first n l) (ends_then _ join (ends_then _ (ends_at second n (second_depth n l)) end)))

mode_left : (u : List ℕ) → rest (read_mode u) ≡ else (after diamond_sign u) (after box_sign u)
unfolding read_mode sign
mode_left u = rest_signs diamond box (after diamond_sign u) (after box_sign u)

join_left : (u : List ℕ) → rest (read_join u) ≡ else (after choice_sign u) (after sequence_sign u)
unfolding read_join sign
join_left u = rest_signs (λ p q. Path.choice p q) (λ p q. Path.sequence p q) (after choice_sign u) (after sequence_sign u)

pub form_brackets : Brackets read_form read_path (λ v. else (after diamond_sign v) (after box_sign v)) read_form
unfolding read_form read_atom sign then else after paired
form_brackets = record { opens = λ n u. rest_paired read_mode (read_form n) (λ m p f. Form.modal m p f) (read_path n u) ∙ simp mode_left }

pub path_brackets : Brackets read_path read_path (λ v. else (after choice_sign v) (after sequence_sign v)) read_path
unfolding read_path sign then else after paired
path_brackets = record { opens = λ n u. rest_paired read_join (read_path n) (λ j p q. j p q) (read_path n u) ∙ simp join_left }

-- Nothing begins with another byte.
pub no_form : (n : ℕ) (s : List ℕ) → (get_or s 0 0 ≡ code "#" → ⊥) → (get_or s 0 0 ≡ code "p" → ⊥) → (get_or s 0 0 ≡ code "(" → ⊥) → read_form n s ≡ none
unfolding read_form read_atom sign then else after
no_form zero s x y z = refl
no_form (suc n) [] x y z = refl
no_form (suc n) (b ∷ s) x y z = rw (ne_eqb b (code "#") x, ne_eqb b (code "p") y, ne_eqb b (code "(") z)

pub no_path : (n : ℕ) (s : List ℕ) → (get_or s 0 0 ≡ code "&" → ⊥) → (get_or s 0 0 ≡ code "?" → ⊥) → (get_or s 0 0 ≡ code "*" → ⊥) → (get_or s 0 0 ≡ code "(" → ⊥) → read_path n s ≡ none
unfolding read_path sign then else after
no_path zero s w x y z = refl
no_path (suc n) [] w x y z = refl
no_path (suc n) (b ∷ s) w x y z = rw (ne_eqb b (code "&") w, ne_eqb b (code "?") x, ne_eqb b (code "*") y, ne_eqb b (code "(") z)

-- ---- formulas and paths, by the byte at the place
module _ {t : List ℕ} {at : ℕ} {r : Perhaps ℕ} where
  pub form_constant : Stands t at (code "#") → Ends t (λ u. else (after (ascii "false") u) (after (ascii "true") u)) (at + 1) r → Deep read_form t at r
  unfolding read_form read_atom sign then else after
  form_constant byte a = deep read_form byte _
      (λ n s. rw else_none (rest_signs (Form.constant false) (Form.constant true) (after (ascii "false") s) (after (ascii "true") s)))
      (λ n l. a)

  pub form_atom : Stands t at (code "p") → Ends t (λ u. rest (read_number u)) (at + 1) r → Deep read_form t at r
  unfolding read_form read_atom sign then else after
  form_atom byte a = deep_kept read_form byte (λ n. read_number) (λ i. Form.atom i) (λ n s. refl) (record { within = a.within; there = λ n l. a.there })

  pub path_step : Stands t at (code "&") → Ends t (after (ascii "t")) (at + 1) r → Deep read_path t at r
  unfolding read_path sign then else after
  path_step byte a = deep read_path byte _ (λ n s. rw else_none (rest_sign (Path.move ahead) (after (ascii "t") s))) (λ n l. a)

  pub path_test : Stands t at (code "?") → Deep read_form t (at + 1) r → Deep read_path t at r
  unfolding read_path sign then else after
  path_test byte = deep_kept read_path byte read_form (λ f. Path.test f) (λ n s. refl)

  pub path_star : Stands t at (code "*") → Deep read_path t (at + 1) r → Deep read_path t at r
  unfolding read_path sign then else after
  path_star byte = deep_kept read_path byte read_path (λ p. Path.star p) (λ n s. refl)

-- An atom ends where its number does.
pub number_ends : {t : List ℕ} {at : ℕ} (a : Perhaps Atom) → Numbered t at a → Ends t (λ u. rest (read_number u)) at (option_map (λ (a : Atom). a.end) a)
unfolding rest
number_ends None a = record { within = tt; there = rw a.there }
number_ends (Some x) a = record { within = a.within; there = rw a.there }

module _ (t : List ℕ) (at : ℕ) where
  first : {b : ℕ} → get_or t at 0 ≡ b → get_or (drop at t) 0 0 ≡ b
  first h = get_or-drop at t 0 0 ∙ rw add-zero h

  pub form_none : {b : ℕ} → Stands t at b → (b ≡ code "#" → ⊥) → (b ≡ code "p" → ⊥) → (b ≡ code "(" → ⊥) → Deep read_form t at None
  form_none byte x y z = let f = first byte.is in deep_none read_form t at (λ n. no_form n (drop at t) (rw f x) (rw f y) (rw f z))

  pub path_none : {b : ℕ} → Stands t at b → (b ≡ code "&" → ⊥) → (b ≡ code "?" → ⊥) → (b ≡ code "*" → ⊥) → (b ≡ code "(" → ⊥) → Deep read_path t at None
  path_none byte w x y z = let f = first byte.is in deep_none read_path t at (λ n. no_path n (drop at t) (rw f w) (rw f x) (rw f y) (rw f z))

  module _ (l : length t ≤ at) where
    past : get_or (drop at t) 0 0 ≡ 0
    past = rw (drop_of_length-le t l)

    pub form_past : Deep read_form t at None
    form_past = deep_none read_form t at (λ n. no_form n (drop at t) (λ e. omega (arith, past)) (λ e. omega (arith, past)) (λ e. omega (arith, past)))

    pub path_past : Deep read_path t at None
    path_past = deep_none read_path t at
        (λ n. no_path n (drop at t) (λ e. omega (arith, past)) (λ e. omega (arith, past)) (λ e. omega (arith, past)) (λ e. omega (arith, past)))

-- What is read behind stars is read with them.
pub behind_stars : (t : List ℕ) {at from : ℕ} {r : Perhaps ℕ} → Stars t at from → Deep read_path t from r → Deep read_path t at r
behind_stars t {r = r} s d = by_stars (λ i. Deep read_path t i r) s d (λ i star l d. path_star record { inside = omega (arith, s.low); is = star } d)
