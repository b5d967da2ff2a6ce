-- Readings of what is left of a text from a place on, and where they end.
use Prim.Native.Char.{code}
use Prim.Native.Nat.{ℕ, zero, suc, ◌+◌, ◌-◌, ◌≤◌, ◌<◌}
use mathlib.Core.Path.{◌≡◌, refl, sym, ap, ◌∙◌}
use mathlib.Core.Bool.{Bool, true, false, cond}
use mathlib.Core.List.{List, [], ◌∷◌}
use mathlib.Core.Option.{Option, none, some}
use native.Mathlib.Nat.{le_refl}
use native.Mathlib.Omega.{arith}
use lib.Dec.{eqb}
use lib.ListN.{get_or-eq_default, length, get_or, take, drop}
use lib.Seq.{drop-drop}
use Rattle.std.specs.Prelude.{Option as Perhaps, Some, None, MatchOption}
use Rattle.std.specs.List.{starts_with}
use Rattle.std.proofs.lemmas.List.{take_rest}
use mathlib.Core.Logic.{inl, inr}
use Rattle.std.proofs.lemmas.Bool.Decides.{nat_tests}
use Rattle.meaning.proofs.Bounds.{le_or_lt}
use Rattle.meaning.specs.Text.{then, else, after}
use Rattle.parsing.specs.Places.{rest, Within, Ends, Stars}

-- ---- what is read, or not
pub no_read : {A B : Type 0} {x : A} → none ≡ some x → B
no_read h = let z : ◌≡◌ {A = ℕ} 0 1 = cc in absurd (omega arith)

pub clash : {A : Type 0} → false ≡ true → A
clash h = let z : ◌≡◌ {A = ℕ} 0 1 = cc in absurd (omega arith)

pub both : {A : Type 0} {a x : A} {z u : List ℕ} → ◌≡◌ {A = Option (A × List ℕ)} (some (a, z)) (some (x, u)) → (x ≡ a) × (z ≡ u)
both {A} {a} {x} {z} {u} h = let e : ◌≡◌ {A = A × List ℕ} (a, z) (x, u) = cc in (sym (ap (λ r. r.0) e), ap (λ r. r.1) e)

-- ---- one after the other
pub rest_then : {A B : Type 0} (r : Option (A × List ℕ)) (f : A × List ℕ → Option (B × List ℕ)) (g : List ℕ → Option (List ℕ))
    → ((x : A) (u : List ℕ) → rest (f (x, u)) ≡ g u) → rest (then r f) ≡ then (rest r) g
unfolding then rest
rest_then none f g h = refl
rest_then (some (x, u)) f g h = h x u

pub rest_sign : {A : Type 0} (x : A) (r : Option (List ℕ)) → rest (then r (λ u. some (x, u))) ≡ r
unfolding then rest
rest_sign x none = refl
rest_sign x (some u) = refl

rest_else : {A : Type 0} (r s : Option (A × List ℕ)) → rest (else r s) ≡ else (rest r) (rest s)
unfolding else rest
rest_else none s = refl
rest_else (some (x, u)) s = refl

pub else_none : {A : Type 0} (r : Option A) → else r none ≡ r
unfolding else
else_none none = refl
else_none (some x) = refl

pub rest_signs : {A : Type 0} (x y : A) (r s : Option (List ℕ))
    → rest (else (then r (λ u. some (x, u))) (then s (λ u. some (y, u)))) ≡ else r s
rest_signs x y r s = simp (rest_else, rest_sign)

-- Only within the text is a byte above 0.
pub byte_in : (t : List ℕ) (at : ℕ) → 0 < get_or t at 0 → at < length t
byte_in t at h = elim (le_or_lt (length t) at) [
  | inl l ↦ let z : get_or t at 0 ≡ 0 = get_or-eq_default t 0 l in absurd (omega arith)
  | inr l ↦ l
]

-- ---- signs
-- What follows a sign, by the test whether a text starts with it.
after_start : (x u : List ℕ) → after x u ≡ cond (starts_with eqb u x) (some (drop (length x) u)) none
unfolding after
after_start [] u = refl
after_start (b ∷ x) [] = refl
after_start (b ∷ x) (c ∷ u) = grind (arith, nat_tests, after_start x u)

module _ (t x : List ℕ) (at : ℕ) {c : Bool} (test : c ≡ starts_with eqb (take (length t - at) (drop at t)) x) where
  sign_read : after x (drop at t) ≡ cond c (some (drop (at + length x) t)) none
  sign_read = after_start x (drop at t) ∙ rw (test, take_rest t at, drop-drop (length x) at t)

  pub sign_there : c ≡ true → at + length x ≤ length t → Ends t (after x) at (Some (at + length x))
  sign_there h l = record { within = (omega arith, l); there = sign_read ∙ rw h }

  pub sign_absent : c ≡ false → Ends t (after x) at None
  sign_absent h = record { within = tt; there = sign_read ∙ rw h }

-- ---- readings from place to place
pub later : (t : List ℕ) {at m : ℕ} (r : Perhaps ℕ) → at ≤ m → Within t m r → Within t at r
later t None l w = tt
later t (Some e) l w = (omega (arith, w.0), w.1)

module _ {t : List ℕ} {f : List ℕ → Option (List ℕ)} {at : ℕ} where
  pub ends_then : {m : ℕ} (g : List ℕ → Option (List ℕ)) {r : Perhaps ℕ} → Ends t f at (Some m) → Ends t g m r → Ends t (λ u. then (f u) g) at r
  unfolding then
  ends_then g {r} a b = record { within = later t r a.within.0 b.within; there = rw (a.there, b.there) }

  pub ends_none : (g : List ℕ → Option (List ℕ)) → Ends t f at None → Ends t (λ u. then (f u) g) at None
  unfolding then
  ends_none g a = record { within = a.within; there = rw a.there }

  -- One reading, or else another.
  pub either_ends : (g : List ℕ → Option (List ℕ)) (r : Perhaps ℕ) {e : Perhaps ℕ} → Ends t f at r → MatchOption r (Ends t g at e) (λ x. e ≡ Some x)
      → Ends t (λ u. else (f u) (g u)) at e
  unfolding else
  either_ends g None a h = record { within = h.within; there = rw (a.there, h.there) }
  either_ends g (Some x) a h = rw h record { within = a.within; there = rw a.there }

-- What holds at the end of a run of stars, and at a star if it does behind it, holds at the run's start.
pub by_stars : {t : List ℕ} {at from : ℕ} (P : ℕ → Type 0) → Stars t at from → P from → ((i : ℕ) → get_or t i 0 ≡ code "*" → i < from → P (i + 1) → P i) → P at
by_stars {t} {at} {from} P s end step = go (from - at) at (le_refl at) (omega (arith, s.onward))
  where
    go : (k i : ℕ) → at ≤ i → i + k ≡ from → P i
    go zero i l same = let here : i ≡ from = omega arith in rw here end
    go (suc k) i l same = step i (s.stars i l (omega arith)) (omega arith) (go k (i + 1) (omega arith) (omega arith))
