-- One record's first refusal by those of its fields. The conditions are numbered in their order, so of two fields' refusals
-- the one with the lesser number comes first: the conditions of both, number by number, are gone through from the last.
use Prim.Native.Nat.{ℕ, zero, suc, ◌<◌, min}
use mathlib.Core.Path.{◌≡◌, refl}
use mathlib.Core.Bool.{Bool, true, false, cond, not, ◌||◌, or_assoc}
use mathlib.Core.List.{List}
use mathlib.Core.Logic.{◌⊎◌, inl, inr}
use native.Mathlib.Omega.{arith}
use borrow.Author.Tests.{ne_eqb}
use lib.Dec.{eqb}
use Rattle.meaning.specs.Record.{Language, Use, kind_at, zero_byte, known}
use Rattle.meaning.specs.Refusal.{of_first, first_of, record_grounds, ground2, ground3, ground4, ground5, ground6}
use Rattle.refusals.specs.declared.Refusal.{Refusal}
use Rattle.refusals.specs.Refused.{number_of}
use Rattle.refusals.proofs.Answered.{positive}
use Rattle.checks.specs.Places.{field_grounds, fields_grounds, sooner}
use Rattle.checks.proofs.Fields.{Read}

pub none_sooner : (x y : ℕ) → sooner x y ≡ 0 → (x ≡ 0) × (y ≡ 0)
none_sooner zero y e = (refl, e)
none_sooner (suc x) zero e = let h = rw (ne_eqb (suc x) 0 (λ z. omega arith)) at e in absurd (omega arith)
none_sooner (suc x) (suc y) e =
    let h = rw (ne_eqb (suc x) 0 (λ z. omega arith), ne_eqb (suc y) 0 (λ z. omega arith)) at e in absurd (omega arith)

-- Of two refusals it is the lesser number.
pub of_two : (p q : Refusal) → sooner (number_of p) (number_of q) ≡ min (number_of p) (number_of q)
of_two p q = rw (ne_eqb (number_of p) 0 (λ z. omega (arith, positive p)), ne_eqb (number_of q) 0 (λ z. omega (arith, positive q)))

-- None, or one that comes after n.
abbrev Later : ℕ → ℕ → Type 0
Later n x = (x ≡ 0) ⊎ (n < x)

later : {n m x : ℕ} (p : Bool) → n < m → Later m x → Later n (cond p m x)
later true h b = inr h
later false h (inl e) = inl e
later false h (inr l) = inr (omega arith)

-- A condition n on both fields, before those that come after it.
both : (n : ℕ) {x y : ℕ} (p q : Bool) → 0 < n → Later n x → Later n y
    → cond p n (cond q n (sooner x y)) ≡ sooner (cond p n x) (cond q n y)
both n true true h a b = rw (ne_eqb n 0 (λ e. omega arith)) (omega arith)
both n true false h a (inl e) = rw (e, ne_eqb n 0 (λ z. omega arith))
both n {y = y} true false h a (inr l) = rw (ne_eqb n 0 (λ e. omega arith), ne_eqb y 0 (λ e. omega arith)) (omega arith)
both n false true h (inl e) b = rw e
both n {x} false true h (inr l) b = rw (ne_eqb x 0 (λ e. omega arith), ne_eqb n 0 (λ e. omega arith)) (omega arith)
both n false false h a b = refl

woven : (a3 b3 a4 b4 a5 b5 a6 b6 : Bool)
    → cond a3 3 (cond b3 3 (cond a4 4 (cond b4 4 (cond a5 5 (cond b5 5 (cond a6 6 (cond b6 6 0)))))))
    ≡ sooner (cond a3 3 (cond a4 4 (cond a5 5 (cond a6 6 0)))) (cond b3 3 (cond b4 4 (cond b5 5 (cond b6 6 0))))
woven a3 b3 a4 b4 a5 b5 a6 b6 =
    let to6 : (p : Bool) → Later 5 (cond p 6 0) = λ p. later p (omega arith) (inl refl) in
    let to5 : (p q : Bool) → Later 4 (cond p 5 (cond q 6 0)) = λ p q. later p (omega arith) (to6 q) in
    let to4 : (p q t : Bool) → Later 3 (cond p 4 (cond q 5 (cond t 6 0))) = λ p q t. later p (omega arith) (to5 q t) in
    rw (
      both 6 a6 b6 (omega arith) (inl refl) (inl refl),
      both 5 a5 b5 (omega arith) (to6 a6) (to6 b6),
      both 4 a4 b4 (omega arith) (to5 a5 a6) (to5 b5 b6),
    )
    (both 3 a3 b3 (omega arith) (to4 a4 a5 a6) (to4 b4 b5 b6))

cond_or : (a b : Bool) (n m : ℕ) → cond (a || b) n m ≡ cond a n (cond b n m)
cond_or true b n m = refl
cond_or false b n m = refl

pub by_record : (ℓ : Language) (s : List ℕ) (A r : ℕ)
    → first_of (record_grounds ℓ s A r)
    ≡ cond (not (known ℓ (kind_at s r))) 2 (cond (not (eqb (zero_byte s r) 0)) 3 (first_of (fields_grounds s A r)))
unfolding of_first fields_grounds record_grounds ground2 ground3
by_record ℓ s A r = simp (or_assoc, cond_or)

-- The fields as the code reads them.
pub by_fields : (s : List ℕ) (A r : ℕ) {held_a held_b : Use} {a b x y : ℕ} → Read s r held_a held_b a b
    → x ≡ first_of (field_grounds s A r held_a a) → y ≡ first_of (field_grounds s A r held_b b)
    → sooner x y ≡ first_of (fields_grounds s A r)
unfolding of_first field_grounds fields_grounds ground4 ground5 ground6
by_fields s A r read ex ey = simp (ex, ey, read.use_a_of, read.use_b_of, read.at_a, read.at_b, cond_or, woven)
