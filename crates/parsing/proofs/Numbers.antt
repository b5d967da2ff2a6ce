-- An atom's number: two digits where they are a number, else one.
use Prim.Native.Nat.{ℕ, ◌+◌, ◌-◌, ◌≤◌, ◌<◌}
use mathlib.Core.Path.{◌≡◌, refl, ◌∙◌}
use mathlib.Core.Bool.{true, false, cond}
use mathlib.Core.List.{List, [], ◌∷◌}
use mathlib.Core.Option.{Option, none, some}
use native.Mathlib.Omega.{arith}
use lib.ListN.{length, get_or, take, drop, length-drop}
use lib.Seq.{drop-drop}
use Rattle.std.specs.Prelude.{Some, None, Option as Perhaps, IsSome}
use Rattle.std.proofs.lemmas.List.{take_rest}
use Rattle.meaning.specs.Text.{digit, two_digits, number, one_digit, read_number}
use Rattle.parsing.specs.declared.ends.Atom.{Atom}
use Rattle.std.proofs.lemmas.Bool.Decides.{nat_tests}
use Rattle.parsing.specs.Places.{nought, Left, rest, Numbered}
use Rattle.parsing.proofs.Places.{clash, no_read}

pub digit_low : (b : ℕ) → digit b ≡ true → nought ≤ b
unfolding digit
digit_low b h = grind (arith, nat_tests)

pub two_low : (b c : ℕ) → two_digits b c ≡ true → (nought ≤ b) × (nought ≤ c)
unfolding two_digits digit
two_low b c h = (grind (arith, nat_tests), grind (arith, nat_tests))

-- Where a text begins with no number of two digits.
abbrev pub NotTwo : List ℕ → Type 0
NotTwo u = 2 ≤ length u → two_digits (get_or u 0 0) (get_or u 1 0) ≡ false

read_two : (u : List ℕ) → 2 ≤ length u → two_digits (get_or u 0 0) (get_or u 1 0) ≡ true → read_number u ≡ some (number (get_or u 0 0) (get_or u 1 0), drop 2 u)
unfolding read_number
read_two [] l h = absurd (omega arith)
read_two (b ∷ []) l h = absurd (omega arith)
read_two (b ∷ c ∷ u) l h = rw h

read_one : (u : List ℕ) → NotTwo u → read_number u ≡ cond (digit (get_or u 0 0)) (some (get_or u 0 0 - nought, drop 1 u)) none
unfolding read_number one_digit digit
read_one [] h = refl
read_one (b ∷ []) h = refl
read_one (b ∷ c ∷ u) h = rw (h (omega arith))

one_long : (u : List ℕ) → digit (get_or u 0 0) ≡ true → 1 ≤ length u
unfolding digit
one_long [] h = clash h
one_long (b ∷ u) h = omega arith

read_nothing : (u : List ℕ) → length u < 1 → read_number u ≡ none
unfolding read_number
read_nothing [] l = refl
read_nothing (b ∷ u) l = absurd (omega arith)

module _ (t u : List ℕ) (at : ℕ) (low : at ≤ length t) (same : u ≡ take (length t - at) (drop at t)) where
  all : u ≡ drop at t
  all = same ∙ take_rest t at

  long : length u + at ≡ length t
  long = rw all (omega (arith, length-drop at t))

  pub numbered_two : {n : ℕ} → 2 ≤ length u → two_digits (get_or u 0 0) (get_or u 1 0) ≡ true
      → (n ≡ number (get_or u 0 0) (get_or u 1 0)) × (n < 65_536) → Numbered t at (Some record { end = at + 2; value = n })
  numbered_two l two (value, small) = record {
    within = (omega arith, omega (arith, long));
    there = rw (← all, ← drop-drop 2 at t, ← all) (read_two u l two ∙ rw value);
    small = small;
  }

  module _ (not_two : NotTwo u) where
    pub numbered_one : {n : ℕ} → digit (get_or u 0 0) ≡ true → (n ≡ get_or u 0 0 - nought) × (n < 256)
        → Numbered t at (Some record { end = at + 1; value = n })
    numbered_one one (value, small) = record {
      within = (omega arith, omega (arith, long, one_long u one));
      there = rw (← all, ← drop-drop 1 at t, ← all) (read_one u not_two ∙ rw (one, value));
      small = omega arith;
    }

    pub numbered_none : digit (get_or u 0 0) ≡ false → Numbered t at None
    numbered_none one = record { within = tt; there = rw (← all) (read_one u not_two ∙ rw one); small = tt }

  pub numbered_nothing : length u < 1 → Numbered t at None
  numbered_nothing l = record { within = tt; there = rw (← all) (read_nothing u l); small = tt }

-- The number that was read, and 0 for none.
unfoldable pub value_in : Option (ℕ × List ℕ) → ℕ
value_in none = 0
value_in (some (i, u)) = i

-- Where a number is read, it is there, and ends where what is left of it begins.
module _ {t : List ℕ} {at : ℕ} where
  pub number_read : (r : Perhaps Atom) → Numbered t at r → (s u : List ℕ) → Left t at s → rest (read_number s) ≡ some u → IsSome r
  unfolding rest
  number_read None a s u h reads = no_read (rw (h.is, a.there) at reads)
  number_read (Some x) a s u h reads = refl

  pub number_left : {x : Atom} → Numbered t at (Some x) → (s u : List ℕ) → Left t at s → rest (read_number s) ≡ some u
      → Left t x.end u × (x.value ≡ value_in (read_number s))
  unfolding rest value_in
  number_left a s u h reads =
      let e : some (drop _ t) ≡ some u = rw (h.is, a.there) at reads in
      (record { within = a.within.1; is = cc }, rw (h.is, a.there))
