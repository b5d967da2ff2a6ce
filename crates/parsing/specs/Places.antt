-- Reading by places of a text, instead of by what is left of it.
--   left_at t r         what is left of t from a place on, where there is one
--   Left t at s         s is what is left of t from the place `at` on
--   rest r              what a reading left
--   Within t at r       the place r, where there is one, is not before the place `at` and not beyond the end of t
--   Ends t f at r       the reading f, begun at the place `at`, ends at the place r, or nowhere
--   Deep read t at r    the same at every depth that is enough
--   Numbered t at r     the same of an atom's number, with its value
--   Stars t at e        from the place `at` on up to e stand stars, and none at e
use Prim.Native.Char.{code}
use Rattle.std.specs.Prelude.{ℕ, ◌+◌, ◌≤◌, ◌<◌, ◌≡◌, List, length, get_or, drop, Option as Perhaps, Some, None, IfSome, option_map}
use Rattle.std.proofs.Math.Option.{Option, none, some}
use Rattle.meaning.specs.Text.{else, after, ascii, read_number}
use Rattle.parsing.specs.declared.ends.Atom.{Atom}

-- The digit 0.
abbrev pub nought : ℕ
nought = code "0"

-- The byte # that a constant begins with, and what follows its sign once that byte is read.
abbrev pub hash : ℕ
hash = code "#"

abbrev pub after_hash : List ℕ → Option (List ℕ)
after_hash u = else (after (ascii "false") u) (after (ascii "true") u)

abbrev pub left_at : List ℕ → Perhaps ℕ → Option (List ℕ)
left_at t None = none
left_at t (Some e) = some (drop e t)

pub record Left (t : List ℕ) (at : ℕ) (s : List ℕ) : Type 0 where
  pub within : at ≤ length t
  pub is : s ≡ drop at t

unfoldable pub rest : {T : Type 0} → Option (T × List ℕ) → Option (List ℕ)
rest none = none
rest (some (x, u)) = some u

abbrev pub Within : List ℕ → ℕ → Perhaps ℕ → Type 0
Within t at r = IfSome r (λ e. (at ≤ e) × (e ≤ length t))

pub record Ends (t : List ℕ) (f : List ℕ → Option (List ℕ)) (at : ℕ) (r : Perhaps ℕ) : Type 0 where
  pub within : Within t at r
  pub there : f (drop at t) ≡ left_at t r

pub record Deep {T : Type 0} (read : ℕ → List ℕ → Option (T × List ℕ)) (t : List ℕ) (at : ℕ) (r : Perhaps ℕ) : Type 0 where
  pub within : Within t at r
  pub there : (n : ℕ) → length t ≤ n + at → rest (read n (drop at t)) ≡ left_at t r

-- What was read of an atom, with what is left behind it.
abbrev pub atom_read : List ℕ → Perhaps Atom → Option (ℕ × List ℕ)
atom_read t None = none
atom_read t (Some a) = some (a.value, drop a.end t)

pub record Numbered (t : List ℕ) (at : ℕ) (r : Perhaps Atom) : Type 0 where
  pub within : Within t at (option_map (λ (a : Atom). a.end) r)
  pub there : read_number (drop at t) ≡ atom_read t r
  pub small : IfSome r (λ a. a.value < 65_536)

pub record Stars (t : List ℕ) (at e : ℕ) : Type 0 where
  pub onward : at ≤ e
  pub low : e ≤ length t
  pub stars : (i : ℕ) → at ≤ i → i < e → get_or t i 0 ≡ code "*"
  pub over : get_or t e 0 ≡ code "*" → ⊥
