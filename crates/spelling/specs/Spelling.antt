-- The text of a record's tree.
--   sign_of kind          the sign of a kind, an atom's without its number; a back step has none
--   own_sign kind a       the sign of a record of the kind whose field a holds a
--   text_at s r           the text of record r's tree
--   Spellable s           s is the records of a formula in core kinds
--   Spelling s r at       r is one of them, and its text fits from the place `at` on
use Rattle.std.specs.Prelude.{ℕ, ◌+◌, ◌<◌, ◌≤◌, true, false, List, [], ◌++◌, length}
use Rattle.meaning.specs.Record.{core, count, kind_at, Sort, sort_of}
use Rattle.meaning.specs.Record.{Kind, constant, atom, modal, move, test, choice, sequence, star, shorthand, unknown}
use Rattle.meaning.specs.Tree.{Tree, as_form, as_path, tree_at}
use Rattle.meaning.specs.Text.{false_sign, true_sign, atom_sign, mode_sign, move_sign, test_sign, choice_sign, sequence_sign, star_sign}
use Rattle.meaning.specs.Text.{decimal, spell, spell_path, most_text}
use Rattle.meaning.specs.WellFormed.{WellFormed}

-- ---- signs
unfoldable pub sign_of : Kind → List ℕ
sign_of (constant false) = false_sign
sign_of (constant true) = true_sign
sign_of atom = atom_sign
sign_of (modal m) = mode_sign m
sign_of (move w) = move_sign w
sign_of test = test_sign
sign_of choice = choice_sign
sign_of sequence = sequence_sign
sign_of star = star_sign
sign_of (shorthand σ) = []
sign_of unknown = []

unfoldable pub own_sign : Kind → ℕ → List ℕ
own_sign (constant v) a = sign_of (constant v)
own_sign atom a = sign_of atom ++ decimal a
own_sign (modal m) a = sign_of (modal m)
own_sign (move w) a = sign_of (move w)
own_sign test a = sign_of test
own_sign choice a = sign_of choice
own_sign sequence a = sign_of sequence
own_sign star a = sign_of star
own_sign (shorthand σ) a = []
own_sign unknown a = []

-- ---- texts
abbrev pub text_of : Sort → Tree → List ℕ
text_of Sort.formula t = spell (as_form t)
text_of Sort.path t = spell_path (as_path t)

abbrev pub text_at : List ℕ → ℕ → List ℕ
text_at s r = text_of (sort_of (kind_at s r)) (tree_at s r)

pub record Spellable (s : List ℕ) : Type 0 where
  pub atoms : ℕ
  pub formed : WellFormed core s atoms

pub record Spelling (s : List ℕ) (r at : ℕ) : Type 0 where
  pub whole : Spellable s
  pub index : r < count s
  pub room : at + length (text_at s r) ≤ most_text
