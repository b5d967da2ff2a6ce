-- What a kind, a use, a sort or a language of the code means tells which it is.
use Rattle.std.proofs.Common.{◌≡◌, refl, sym, ap, ◌∙◌}
use Rattle.meaning.specs.Record as spec
use Rattle.records.specs.declared.kind.Mode as mode
use Rattle.records.specs.declared.kind.Way as way
use Rattle.records.specs.declared.kind.Shorthand as shorthand
use Rattle.records.specs.declared.kind.Kind as kind
use Rattle.records.specs.Kinds.{mode_meant, way_meant, shorthand_meant, kind_meant}
use Rattle.shapes.specs.declared.Sort as sort
use Rattle.shapes.specs.declared.Use as held
use Rattle.shapes.specs.declared.Language as language
use Rattle.shapes.specs.Uses.{sort_meant, use_meant, language_meant}

mode_named : spec.Mode → mode.Mode
mode_named spec.diamond = mode.TheVariants.Diamond
mode_named spec.box = mode.TheVariants.Box

way_named : spec.Way → way.Way
way_named spec.ahead = way.TheVariants.Ahead
way_named spec.back = way.TheVariants.Back

shorthand_named : spec.Shorthand → shorthand.Shorthand
shorthand_named spec.denied = shorthand.TheVariants.Denied
shorthand_named spec.both = shorthand.TheVariants.Both
shorthand_named spec.either = shorthand.TheVariants.Either
shorthand_named spec.implies = shorthand.TheVariants.Implies
shorthand_named (spec.end w) = shorthand.TheVariants.End (way_named w)
shorthand_named (spec.beside w m) = shorthand.TheVariants.Beside (way_named w) (mode_named m)
shorthand_named (spec.along w m) = shorthand.TheVariants.Along (way_named w) (mode_named m)
shorthand_named spec.until = shorthand.TheVariants.Until
shorthand_named spec.since = shorthand.TheVariants.Since

kind_named : spec.Kind → kind.Kind
kind_named (spec.constant v) = kind.TheVariants.Constant v
kind_named spec.atom = kind.TheVariants.Atom
kind_named (spec.modal m) = kind.TheVariants.Modal (mode_named m)
kind_named (spec.move w) = kind.TheVariants.Move (way_named w)
kind_named spec.test = kind.TheVariants.Test
kind_named spec.choice = kind.TheVariants.Choice
kind_named spec.sequence = kind.TheVariants.Sequence
kind_named spec.star = kind.TheVariants.Star
kind_named (spec.shorthand s) = kind.TheVariants.Shorthand (shorthand_named s)
kind_named spec.unknown = kind.TheVariants.Unknown

mode_again : (m : mode.Mode) → mode_named (mode_meant m) ≡ m
unfolding mode_named
mode_again mode.TheVariants.Diamond = refl
mode_again mode.TheVariants.Box = refl

pub one_mode : (x y : mode.Mode) → mode_meant x ≡ mode_meant y → x ≡ y
one_mode x y e = sym (mode_again x) ∙ ap mode_named e ∙ mode_again y

way_again : (w : way.Way) → way_named (way_meant w) ≡ w
unfolding way_named
way_again way.TheVariants.Ahead = refl
way_again way.TheVariants.Back = refl

pub one_way : (x y : way.Way) → way_meant x ≡ way_meant y → x ≡ y
one_way x y e = sym (way_again x) ∙ ap way_named e ∙ way_again y

shorthand_again : (s : shorthand.Shorthand) → shorthand_named (shorthand_meant s) ≡ s
unfolding shorthand_named
shorthand_again shorthand.TheVariants.Denied = refl
shorthand_again shorthand.TheVariants.Both = refl
shorthand_again shorthand.TheVariants.Either = refl
shorthand_again shorthand.TheVariants.Implies = refl
shorthand_again (shorthand.TheVariants.End w) = ap shorthand.TheVariants.End (way_again w)
shorthand_again (shorthand.TheVariants.Beside w m) = rw (way_again w, mode_again m)
shorthand_again (shorthand.TheVariants.Along w m) = rw (way_again w, mode_again m)
shorthand_again shorthand.TheVariants.Until = refl
shorthand_again shorthand.TheVariants.Since = refl

kind_again : (k : kind.Kind) → kind_named (kind_meant k) ≡ k
unfolding kind_named
kind_again (kind.TheVariants.Constant v) = refl
kind_again kind.TheVariants.Atom = refl
kind_again (kind.TheVariants.Modal m) = ap kind.TheVariants.Modal (mode_again m)
kind_again (kind.TheVariants.Move w) = ap kind.TheVariants.Move (way_again w)
kind_again kind.TheVariants.Test = refl
kind_again kind.TheVariants.Choice = refl
kind_again kind.TheVariants.Sequence = refl
kind_again kind.TheVariants.Star = refl
kind_again (kind.TheVariants.Shorthand s) = ap kind.TheVariants.Shorthand (shorthand_again s)
kind_again kind.TheVariants.Unknown = refl

pub one_kind : (x y : kind.Kind) → kind_meant x ≡ kind_meant y → x ≡ y
one_kind x y e = sym (kind_again x) ∙ ap kind_named e ∙ kind_again y

-- ---- what fields hold
sort_named : spec.Sort → sort.Sort
sort_named spec.formula = sort.TheVariants.Formula
sort_named spec.path = sort.TheVariants.Path

use_named : spec.Use → held.Use
use_named spec.unused = held.TheVariants.Unused
use_named spec.atomNumber = held.TheVariants.AtomNumber
use_named (spec.child s) = held.TheVariants.Child (sort_named s)

sort_again : (s : sort.Sort) → sort_named (sort_meant s) ≡ s
unfolding sort_named
sort_again sort.TheVariants.Formula = refl
sort_again sort.TheVariants.Path = refl

use_again : (u : held.Use) → use_named (use_meant u) ≡ u
unfolding use_named
use_again held.TheVariants.Unused = refl
use_again held.TheVariants.AtomNumber = refl
use_again (held.TheVariants.Child s) = ap held.TheVariants.Child (sort_again s)

pub one_sort : (x y : sort.Sort) → sort_meant x ≡ sort_meant y → x ≡ y
one_sort x y e = sym (sort_again x) ∙ ap sort_named e ∙ sort_again y

pub one_use : (x y : held.Use) → use_meant x ≡ use_meant y → x ≡ y
one_use x y e = sym (use_again x) ∙ ap use_named e ∙ use_again y

-- ---- languages
language_named : spec.Language → language.Language
language_named spec.core = language.TheVariants.Core
language_named spec.full = language.TheVariants.Full

language_again : (l : language.Language) → language_named (language_meant l) ≡ l
unfolding language_named
language_again language.TheVariants.Core = refl
language_again language.TheVariants.Full = refl

pub one_language : (x y : language.Language) → language_meant x ≡ language_meant y → x ≡ y
one_language x y e = sym (language_again x) ∙ ap language_named e ∙ language_again y
