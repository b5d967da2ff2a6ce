-- What the kinds of the code mean: each constructor of the definitions by the variant of its name.
--   mode_meant, way_meant, shorthand_meant, kind_meant   the definitions' value for the code's
use Rattle.meaning.specs.Record as spec
use Rattle.records.specs.declared.kind.Mode as mode
use Rattle.records.specs.declared.kind.Way as way
use Rattle.records.specs.declared.kind.Shorthand as shorthand
use Rattle.records.specs.declared.kind.Kind as kind

abbrev pub mode_meant : mode.Mode → spec.Mode
mode_meant mode.TheVariants.Diamond = spec.diamond
mode_meant mode.TheVariants.Box = spec.box

abbrev pub way_meant : way.Way → spec.Way
way_meant way.TheVariants.Ahead = spec.ahead
way_meant way.TheVariants.Back = spec.back

abbrev pub shorthand_meant : shorthand.Shorthand → spec.Shorthand
shorthand_meant shorthand.TheVariants.Denied = spec.denied
shorthand_meant shorthand.TheVariants.Both = spec.both
shorthand_meant shorthand.TheVariants.Either = spec.either
shorthand_meant shorthand.TheVariants.Implies = spec.implies
shorthand_meant (shorthand.TheVariants.End w) = spec.end (way_meant w)
shorthand_meant (shorthand.TheVariants.Beside w m) = spec.beside (way_meant w) (mode_meant m)
shorthand_meant (shorthand.TheVariants.Along w m) = spec.along (way_meant w) (mode_meant m)
shorthand_meant shorthand.TheVariants.Until = spec.until
shorthand_meant shorthand.TheVariants.Since = spec.since

abbrev pub kind_meant : kind.Kind → spec.Kind
kind_meant (kind.TheVariants.Constant b) = spec.constant b
kind_meant kind.TheVariants.Atom = spec.atom
kind_meant (kind.TheVariants.Modal m) = spec.modal (mode_meant m)
kind_meant (kind.TheVariants.Move w) = spec.move (way_meant w)
kind_meant kind.TheVariants.Test = spec.test
kind_meant kind.TheVariants.Choice = spec.choice
kind_meant kind.TheVariants.Sequence = spec.sequence
kind_meant kind.TheVariants.Star = spec.star
kind_meant (kind.TheVariants.Shorthand s) = spec.shorthand (shorthand_meant s)
kind_meant kind.TheVariants.Unknown = spec.unknown
