-- What the code's sorts, uses and languages mean: each constructor of the definitions by the variant of its name.
--   sort_meant sort, use_meant use, language_meant language   the definitions' value for the code's
--   language_of n                                             the language that the number n stands for: 1 is full
use Rattle.std.specs.Prelude.{ℕ, cond, eqb}
use Rattle.meaning.specs.Record as spec
use Rattle.shapes.specs.declared.Sort as sort
use Rattle.shapes.specs.declared.Use as «use»
use Rattle.shapes.specs.declared.Language as language

abbrev pub sort_meant : sort.Sort → spec.Sort
sort_meant sort.TheVariants.Formula = spec.formula
sort_meant sort.TheVariants.Path = spec.path

abbrev pub use_meant : «use».Use → spec.Use
use_meant «use».TheVariants.Unused = spec.unused
use_meant «use».TheVariants.AtomNumber = spec.atomNumber
use_meant («use».TheVariants.Child s) = spec.child (sort_meant s)

abbrev pub language_meant : language.Language → spec.Language
language_meant language.TheVariants.Core = spec.core
language_meant language.TheVariants.Full = spec.full

unfoldable pub language_of : ℕ → spec.Language
language_of n = cond (eqb n 1) spec.full spec.core
