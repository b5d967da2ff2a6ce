-- The numbers by which a caller may speak of kinds in pairs.
--   way_of n         the way of a move, by its kind's number
--   mode_of n        the mode of a modality, by its kind's number
use Rattle.std.specs.Prelude.{ℕ, cond, eqb}
use Rattle.meaning.specs.Record.{Way, ahead, back, Mode, diamond, box}

unfoldable pub way_of : ℕ → Way
way_of kind = cond (eqb kind 5) ahead back

unfoldable pub mode_of : ℕ → Mode
mode_of kind = cond (eqb kind 3) diamond box
