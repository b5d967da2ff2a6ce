-- Specification, Records: formulas F and paths P.
--   may_stand p     whether the path may stand still
--   goes way p     whether the path has a step (ahead) or a back step (back) of its own
--   form_atoms F, path_atoms P    the least number that all their atoms are below
use Rattle.std.specs.Prelude.{ℕ, ◌+◌, max, Bool, true, false, ◌&&◌, ◌||◌}
use Rattle.meaning.specs.Record.{Mode, Way, ahead, back}

mutual
  pub data Form : Type 0 where
    constant : Bool → Form
    atom : ℕ → Form
    modal : Mode → Path → Form → Form

  pub data Path : Type 0 where
    move : Way → Path
    test : Form → Path
    choice sequence : Path → Path → Path
    star : Path → Path

-- Translation: a test or a star may stand still, a choice with an arm that may, a sequence of two that may.
unfoldable pub may_stand : Path → Bool
may_stand (move w) = false
may_stand (test f) = true
may_stand (choice p q) = may_stand p || may_stand q
may_stand (sequence p q) = may_stand p && may_stand q
may_stand (star p) = true

unfoldable pub same_way : Way → Way → Bool
same_way ahead ahead = true
same_way ahead back = false
same_way back ahead = false
same_way back back = true

-- Translation: the directions of a path are those of its own records, not of those inside a test's formula.
unfoldable pub goes : Way → Path → Bool
goes way (move w) = same_way way w
goes way (test f) = false
goes way (choice p q) = goes way p || goes way q
goes way (sequence p q) = goes way p || goes way q
goes way (star p) = goes way p

unfoldable mutual
  pub form_atoms : Form → ℕ
  form_atoms (constant v) = 0
  form_atoms (atom i) = i + 1
  form_atoms (modal m p f) = max (path_atoms p) (form_atoms f)

  pub path_atoms : Path → ℕ
  path_atoms (move w) = 0
  path_atoms (test f) = form_atoms f
  path_atoms (choice p q) = max (path_atoms p) (path_atoms q)
  path_atoms (sequence p q) = max (path_atoms p) (path_atoms q)
  path_atoms (star p) = path_atoms p
