-- What the steps of the code mean: each constructor of the definitions by the variant of its name.
--   core_meant   the kind of the definitions for a kind of the core
--   step_meant   the step of the definitions for a step
use Rattle.std.specs.Prelude.{true, false}
use Rattle.meaning.specs.Record.{Kind, constant, atom, modal, move, test, choice, sequence, star, diamond, box, ahead, back}
use Rattle.expand.specs.Steps as spec
use Rattle.expand.specs.declared.steps.Core as core
use Rattle.expand.specs.declared.steps.Step as step

abbrev pub core_meant : core.Core → Kind
core_meant core.TheVariants.False = constant false
core_meant core.TheVariants.True = constant true
core_meant core.TheVariants.Atom = atom
core_meant core.TheVariants.Diamond = modal diamond
core_meant core.TheVariants.Box = modal box
core_meant core.TheVariants.Ahead = move ahead
core_meant core.TheVariants.Back = move back
core_meant core.TheVariants.Test = test
core_meant core.TheVariants.Choice = choice
core_meant core.TheVariants.Sequence = sequence
core_meant core.TheVariants.Star = star

abbrev pub step_meant : step.Step → spec.Step
step_meant step.TheVariants.PartA = spec.part_a
step_meant step.TheVariants.PartB = spec.part_b
step_meant step.TheVariants.Atom = spec.atom
step_meant (step.TheVariants.Leaf core) = spec.leaf (core_meant core)
step_meant (step.TheVariants.One core) = spec.one (core_meant core)
step_meant (step.TheVariants.Two core) = spec.two (core_meant core)
