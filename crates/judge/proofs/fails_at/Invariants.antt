-- Each head literal so far is worth less than the body.
use Rattle.std.proofs.Common.{ℕ, ◌<◌}
use Rattle.meaning.specs.Run.{cell_of}
use Rattle.meaning.specs.Rule.{literal}
use Rattle.judge.specs.Read.{word_in}
use Rattle.judge.proofs.fails_at.Given as goal

abbrev pub invariant-loop-literal : goal.invariant-loop-literal
invariant-loop-literal l = (j : ℕ) → j < l.literal-index → literal (cell_of l.trace.width l.trace.cells.now) (word_in l.fn.rule.head j) l.k < l.body
