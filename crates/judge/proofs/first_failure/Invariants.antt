-- Each rule before i holds at all its instants, and rule i at each instant before.
use Rattle.std.proofs.Common.{ℕ, ◌<◌}
use Rattle.meaning.specs.Run.{cell_of}
use Rattle.meaning.specs.Rule.{rule_at}
use Rattle.meaning.specs.Judge.{HoldsAt}
use Rattle.judge.proofs.PlaceStretch.{Stretch}
use Rattle.judge.proofs.first_failure.Given as goal

abbrev pub invariant-loop-i : goal.invariant-loop-i
invariant-loop-i l =
    (q j : ℕ) → q < l.i → j < l.trace.instants → HoldsAt l.rules l.trace.instants (cell_of l.trace.width l.trace.cells.now) q j

abbrev pub invariant-loop-instant : goal.invariant-loop-instant
invariant-loop-instant l = record {
  stretch : Stretch l.trace.instants (rule_at l.rules l.i).place l.initial.instant l.instant-end;
  held : (j : ℕ) → j < l.instant → HoldsAt l.rules l.trace.instants (cell_of l.trace.width l.trace.cells.now) l.i j;
}
