-- Before record r no ground applies, and the places of the first r records are counted.
use Rattle.meaning.specs.Run.{each}
use Rattle.meaning.specs.Refusal.{record_grounds}
use Rattle.meaning.proofs.First.{Clear}
use Rattle.shapes.specs.Uses.{language_meant}
use Rattle.checks.specs.Places.{Places}
use Rattle.checks.proofs.refusal.records_refusal.Given as goal

abbrev pub invariant-loop-r : goal.invariant-loop-r
invariant-loop-r l = Clear (each l.r (record_grounds (language_meant l.language) l.s l.atoms)) × Places l.s l.r l.counts
