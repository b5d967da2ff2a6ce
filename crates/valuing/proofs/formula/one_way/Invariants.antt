-- A move with tests about it at record q is one at p too; the record number falls.
use Rattle.std.proofs.Common.{◌<◌}
use Rattle.meaning.specs.Record.{Way, count}
use Rattle.valuing.specs.Valuing.{Moves}
use Rattle.valuing.proofs.formula.one_way.Given as goal

abbrev pub invariant-loop-way : goal.invariant-loop-way
invariant-loop-way l = record {
  index : l.q < count l.records;
  leads : (w : Way) → Moves l.records w l.q → Moves l.records w l.p;
}

abbrev pub decreases-loop-way : goal.decreases-loop-way
decreases-loop-way l = l.q
