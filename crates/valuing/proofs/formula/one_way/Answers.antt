-- Both parts of a sequence are earlier records, and the loop goes on with one of them if the other is a test.
use Rattle.std.proofs.Common.{◌<◌, sym, arith}
use Rattle.valuing.specs.Valuing.{Moves}
use Rattle.valuing.proofs.Moved.{parts_earlier, moves_tested, moves_testing}
use Rattle.valuing.proofs.formula.one_way.Goals.{After-field_b-b}
use Rattle.valuing.proofs.formula.one_way.Goals as goal

earlier : (c : After-field_b-b) → (c.field_a-a.result < c.loop-way.q) × (c.field_b-b.result < c.loop-way.q)
earlier c = parts_earlier c.requires.0.1 c.loop-way.invariant.index c.in-Sequence.ensures c.field_a-a.ensures c.field_b-b.ensures

pub returns-in-Move : goal.returns-in-Move
returns-in-Move c = c.loop-way.invariant.leads _ (Moves.itself (sym c.in-Move.ensures))

pub is_test-requires : goal.is_test-requires
is_test-requires c = omega (arith, (earlier (goal.at.is_test-requires c).After-field_b-b).0, c.loop-way.invariant.index)

pub is_test-requires-else-is_test : goal.is_test-requires-else-is_test
is_test-requires-else-is_test c =
    omega (arith, (earlier (goal.at.is_test-requires-else-is_test c).After-field_b-b).1, c.loop-way.invariant.index)

pub loop-way-smaller-then-is_test : goal.loop-way-smaller-then-is_test
loop-way-smaller-then-is_test c = (earlier (goal.at.loop-way-smaller-then-is_test c).After-field_b-b).1

pub loop-way-smaller : goal.loop-way-smaller
loop-way-smaller c = (earlier (goal.at.loop-way-smaller c).After-field_b-b).0

pub loop-way-preserved-then-is_test : goal.loop-way-preserved-then-is_test
loop-way-preserved-then-is_test c = record {
  index = omega (arith, (earlier (goal.at.loop-way-preserved-then-is_test c).After-field_b-b).1, c.loop-way.invariant.index);
  leads = λ w m. c.loop-way.invariant.leads w
      (moves_tested c.in-Sequence.ensures c.field_a-a.ensures c.field_b-b.ensures (c.is_test.ensures.0 c.if-is_test.true) m);
}

pub loop-way-preserved : goal.loop-way-preserved
loop-way-preserved c = record {
  index = omega (arith, (earlier (goal.at.loop-way-preserved c).After-field_b-b).0, c.loop-way.invariant.index);
  leads = λ w m. c.loop-way.invariant.leads w
      (moves_testing c.in-Sequence.ensures c.field_a-a.ensures c.field_b-b.ensures
      (c.is_test-else-is_test.ensures.0 c.if-is_test-2.true) m);
}
