-- The sooner of the fields' refusals is the record's; where there is none, both fields' children are counted.
use Rattle.std.proofs.Common.{sym, ap, ◌∙◌}
use Rattle.meaning.specs.Record.{use_a, use_b}
use Rattle.shapes.specs.Uses.{use_meant}
use Rattle.checks.proofs.Fields.{Read}
use Rattle.checks.proofs.Order.{by_fields, none_sooner}
use Rattle.checks.proofs.Counting.{more}
use Rattle.checks.proofs.refusal.fields_refusal.Goals as goal

pub returns : goal.returns
returns c =
    let read : Read c.args.s.now c.args.r (use_meant c.use_a-held_a.result) (use_meant c.use_b-held_b.result) c.field_a-a.result c.field_b-b.result = record {
      use_a_of = c.use_a-held_a.ensures ∙ ap use_a c.kind_of-kind.ensures;
      use_b_of = c.use_b-held_b.ensures ∙ ap use_b c.kind_of-kind.ensures;
      at_a = c.field_a-a.ensures;
      at_b = c.field_b-b.ensures;
    } in
    record {
      refusal = c.sooner.ensures ∙ by_fields _ _ _ read c.field_refusal-first.ensures.refusal c.field_refusal-second.ensures.refusal;
      places = λ z.
          let (x, y) = none_sooner _ _ (sym c.sooner.ensures ∙ z) in
          more read c.requires.2 c.field_refusal-first.ensures c.field_refusal-second.ensures x y;
    }
