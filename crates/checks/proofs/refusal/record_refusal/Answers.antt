-- The kind decides, then the zero byte, then the fields.
use Rattle.std.proofs.Common.{◌≡◌, sym, ◌∙◌, arith}
use borrow.Author.Tests.{eq-eqb, ne_eqb}
use Rattle.meaning.specs.Record.{kind_at, known}
use Rattle.shapes.specs.Uses.{language_meant}
use Rattle.checks.proofs.Order.{by_record}
use Rattle.checks.proofs.refusal.record_refusal.Goals as goal
use Rattle.checks.proofs.refusal.record_refusal.Goals.{After-takes}

-- The question is whether the record's kind is one of the language.
asked : (c : After-takes) → known (language_meant c.args.language) (kind_at c.args.s.now c.args.r) ≡ c.takes.result
asked c = rw (c.takes.ensures, c.kind_of-kind.ensures)

pub returns-then-not-takes : goal.returns-then-not-takes
returns-then-not-takes c = record {
  refusal = sym (by_record _ _ _ _ ∙ rw (asked (goal.at.returns-then-not-takes c).After-takes ∙ c.if-not-takes.true));
  places = λ z. absurd (omega arith);
}

pub returns-then-zero_at-ne0 : goal.returns-then-zero_at-ne0
returns-then-zero_at-ne0 c =
    let known = asked (goal.at.returns-then-zero_at-ne0 c).After-takes ∙ c.if-not-takes.false in
    let stray = rw c.zero_at.ensures at (ne_eqb _ _ c.if-zero_at-ne0.true) in
    record { refusal = sym (by_record _ _ _ _ ∙ rw (known, stray)); places = λ z. absurd (omega arith) }

pub returns : goal.returns
returns c =
    let known = asked (goal.at.returns c).After-takes ∙ c.if-not-takes.false in
    let none = rw c.zero_at.ensures at (eq-eqb _ _ c.if-zero_at-ne0.false) in
    record {
      refusal = c.fields_refusal.ensures.refusal ∙ sym (by_record _ _ _ _ ∙ rw (known, none));
      places = c.fields_refusal.ensures.places;
    }
