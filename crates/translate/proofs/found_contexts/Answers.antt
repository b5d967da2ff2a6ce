-- The formula's grounds come first, and after them the room, for as many rules as there are.
use Rattle.std.proofs.Common.{◌≡◌, rules, sym, ◌∙◌, arith}
use Rattle.meaning.specs.{Record.count, Refusal.first_of, Refusal.translate_grounds}
use Rattle.meaning.proofs.{Accepted.starred_formed, RuleCount.sum_few, RuleCount.translation_counted}
use Rattle.refusals.specs.Refused.{number_of}
use Rattle.refusals.proofs.Answered.{positive}
use Rattle.translate.proofs.RoomGrounds.{refused, refused_room, not_refused}
use Rattle.translate.proofs.found_contexts.Goals as goal

pub returns-in_err-formula_refusal-clause-refusal : goal.returns-in_err-formula_refusal-clause-refusal
returns-in_err-formula_refusal-clause-refusal c =
    let why = c.in_err-formula_refusal.field-0.0 in
    let some = positive why in
    let found : number_of why ≡ first_of (translate_grounds c.args.records.now c.args.atoms c.args.room) =
    refused _ _ _ c.in_err-formula_refusal.ensures (λ e. omega arith) in
    search rules

pub find_contexts-requires : goal.find_contexts-requires
find_contexts-requires c = record { atoms = _; formed = starred_formed _ _ (sym c.in_ok-formula_refusal.ensures) }

pub rule_count-requires : goal.rule_count-requires
rule_count-requires c =
    (record { atoms = _; formed = starred_formed _ _ (sym c.in_ok-formula_refusal.ensures) }, c.find_contexts.ensures)

pub overflow_mul-rule_count : goal.overflow_mul-rule_count
overflow_mul-rule_count c =
    let s = c.args.records.now in
    let formed = starred_formed s c.args.atoms (sym c.in_ok-formula_refusal.ensures) in
    omega (arith, c.rule_count.ensures, sum_few s (count s), formed.few)

pub returns-then-room-rule_count-clause-refusal : goal.returns-then-room-rule_count-clause-refusal
returns-then-room-rule_count-clause-refusal c =
    let number = c.rule_count.ensures ∙ sym (translation_counted c.args.records.now c.args.atoms) in
    refused_room _ _ _ (sym c.in_ok-formula_refusal.ensures) (rw number at c.if-room-rule_count.true)

pub returns-clause-refusal : goal.returns-clause-refusal
returns-clause-refusal c =
    let number = c.rule_count.ensures ∙ sym (translation_counted c.args.records.now c.args.atoms) in
    not_refused _ _ _ (sym c.in_ok-formula_refusal.ensures) (rw number at c.if-room-rule_count.false)
