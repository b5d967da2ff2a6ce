-- Each test is the next ground of the list, and each `return` gives the first that applies.
use Rattle.std.proofs.Common.{◌≡◌, rules, sym, arith}
use Rattle.meaning.specs.Refusal.{first_of, value_grounds}
use Rattle.refusals.specs.Refused.{number_of}
use Rattle.refusals.proofs.Answered.{positive}
use Rattle.value.proofs.Grounds.{refused_formula, sized, refused_cells, refused_room, not_refused}
use Rattle.value.proofs.first_refusal.Goals as goal

pub returns-in_err-formula_refusal : goal.returns-in_err-formula_refusal
returns-in_err-formula_refusal c =
    let why = c.in_err-formula_refusal.field-0.0 in
    let some = positive why in
    let found : number_of why ≡ first_of (value_grounds c.args.records.now c.args.atoms c.args.instants c.args.cells.now c.args.room) =
    refused_formula _ _ _ _ _ c.wrong_size-wrong_size.ensures c.in_err-formula_refusal.ensures (λ e. omega arith) in
    search rules

pub returns-in_err-cells_refusal : goal.returns-in_err-cells_refusal
returns-in_err-cells_refusal c =
    let why = c.in_err-cells_refusal.field-0.0 in
    let some = positive why in
    let found : number_of why ≡ first_of (value_grounds c.args.records.now c.args.atoms c.args.instants c.args.cells.now c.args.room) =
    refused_cells _ _ _ _ _ c.wrong_size-wrong_size.ensures (sym c.in_ok-formula_refusal.ensures) c.in_err-cells_refusal.ensures (λ e. omega arith) in
    search rules

pub new-l-requires : goal.new-l-requires
new-l-requires c = (sized _ _ _ _ 0 c.wrong_size-wrong_size.ensures (sym c.in_ok-formula_refusal.ensures)).1

pub row_start-requires : goal.row_start-requires
row_start-requires c =
    let few = (sized _ _ _ _ 0 c.wrong_size-wrong_size.ensures (sym c.in_ok-formula_refusal.ensures)).0 in
    omega (arith, c.record_count.ensures)

pub returns-then-room-row_start : goal.returns-then-room-row_start
returns-then-room-row_start c =
    refused_room _ _ _ _ _ c.wrong_size-wrong_size.ensures (sym c.in_ok-formula_refusal.ensures) (sym c.in_ok-cells_refusal.ensures)
    (rw (c.row_start.ensures, c.record_count.ensures, c.new-l.ensures) at c.if-room-row_start.true)

pub returns : goal.returns
returns c =
    not_refused _ _ _ _ _ c.wrong_size-wrong_size.ensures (sym c.in_ok-formula_refusal.ensures) (sym c.in_ok-cells_refusal.ensures)
    (rw (c.row_start.ensures, c.record_count.ensures, c.new-l.ensures) at c.if-room-row_start.false)
