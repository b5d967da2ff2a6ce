-- The values after each turn are those of the rule over the instants that were passed.
use Rattle.std.proofs.Common.{refl, rules}
use Rattle.std.proofs.lemmas.List.{places}
use Rattle.meaning.specs.{Three.greatest, Three.least, Value.diamond_row, Value.box_row, Value.modal_row}
use Rattle.meaning.proofs.Bounds.{greatest_more, least_more}
use Rattle.rows.specs.Cells.{at, row_at}
use Rattle.tables.proofs.modal_cell.Goals as goal

pub returns-in-Diamond : goal.returns-in-Diamond
unfolding modal_row diamond_row greatest
returns-in-Diamond c =
    let a = c.args in
    rw c.in-Diamond.is
    (c.over_instants.ensures a.l (λ j. diamond_row j (at a.s.now) (row_at a.table.now a.from) a.k) (search (rules, places)) refl
    (λ j v h e. rw (greatest_more j) (search (rules, places))))

pub returns-in-Box : goal.returns-in-Box
unfolding modal_row box_row least
returns-in-Box c =
    let a = c.args in
    rw c.in-Box.is
    (c.over_instants-in-Box.ensures a.l (λ j. box_row j (at a.s.now) (row_at a.table.now a.from) a.k) (search (rules, places)) refl
    (λ j v h e. rw (least_more j) (search (rules, places))))
