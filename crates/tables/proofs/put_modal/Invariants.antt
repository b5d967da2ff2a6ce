-- The first k cells of the row are the modality's over the row from `from` on.
use Rattle.meaning.specs.Value.{modal_row}
use Rattle.records.specs.Kinds.{mode_meant}
use Rattle.rows.specs.Cells.{at, row_at}
use Rattle.rows.proofs.ByCell.{Along}
use Rattle.tables.proofs.put_modal.Given as goal

abbrev pub invariant-loop-k : goal.invariant-loop-k
invariant-loop-k l = Along l.start (modal_row (mode_meant l.mode) l.l (at l.s) (row_at l.initial.table l.from)) l.initial.table l.table l.k
