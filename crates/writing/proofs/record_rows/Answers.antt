-- The labels are small, and the rules asked for are those of the record.
use Rattle.std.proofs.Common.{arith}
use Rattle.writing.proofs.Rowing.{first_small}
use Rattle.writing.proofs.record_rows.Goals as goal

pub rows_of-requires : goal.rows_of-requires
rows_of-requires c =
    let (w, _, l) = c.requires in
    let few = w.few in
    let atoms = w.atoms in
    let a = first_small w l in
    (omega arith, omega arith, omega arith, omega arith)
