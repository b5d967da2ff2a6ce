-- The table is cleared, the last record is valued, and with it all records.
use Rattle.std.proofs.Common.{suc, ◌-◌, ◌≡◌, arith}
use Rattle.valuing.proofs.Filled.{first_value, table_written}
use Rattle.valuing.proofs.fill.Goals as goal

pub returns : goal.returns
returns c =
    let w = c.requires in
    let number = c.record_count-n.ensures in
    let one : suc (c.record_count-n.result - 1) ≡ c.record_count-n.result = omega (arith, w.formed.some) in
    let clear = rw c.row_start.ensures at c.put_constant.ensures in
    let v = c.value_formula.ensures in
    (first_value w number one clear v _ c.row_start-2.ensures, table_written w number one clear v)
