use Rattle.rc_spec.proofs.Imports.{ap, length, arith, length-rows_from}
use Rattle.rc_spec.proofs.row_list.RowList.len.Goals as goal

pub returns : goal.returns
returns c =
    let len = c.len.ensures in
    let rows = length-rows_from 0 c.self.inside.ends c.self.inside.values.items in
    let seen = ap length c.self.view_is in
    omega (arith, len, rows, seen)
