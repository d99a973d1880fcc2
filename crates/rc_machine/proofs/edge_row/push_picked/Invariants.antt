use Rattle.std.proofs.Common.{◌≡◌, ◌++◌, take}
use Rattle.rc_machine.proofs.Imports.{zip, pick}
use Rattle.rc_machine.proofs.edge_row.push_picked.Given as goal

abbrev pub invariant-loop-col : goal.invariant-loop-col
invariant-loop-col l = l.row.items ≡ l.fn.row.items ++ pick (take l.col-index l.cols) (zip l.extra l.values ++ l.tuple)
