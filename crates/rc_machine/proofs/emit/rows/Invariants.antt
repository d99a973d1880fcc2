use Rattle.std.proofs.Common.{◌≡◌, take}
use Rattle.rc_machine.proofs.Imports.{flat_map, pick}
use Rattle.rc_machine.proofs.emit.rows.Given as goal

abbrev pub invariant-loop-at : goal.invariant-loop-at
invariant-loop-at l = l.values.items ≡ flat_map (pick l.outs) (take l.at l.bindings.tuples)
