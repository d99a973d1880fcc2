use Rattle.std.proofs.Common.{◌≡◌, ◌++◌, codes, take}
use Rattle.rc_plan.proofs.Imports.{flat_map, column_text}
use Rattle.rc_plan.proofs.printing.push_probe.Given as goal

abbrev pub invariant-loop-place : goal.invariant-loop-place
invariant-loop-place l = l.text.items ≡ l.fn.text.items ++ (codes "probe" ++ flat_map (column_text l.spec) (take l.place l.cols))
