use Rattle.std.proofs.Common.{◌≡◌, ◌++◌, take}
use Rattle.rc_maps.specs.Keyed.{values_of_walk}
use Rattle.rc_maps.proofs.keyed.push_rows.Given as goal

abbrev pub invariant-loop-keyed : goal.invariant-loop-keyed
invariant-loop-keyed l = l.out.items ≡ l.fn.out.items ++ values_of_walk (take l.keyed-index l.all)
