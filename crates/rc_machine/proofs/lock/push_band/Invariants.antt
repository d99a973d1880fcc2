use Rattle.std.proofs.Common.{◌≡◌, ◌++◌}
use Rattle.std.specs.List.{range_with_len}
use Rattle.rc_machine.proofs.lock.push_band.Given as goal

abbrev pub invariant-loop-place : goal.invariant-loop-place
invariant-loop-place l = l.stripes.items ≡ l.fn.stripes.items ++ range_with_len l.start l.place
