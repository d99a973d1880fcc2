use Rattle.std.proofs.Common.{◌≡◌, ◌++◌}
use Rattle.rc_multi.proofs.Imports.{range_with_len, in_mode}
use Rattle.rc_multi.proofs.locks.push_band.Given as goal

abbrev pub invariant-loop-place : goal.invariant-loop-place
invariant-loop-place l = l.locks.items ≡ l.fn.locks.items ++ in_mode l.mode (range_with_len l.start l.place)
