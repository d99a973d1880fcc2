use Rattle.std.proofs.Common.{◌≡◌, ◌++◌, drop, take}
use Rattle.rc_multi.proofs.Imports.{nat_cmp, put, stripes_of}
use Rattle.rc_multi.proofs.locks.place_of.Given as goal

abbrev pub invariant-loop-at : goal.invariant-loop-at
invariant-loop-at l = put nat_cmp l.stripe (stripes_of l.locks) ≡ take l.at (stripes_of l.locks) ++ put nat_cmp l.stripe (drop l.at (stripes_of l.locks))
