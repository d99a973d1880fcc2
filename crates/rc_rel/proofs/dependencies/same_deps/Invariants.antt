use Rattle.std.proofs.Common.{◌≡◌, take}
use Rattle.rc_rel.proofs.dependencies.same_deps.Given as goal

abbrev pub invariant-loop-at : goal.invariant-loop-at
invariant-loop-at l = take l.at l.deps ≡ take l.at l.others
