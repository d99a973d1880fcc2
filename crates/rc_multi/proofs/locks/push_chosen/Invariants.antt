use Rattle.std.proofs.Common.{◌≡◌, ◌++◌, take}
use Rattle.rc_multi.proofs.Imports.{Shared, with_plans, group_use, in_mode, chosen_stripes}
use Rattle.rc_multi.proofs.locks.push_chosen.Given as goal

abbrev pub invariant-loop-call : goal.invariant-loop-call
invariant-loop-call l = record {
  asked : l.asked ≡ group_use l.compiled.spec l.class (take l.call-index (with_plans l.compiled.plans l.calls));
  chosen : l.locks.items ≡ l.fn.locks.items ++ in_mode Shared (chosen_stripes l.compiled.spec (take l.call-index (with_plans l.compiled.plans l.calls)) l.class);
}
