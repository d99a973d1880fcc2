use Rattle.std.proofs.Common.{◌≡◌, false, take}
use Rattle.rc_mutate.proofs.Imports.{list_any, reads_unbound}
use Rattle.rc_mutate.proofs.insert.which_under.Given as goal

abbrev pub invariant-loop-probe : goal.invariant-loop-probe
invariant-loop-probe l = list_any (reads_unbound l.spec l.class) (take l.probe-index l.probes) ≡ false
