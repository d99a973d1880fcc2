use Rattle.std.proofs.Common.{◌≡◌, ◌++◌, take}
use Rattle.rc_mutate.proofs.Imports.{flat_map, probe_statements}
use Rattle.rc_mutate.proofs.insert.push_probes.Given as goal

abbrev pub invariant-loop-probe : goal.invariant-loop-probe
invariant-loop-probe l = l.plan ≡ l.initial.plan ++ flat_map (probe_statements l.spec) (take l.probe-index l.probes)
