use Rattle.rc_mutate.proofs.Imports.{sym, subst, In, get_or_in, PlannedProbe}
use Rattle.rc_mutate.proofs.insert.push_probes.Goals as goal

pub push_probe-requires-clause-edges : goal.push_probe-requires-clause-edges
push_probe-requires-clause-edges c =
    c.requires.edges c.probe-item.result
    (subst (λ (x : PlannedProbe). In x c.args.probes.now) (sym c.probe-item.is) (get_or_in c.args.probes.now c.loop-probe.probe-index c.probe-item.result c.loop-probe-test.true))
