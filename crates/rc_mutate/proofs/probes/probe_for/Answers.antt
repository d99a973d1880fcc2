use Rattle.rc_mutate.proofs.Imports.{ap, List, ℕ, PlannedProbe, route_is_chosen}
use Rattle.rc_mutate.proofs.probes.probe_for.Goals as goal

pub returns : goal.returns
returns c = λ route chooses.
    ap (λ (es : List ℕ). let probe : PlannedProbe = record { columns = c.args.columns; route = es; check = c.args.check } in probe)
    (route_is_chosen c.args.accepted.now c.requires.sealed route chooses c.args.columns c.args.need c.in_ok-route.route c.in_ok-route.ensures.chosen)
