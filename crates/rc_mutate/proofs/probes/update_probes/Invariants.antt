use Rattle.std.proofs.Common.{◌≡◌, ◌∷◌, map}
use Rattle.rc_query.specs.Planned.{Routing, ChoosesRoutes, found_probe, update_dependency_probe, checked_deps}
use Rattle.rc_mutate.proofs.probes.update_probes.Given as goal

abbrev pub invariant-loop-place : goal.invariant-loop-place
invariant-loop-place l = (route : Routing) → ChoosesRoutes l.accepted route
    → l.probes.items ≡ found_probe l.accepted route l.pattern ∷ map (update_dependency_probe l.accepted route l.pattern) (checked_deps l.accepted l.pattern l.place)
