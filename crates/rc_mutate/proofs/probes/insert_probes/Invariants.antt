use Rattle.std.proofs.Common.{◌≡◌, ◌∷◌, map}
use Rattle.rc_query.specs.Planned.{Routing, ChoosesRoutes, pattern_probe, dependency_probe, checked_deps}
use Rattle.rc_mutate.proofs.probes.insert_probes.Given as goal

abbrev pub invariant-loop-place : goal.invariant-loop-place
invariant-loop-place l = (route : Routing) → ChoosesRoutes l.accepted route
    → l.probes.items ≡ pattern_probe route l.pattern ∷ map (dependency_probe l.accepted route) (checked_deps l.accepted l.pattern l.place)
