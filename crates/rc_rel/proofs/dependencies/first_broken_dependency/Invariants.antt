use Rattle.std.proofs.Common.{◌≡◌, ◌+◌, drop}
use Rattle.rc_rel.proofs.Imports.{put, tuple_cmp, first_broken_dependency}
use Rattle.rc_rel.proofs.dependencies.first_broken_dependency.Given as goal

abbrev pub invariant-loop-at : goal.invariant-loop-at
invariant-loop-at l = first_broken_dependency (l.at + 1) (drop l.at l.deps) (put tuple_cmp l.tuple l.tuples) ≡ first_broken_dependency 1 l.deps (put tuple_cmp l.tuple l.tuples)
