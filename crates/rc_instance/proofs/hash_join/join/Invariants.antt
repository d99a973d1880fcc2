use Rattle.std.proofs.Common.{◌≡◌, take}
use Rattle.rc_instance.proofs.Imports.{flat_map, merges_of, project, found_at}
use Rattle.rc_instance.proofs.hash_join.join.Given as goal

abbrev pub invariant-loop-tuple : goal.invariant-loop-tuple
invariant-loop-tuple l = l.merges.items ≡ flat_map (λ t. merges_of t (found_at l.index.entries (project l.columns t))) (take l.tuple-index l.left)
