use Rattle.rc_edges.specs.ListMapLaws.{IsPast}
use Rattle.rc_edges.proofs.list_map.place.Given as goal

abbrev pub invariant-loop-at : goal.invariant-loop-at
invariant-loop-at l = IsPast l.key l.items l.at
