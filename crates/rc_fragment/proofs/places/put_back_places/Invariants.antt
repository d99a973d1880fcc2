use Rattle.rc_fragment.proofs.RevertLemmas.{IsUndoing}
use Rattle.rc_fragment.proofs.places.put_back_places.Given as goal

abbrev pub invariant-loop-at : goal.invariant-loop-at
invariant-loop-at l = IsUndoing l.fn.edges.items l.edges.items l.notes l.values l.at
