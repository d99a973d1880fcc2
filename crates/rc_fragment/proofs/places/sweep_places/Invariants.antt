use Rattle.std.proofs.Common.{drop}
use Rattle.rc_fragment.proofs.RevertLemmas.{IsSweeping}
use Rattle.rc_fragment.proofs.places.sweep_places.Given as goal

abbrev pub invariant-loop-note : goal.invariant-loop-note
invariant-loop-note l = IsSweeping l.after l.fn.edges.items l.edges.items (drop l.note-index l.notes) l.values
