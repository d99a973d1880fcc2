use Rattle.rc_instance.proofs.Imports.{take, AreAllRows, rows_of_fragments}
use Rattle.rc_instance.proofs.represent.rows_of_edge.Given as goal

abbrev pub invariant-loop-fragment : goal.invariant-loop-fragment
invariant-loop-fragment l = AreAllRows (rows_of_fragments (take l.fragment-index l.fragments)) l.edge l.rows.items
