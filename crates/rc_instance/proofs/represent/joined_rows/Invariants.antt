use Rattle.std.proofs.Common.{◌≡◌}
use Rattle.rc_instance.specs.Instance.{rows_of_fragments}
use Rattle.rc_instance.proofs.RepresentLemmas.{first_joined}
use Rattle.rc_instance.proofs.represent.joined_rows.Given as goal

abbrev pub invariant-loop-edge : goal.invariant-loop-edge
invariant-loop-edge l = l.joined ≡ first_joined (rows_of_fragments l.fragments) l.edge
