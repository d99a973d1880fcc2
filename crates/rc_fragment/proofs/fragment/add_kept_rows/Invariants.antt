use Rattle.std.proofs.Common.{◌≡◌}
use Rattle.rc_fragment.proofs.Imports.{raised_all, changed_before}
use Rattle.rc_fragment.proofs.fragment.add_kept_rows.Given as goal

abbrev pub invariant-loop-edge : goal.invariant-loop-edge
invariant-loop-edge l = l.stored ≡ changed_before raised_all l.class l.tuple l.edge l.fn.stored
