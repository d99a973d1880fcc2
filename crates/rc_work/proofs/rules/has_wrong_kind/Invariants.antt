use Rattle.std.proofs.Common.{◌≡◌, drop}
use Rattle.rc_work.specs.LineRules.{has_wrong_kind}
use Rattle.rc_work.proofs.rules.has_wrong_kind.Given as goal

abbrev pub invariant-loop-i : goal.invariant-loop-i
invariant-loop-i l = has_wrong_kind l.spec (drop l.i l.cols) (drop l.i l.values) ≡ has_wrong_kind l.spec l.cols l.values
