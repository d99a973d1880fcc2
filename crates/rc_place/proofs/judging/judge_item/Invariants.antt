use Rattle.rc_place.proofs.Imports.{map, take, IsKept, check_on, EachHolds}
use Rattle.rc_place.proofs.judging.judge_item.Given as goal

abbrev pub invariant-loop-rule : goal.invariant-loop-rule
invariant-loop-rule l = EachHolds (IsKept l.spec) (map (check_on l.kind l.number) (take l.rule-index l.rules))
