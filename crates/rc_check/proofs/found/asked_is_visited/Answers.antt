use Rattle.rc_check.proofs.found.asked_is_visited.Goals as goal

pub returns-then-outputs_are_visited : goal.returns-then-outputs_are_visited
returns-then-outputs_are_visited c = ((λ h. (c.outputs_are_visited.ensures.0 c.if-outputs_are_visited.true, c.ranges_are_visited.ensures.0 h)), λ k. c.ranges_are_visited.ensures.1 k.1)
