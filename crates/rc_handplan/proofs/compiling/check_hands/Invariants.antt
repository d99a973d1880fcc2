use Rattle.rc_handplan.proofs.Imports.{take, AllKeepRules}
use Rattle.rc_handplan.proofs.compiling.check_hands.Given as goal

-- the plans so far keep the rules
abbrev pub invariant-loop-hand : goal.invariant-loop-hand
invariant-loop-hand l = AllKeepRules l.accepted (take l.hand-index l.hands)
