use Rattle.std.proofs.Common.{◌≡◌, take}
use Rattle.rc_multi.specs.ClassUse.{plan_use}
use Rattle.rc_multi.proofs.class_lock.class_use.Given as goal

abbrev pub invariant-loop-statement : goal.invariant-loop-statement
invariant-loop-statement l = l.asked ≡ plan_use l.class l.chosen (take l.statement-index l.statement-items)
