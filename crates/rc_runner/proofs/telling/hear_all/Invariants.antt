use Rattle.std.proofs.Common.{◌≡◌, take}
use Rattle.rc_runner.proofs.Imports.{HasHeardAll, IsFree, number_of, stand_of, stands_of}
use Rattle.rc_runner.proofs.telling.hear_all.Given as goal

abbrev pub invariant-loop-other : goal.invariant-loop-other
invariant-loop-other l =
    IsFree l.store l.pass
    × (number_of l.pass ≡ number_of l.fn.pass)
    × (l.others ≡ l.fn.others)
    × HasHeardAll (take l.other-index (stands_of l.fn.others)) (stand_of l.fn.pass) (stand_of l.pass)
