use Rattle.std.proofs.Common.{◌≡◌, All, take}
use Rattle.rc_runner.proofs.Imports.{HaveMade, IsFree, numbers_of, stands_of}
use Rattle.rc_runner.proofs.running.run_rounds.Given as goal

abbrev pub invariant-loop-round : goal.invariant-loop-round
invariant-loop-round g l =
    All (IsFree l.store) l.passes
    × (numbers_of l.passes ≡ numbers_of l.fn.passes)
    × HaveMade (take l.round-index l.rounds) (stands_of l.passes)
