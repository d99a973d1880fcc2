use Rattle.std.proofs.Common.{◌≡◌, take}
use Rattle.rc_runner.proofs.Imports.{IsFree, HasGrown, number_of, stand_of, turns_in}
use Rattle.rc_runner.proofs.calling.make_turns.Given as goal

abbrev pub invariant-loop-turn : goal.invariant-loop-turn
invariant-loop-turn g l = record {
  free : IsFree l.store l.pass;
  number : number_of l.pass ≡ number_of l.fn.pass;
  made : HasGrown (turns_in (take l.turn-index l.turns)) (stand_of l.fn.pass) (stand_of l.pass);
}
