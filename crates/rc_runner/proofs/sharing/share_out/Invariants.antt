use Rattle.std.proofs.Common.{◌≡◌, take, length}
use Rattle.rc_runner.specs.Shares.{AreShared}
use Rattle.rc_runner.proofs.sharing.share_out.Given as goal

abbrev pub invariant-loop-turn : goal.invariant-loop-turn
invariant-loop-turn l = record {
  count : length l.shares.items ≡ l.threads;
  shared : AreShared (take l.turn-index l.round) l.shares.items;
}
