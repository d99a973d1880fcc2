use Rattle.std.proofs.Common.{◌≡◌, [], length}
use Rattle.rc_runner.specs.Shares.{AreShared}
use Rattle.rc_runner.proofs.sharing.empty_shares.Given as goal

abbrev pub invariant-loop : goal.invariant-loop
invariant-loop l = record { count : length l.shares.items ≡ l.counter; empty : AreShared [] l.shares.items }
