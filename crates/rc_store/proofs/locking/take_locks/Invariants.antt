use Rattle.rc_store.proofs.Imports.{take, IsPassOf, HasTakenLocks}
use Rattle.rc_store.proofs.locking.take_locks.Given as goal

abbrev pub invariant-loop-lock : goal.invariant-loop-lock
invariant-loop-lock g l = record {
  of_row : IsPassOf l.row l.pass;
  at : HasTakenLocks g.T.Takes.waits l.row l.fn.pass l.pass (take l.lock-index l.locks);
}
