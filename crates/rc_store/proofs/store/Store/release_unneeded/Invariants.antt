use Rattle.std.proofs.Common.{◌≡◌}
use Rattle.rc_store.proofs.Imports.{IsPassOf, compiled_of, decide_needed, IsNeeded, holding, kept_until, steps_in}
use Rattle.rc_store.proofs.store.Store.release_unneeded.Given as goal

abbrev pub invariant-loop-lock : goal.invariant-loop-lock
invariant-loop-lock g l = record {
  of_row : IsPassOf l.self.row l.pass;
  at : l.pass ≡ holding (kept_until (IsNeeded (compiled_of l.self.row) (steps_in l.prepared) l.took) (decide_needed (compiled_of l.self.row) (steps_in l.prepared) l.took) l.lock-index l.fn.pass.held) l.fn.pass;
}
