use Rattle.rc_store.proofs.Imports.{take, IsUsedBy, compiled_of, calls_of, steps_in}
use Rattle.rc_store.proofs.store.Store.is_used.Given as goal

abbrev pub invariant-loop-at : goal.invariant-loop-at
invariant-loop-at g l = IsUsedBy (compiled_of l.self.row) (take l.at (calls_of (steps_in l.prepared))) l.stripe → ⊥
