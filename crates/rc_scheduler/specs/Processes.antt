-- Processes, and what calls make of them.
use Rattle.std.specs.Prelude.{◌≡◌, ◌↔◌, ℕ, Bool, true, List, [], ◌∷◌, Some, codes}
use Rattle.rc_tuple.specs.Tuple.{Pairs}
use Rattle.rc_spec.specs.declared.call.Reply.TheVariants.{Inserted, Removed, Updated}
use Rattle.rc_spec.specs.declared.spec.Spec.{Spec}
use Rattle.rc_spec.specs.Names.{op_names}
use Rattle.rc_reader.specs.Names.{number_among}
use Rattle.rc_rel.specs.History.{replay}
use Rattle.rc_row.specs.Passes.{PassSeen, spec_of}
use Rattle.rc_store.specs.Closed.{ClosedSeen, HasClosed}
use Rattle.rc_store.specs.Store.{StoreSeen}
use Rattle.rc_store.specs.declared.receipt.Position.{Position}
use Rattle.rc_embed.specs.Asked.{one_call}
use Rattle.rc_embed.specs.Session.{HasCalled, SessionSeen}
use Rattle.rc_scheduler.specs.declared.processes.Process.{Process}
use Rattle.rc_scheduler.specs.declared.work.Operations.{Operations}

-- its values, in the order of the columns
abbrev pub process_values : Process → List ℕ
process_values process = process.ns ∷ process.pid ∷ process.state ∷ process.cpu ∷ []

-- The session has made the call of the operation with the process's values, and it is new exactly
-- where that is what was answered.
pub record HasSpawned (old : SessionSeen) (op : ℕ) (process : Process) (is_new : Bool)
    (new : SessionSeen) : Type 0 where
  pub at : Position
  pub called : HasCalled old (one_call op (process_values process)) new at
  pub told : is_new ≡ true ↔ new.last ≡ Inserted ∷ []

-- The session has made the call of the operation with the process's values, and there was one of its
-- name exactly where the process came in the place of a tuple.
pub record HasChanged (old : SessionSeen) (op : ℕ) (process : Process) (is_there : Bool)
    (new : SessionSeen) : Type 0 where
  pub at : Position
  pub called : HasCalled old (one_call op (process_values process)) new at
  pub told : is_there ≡ true ↔ (t : Pairs) × (new.last ≡ Updated t ∷ [])

-- The session has made the call of the operation with the name, and the process was there exactly
-- where a tuple was taken out.
pub record HasKilled (old : SessionSeen) (op : ℕ) (name : List ℕ) (is_there : Bool)
    (new : SessionSeen) : Type 0 where
  pub at : Position
  pub called : HasCalled old (one_call op name) new at
  pub told : is_there ≡ true ↔ (t : Pairs) × (new.last ≡ Removed t ∷ [])

-- the operations of these names have these numbers
pub record HasNumbers (spec : Spec) (operations : Operations) : Type 0 where
  pub spawn : Some operations.spawn ≡ number_among (op_names spec.ops) (codes "spawn")
  pub change : Some operations.change ≡ number_among (op_names spec.ops) (codes "change")
  pub kill : Some operations.kill ≡ number_among (op_names spec.ops) (codes "kill")
  pub queue : Some operations.queue ≡ number_among (op_names spec.ops) (codes "queue")

-- These are the processes that a closed store leaves: they are the relation after its history, in
-- which the entries of each pass are its own.
pub record IsLeft (store : StoreSeen) (passes : List PassSeen) (left : List Pairs) : Type 0 where
  pub closed : ClosedSeen
  pub is : HasClosed store passes closed
  pub rows : left ≡ replay (spec_of store.row) is.history
