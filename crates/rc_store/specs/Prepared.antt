-- Calls that wait for their commit as one entry.
use Rattle.std.specs.Prelude.{◌≡◌, List, length}
use Rattle.rc_store.specs.Imports.{Call, Reply, Step, with_replies, MayCommit, committed, next_of, HasSpare, IsMoreRoom, PassSeen, RowSeen, compiled_of, core_of, holds_now, holds_taken, spec_of, HaveOneRelation, KeepsRefusals}
use Rattle.rc_store.specs.Store.{HoldsExactly}

-- The pass holds stripes with the rows of one relation; the core allows the commit of these steps as its next entry, and what
-- is held now is what the commit leaves; and there is room for the entry.
pub record IsReady (row : RowSeen) (steps : List Step) (pass : PassSeen) : Type 0 where
  pub room : HasSpare pass.kept
  pub agrees : holds_taken pass.held ≡ (core_of pass).held
  pub one : HaveOneRelation (spec_of row) (core_of pass).held
  pub may : MayCommit (compiled_of row) (core_of pass) (next_of (core_of pass) steps)
  pub left : holds_now pass.held ≡ (committed (compiled_of row) (core_of pass) 0 (next_of (core_of pass) steps)).held

-- Since then only what the pass holds and wants changed, its refused steps, and the room for its entries.
pub record HasGoneOn (old new : PassSeen) : Type 0 where
  pub core : core_of new ≡ record (core_of old) { held = (core_of new).held; wish = (core_of new).wish }
  pub table : new.table ≡ old.table
  pub more : IsMoreRoom old.kept new.kept
  pub refusals : KeepsRefusals old.standing new.standing
  pub known : new.standing.known ≡ old.standing.known

-- so it became ready
pub record IsPrepared (row : RowSeen) (steps : List Step) (old new : PassSeen) : Type 0 where
  pub since : HasGoneOn old new
  pub ready : IsReady row steps new

-- ---- the calls of a group

-- The calls have these replies, one each, and may be committed with them as one entry; what the pass holds are exactly the
-- stripes of a group of them.
pub record AreReady (row : RowSeen) (calls : List Call) (pass : PassSeen) (replies : List Reply) : Type 0 where
  pub count : length replies ≡ length calls
  pub ready : IsReady row (with_replies calls replies) pass
  pub exact : HoldsExactly (compiled_of row) (core_of pass) (with_replies calls replies)

-- so they were prepared
pub record ArePrepared (row : RowSeen) (calls : List Call) (old new : PassSeen) (replies : List Reply) : Type 0 where
  pub count : length replies ≡ length calls
  pub prepared : IsPrepared row (with_replies calls replies) old new
  pub exact : HoldsExactly (compiled_of row) (core_of new) (with_replies calls replies)
