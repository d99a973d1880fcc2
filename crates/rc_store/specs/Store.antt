-- What contracts see of a store, and what its calls make of a pass. (PLDI 2012, serializable transactions over striped
-- locks.)
use Rattle.std.specs.Prelude.{◌≡◌, ℕ, ◌*◌, ◌<◌, ◌≤◌, ◌^◌, List, [], ◌∷◌, ◌++◌, length, Option, Some, None}
use Rattle.rc_store.specs.Imports.{AllByRecursion, gather, Call, Reply, Fits, SpecWithPlans, plan_at, eval, stripe_lock_cmp, Entry, Step, placed, with_replies, PartEntries, PassState, IsOfHistory, MayCommit, calls_with_plans, committed, next_of, rows_held, group_locks, Keeping, Counts, Entries, IsMoreRoom, IsPassOf, PassSeen, RowSeen, compiled_of, core_of, idle, spec_of, with_commit, with_entry, HaveOneRelation, IsAtHistory, KeepsRefusals, with_core}
use Rattle.rc_core.specs.State.{locks_of}
use Rattle.rc_store.specs.declared.receipt.GroupReceipt.{GroupReceipt}
use Rattle.rc_store.specs.declared.receipt.Position.{Position}
use Rattle.rc_store.specs.declared.receipt.Receipt.{Receipt}

-- a store: its row, and how many entries a pass may make
pub record StoreSeen : Type 0 where
  pub row : RowSeen
  pub limit : ℕ

-- ---- which calls may be made

-- a pass of the store that holds nothing, with no more entries than the limit
pub record IsFree (store : StoreSeen) (pass : PassSeen) : Type 0 where
  pub of_row : IsPassOf store.row pass
  pub idle : pass.held ≡ []
  pub few : length (core_of pass).own ≤ store.limit

-- such a pass, and a call that fits
pub record MayCall (store : StoreSeen) (pass : PassSeen) (call : Call) : Type 0 where
  pub free : IsFree store pass
  pub fits : Fits (spec_of store.row) call

-- ---- after a call without a receipt

-- What the pass holds, its own entries, what it has seen of the history and was told of it are as before. It may want
-- something else, refused steps may have been added, and the room for its entries isn't smaller.
pub record IsAsBefore (old new : PassSeen) : Type 0 where
  pub core : core_of new ≡ record (core_of old) { wish = (core_of new).wish }
  pub table : new.table ≡ old.table
  pub held : new.held ≡ old.held
  pub kept : IsMoreRoom old.kept new.kept
  pub refusals : KeepsRefusals old.standing new.standing
  pub known : new.standing.known ≡ old.standing.known

-- ---- after a call with a receipt

-- the reply comes with the receipt exactly where the pass keeps no entries, and else stands in its entry
abbrev pub IsReplyFor : Keeping → Reply → Option Reply → Type 0
IsReplyFor Entries reply given = given ≡ None
IsReplyFor Counts reply given = given ≡ Some reply

-- a call with its reply, alone
abbrev pub one_step : Call → Reply → List Step
one_step call reply = record { call = call; reply = reply } ∷ []

-- The pass has one entry more, its own next, of these steps, at the place, which is no earlier than what the pass had seen. At
-- its commit it was as before but for the stripes that it held, with the rows of one relation, and what it wanted. The core
-- allowed the commit: so evaluation of the calls' plans on these rows, one after another, gives the replies, and what they name
-- was held in modes that suffice. Since then only those were given back.
--
-- A receipt means one history. At the commit there was a good history of exactly as many entries as the place says, which has
-- all of the pass's earlier entries, goes on from all that the pass was told of, and leaves the rows that it held. With the new
-- entry it is good too, and the pass was told of it so.
pub record HasMadeEntry (store : StoreSeen) (steps : List Step) (old new : PassSeen) (place nth : ℕ) : Type 0 where
  pub at_commit : PassState
  pub was : at_commit ≡ record (core_of old) { held = at_commit.held; wish = at_commit.wish }
  pub allowed : MayCommit (compiled_of store.row) at_commit (next_of (core_of old) steps)
  pub one : HaveOneRelation (spec_of store.row) at_commit.held
  pub before : List Entry
  pub place_is : place ≡ length before
  pub at : IsAtHistory (spec_of store.row) store.row.key.passes before (with_core old.standing at_commit)
  pub after : IsOfHistory (spec_of store.row) store.row.key.passes (before ++ next_of (core_of old) steps ∷ []) (core_of new)
  pub known : new.standing.known ≡ old.standing.known ++ (before ++ next_of (core_of old) steps ∷ []) ∷ []
  pub core : core_of new ≡ record (committed (compiled_of store.row) at_commit place (next_of (core_of old) steps)) {
    held = [];
    wish = (core_of new).wish;
  }
  pub own : (core_of new).own ≡ (core_of old).own ++ placed place (next_of (core_of old) steps) ∷ []
  pub nth_is : nth ≡ length (core_of old).own
  pub seen : (core_of old).seen ≤ place
  pub small : place < 255 * 2 ^ 48
  pub table : new.table ≡ old.table
  pub held : new.held ≡ []
  pub kept : Option PartEntries
  pub more : IsMoreRoom old.kept kept
  pub keeps : new.kept ≡ with_entry kept (placed place (next_of (core_of old) steps))
  pub refusals : KeepsRefusals old.standing new.standing

-- What a pass holds for calls that take their stripes themselves: for one exactly the stripes that evaluation of its plan names,
-- each in the mode in which it is named, and for several exactly their group's locks.
abbrev pub HoldsExactly : SpecWithPlans → PassState → List Step → Type 0
HoldsExactly compiled u [] = Unit {0}
HoldsExactly compiled u (s ∷ []) =
    gather stripe_lock_cmp (locks_of u) ≡ (eval compiled.spec (plan_at compiled.plans s.call.op) s.call (rows_held u)).named
HoldsExactly compiled u (s ∷ (t ∷ steps)) = locks_of u ≡ group_locks compiled.spec (calls_with_plans compiled.plans (s ∷ (t ∷ steps)))

-- The entry is of the call with this reply, and at its commit the pass held exactly what the call's plan names.
pub record HasMade (store : StoreSeen) (call : Call) (reply : Reply) (old new : PassSeen) (receipt : Receipt) : Type 0 where
  pub entry : HasMadeEntry store (one_step call reply) old new receipt.place receipt.nth
  pub exact : HoldsExactly (compiled_of store.row) entry.at_commit (one_step call reply)
  pub given : IsReplyFor store.row.keeping reply receipt.reply

-- it was made with some reply
abbrev pub HasReceipt : StoreSeen → Call → PassSeen → PassSeen → Receipt → Type 0
HasReceipt store call old new receipt = (reply : Reply) × HasMade store call reply old new receipt

-- the receipt of an entry at this position, with the reply
abbrev pub receipt_at : Position → Reply → Receipt
receipt_at at reply = record { place = at.place; nth = at.nth; reply = Some reply }

-- the one entry of these steps was committed behind the history of that moment, and all was given back
pub record IsFinished (row : RowSeen) (steps : List Step) (old new : PassSeen) (place nth : ℕ) : Type 0 where
  pub before : List Entry
  pub place_is : place ≡ length before
  pub at : IsAtHistory (spec_of row) row.key.passes before old.standing
  pub after : IsOfHistory (spec_of row) row.key.passes (before ++ next_of (core_of old) steps ∷ []) (core_of new)
  pub is : new ≡ idle (with_commit (compiled_of row) before (next_of (core_of old) steps) old)
  pub nth_is : nth ≡ length (core_of old).own
  pub small : place < 255 * 2 ^ 48

-- the same of a call, whose reply the receipt gives where no entries are kept
pub record IsCallFinished (row : RowSeen) (call : Call) (old new : PassSeen) (reply : Reply)
    (receipt : Receipt) : Type 0 where
  pub entry : IsFinished row (one_step call reply) old new receipt.place receipt.nth
  pub given : IsReplyFor row.keeping reply receipt.reply

-- ---- after a group with a receipt

-- which calls may be made as one
pub record MayCallAll (store : StoreSeen) (pass : PassSeen) (calls : List Call) : Type 0 where
  pub free : IsFree store pass
  pub some : 1 ≤ length calls
  pub few : length calls ≤ 16
  pub fit : AllByRecursion (Fits (spec_of store.row)) calls

-- the replies come with the receipt exactly where the pass keeps no entries, and else stand in its entry
abbrev pub AreRepliesFor : Keeping → List Reply → Option (List Reply) → Type 0
AreRepliesFor Entries replies given = given ≡ None
AreRepliesFor Counts replies given = given ≡ Some replies

-- The entry is of the calls with these replies, and at its commit the pass held exactly the stripes of a group of them.
pub record HasMadeGroup (store : StoreSeen) (calls : List Call) (replies : List Reply) (old new : PassSeen) (receipt : GroupReceipt) : Type 0 where
  pub count : length replies ≡ length calls
  pub entry : HasMadeEntry store (with_replies calls replies) old new receipt.place receipt.nth
  pub exact : HoldsExactly (compiled_of store.row) entry.at_commit (with_replies calls replies)
  pub given : AreRepliesFor store.row.keeping replies receipt.replies

-- it was made with some replies
abbrev pub HasGroupReceipt : StoreSeen → List Call → PassSeen → PassSeen → GroupReceipt → Type 0
HasGroupReceipt store calls old new receipt = (replies : List Reply) × HasMadeGroup store calls replies old new receipt

-- the group's entry was committed, and all was given back
pub record IsGroupFinished (row : RowSeen) (calls : List Call) (replies : List Reply) (old new : PassSeen) (receipt : GroupReceipt) : Type 0 where
  pub entry : IsFinished row (with_replies calls replies) old new receipt.place receipt.nth
  pub given : AreRepliesFor row.keeping replies receipt.replies
