-- What contracts see of a session, and what its calls make of it. (PLDI 2012, serializable
-- transactions over striped locks.)
use Rattle.std.specs.Prelude.{◌≡◌, ℕ, ◌<◌, ◌≤◌, List, [], ◌∷◌, Option, Some, None}
use Rattle.rc_embed.specs.Imports.{slice_get, Call, Reply, Step, PassState, HasLookedAt, PassSeen, compiled_of, core_of, spec_of, HoldsDeclared, IsOpenOn, OpenGroupSeen, HasBegunGroup, IsGroupRunningOn, IsRunningOn, RunningGroupSeen, RunningSeen, AreRepliesFor, HasMadeEntry, HasMadeGroup, HoldsExactly, IsAsBefore, IsFree, StoreSeen, one_step, GroupReceipt, Position, note_of, with_note}
use Rattle.rc_store.specs.Running.{replies_of as replies_with}
use Rattle.rc_embed.specs.declared.session.Last.{Last}
use Rattle.rc_embed.specs.declared.session.Last.TheVariants as lasts
use Rattle.rc_embed.specs.declared.session.State.{State}
use Rattle.rc_embed.specs.declared.session.State.TheVariants.{Idle, Prepared, PreparedGroup, Open, Moving}
use Rattle.rc_embed.specs.Asked.{AskedCall, calls_by}

-- A session: its store, what it does, the replies of the call, or of the calls of the group, that it
-- made last, and whose reply is picked, counted from 0.
pub record SessionSeen : Type 0 where
  pub store : StoreSeen
  pub state : State
  pub last : List Reply
  pub picked : ℕ

-- what a receipt gave
abbrev pub replies_given : Last → List Reply
replies_given (lasts.Call None) = []
replies_given (lasts.Call (Some reply)) = reply ∷ []
replies_given (lasts.Group None) = []
replies_given (lasts.Group (Some replies)) = replies

-- a prepared call as a group of one
abbrev pub alone : RunningSeen → RunningGroupSeen
alone running = record {
  begun = running.begun;
  pass = running.pass;
  steps = one_step running.call running.reply;
}

-- what an open group has made
abbrev pub made_of : OpenGroupSeen → RunningGroupSeen
made_of group = record { begun = group.begun; pass = group.pass; steps = group.steps }

-- the calls that are prepared as one, if any, with their replies
abbrev pub prepared_in : State → Option RunningGroupSeen
prepared_in (Idle pass) = None
prepared_in (Prepared running) = Some (alone running)
prepared_in (PreparedGroup running) = Some running
prepared_in (Open group) = None
prepared_in Moving = None

-- The calls that are to be committed or cancelled, with their replies: those that are prepared, or those that a
-- group has made which is open.
abbrev pub uncommitted_in : State → Option RunningGroupSeen
uncommitted_in (Idle pass) = None
uncommitted_in (Prepared running) = Some (alone running)
uncommitted_in (PreparedGroup running) = Some running
uncommitted_in (Open group) = Some (made_of group)
uncommitted_in Moving = None

-- the replies that are told: those of the uncommitted calls, where something is prepared or open, and else the last
abbrev pub replies_in : Option RunningGroupSeen → List Reply → List Reply
replies_in None last = last
replies_in (Some running) last = replies_with running.steps

abbrev pub replies_of : SessionSeen → List Reply
replies_of session = replies_in (uncommitted_in session.state) session.last

-- the one of them that is picked
abbrev pub reply_of : SessionSeen → Option Reply
reply_of session = slice_get (replies_of session) session.picked

-- the session with another one picked
abbrev pub with_picked : ℕ → SessionSeen → SessionSeen
with_picked call session = record session { picked = call }

-- no call is prepared, and no group is open
abbrev pub IsIdle : State → Type 0
IsIdle (Idle pass) = Unit {0}
IsIdle (Prepared running) = ⊥
IsIdle (PreparedGroup running) = ⊥
IsIdle (Open group) = ⊥
IsIdle Moving = ⊥

-- a group is open
abbrev pub IsOpen : State → Type 0
IsOpen (Idle pass) = ⊥
IsOpen (Prepared running) = ⊥
IsOpen (PreparedGroup running) = ⊥
IsOpen (Open group) = Unit {0}
IsOpen Moving = ⊥

-- a group is open that has made no call
abbrev pub HasNoCall : State → Type 0
HasNoCall (Idle pass) = ⊥
HasNoCall (Prepared running) = ⊥
HasNoCall (PreparedGroup running) = ⊥
HasNoCall (Open group) = group.steps ≡ []
HasNoCall Moving = ⊥

-- its pass is free, or it has a call or a group that runs on the store, or one that is open there
abbrev pub IsStateOf : StoreSeen → State → Type 0
IsStateOf store (Idle pass) = IsFree store pass
IsStateOf store (Prepared running) = IsRunningOn store running
IsStateOf store (PreparedGroup running) = IsGroupRunningOn store running
IsStateOf store (Open group) = IsOpenOn store group
IsStateOf store Moving = ⊥

-- the length of the history that it has seen
abbrev pub seen_of : State → Option ℕ
seen_of (Idle pass) = Some (core_of pass).seen
seen_of (Prepared running) = None
seen_of (PreparedGroup running) = None
seen_of (Open group) = None
seen_of Moving = None

-- the calls that are asked of the session's store
abbrev pub calls_in : SessionSeen → List AskedCall → List Call
calls_in session asked = calls_by (spec_of session.store.row) asked

-- the receipt of calls with these replies
abbrev pub receipt_of : Position → List Reply → GroupReceipt
receipt_of at replies = record { place = at.place; nth = at.nth; replies = Some replies }

-- ---- what calls make of a session

-- It has made the calls that were asked for as one: its pass has the receipt of these very calls,
-- with the replies that the session tells now, of which the first is picked.
pub record HasCalled (old : SessionSeen) (asked : List AskedCall) (new : SessionSeen)
    (at : Position) : Type 0 where
  pub before : PassSeen
  pub after : PassSeen
  pub was : old.state ≡ Idle before
  pub is : new.state ≡ Idle after
  pub picked : new.picked ≡ 0
  pub made : HasMadeGroup old.store (calls_in old asked) new.last before after (receipt_of at new.last)

-- it has prepared the calls that were asked for as one
pub record HasPrepared (old : SessionSeen) (asked : List AskedCall) (new : SessionSeen)
    : Type 0 where
  pub before : PassSeen
  pub running : RunningGroupSeen
  pub was : old.state ≡ Idle before
  pub is : prepared_in new.state ≡ Some running
  pub last : new.last ≡ old.last
  pub picked : new.picked ≡ 0
  pub begun : HasBegunGroup old.store (calls_in old asked) before running

-- What the pass held at the commit: of prepared calls exactly the stripes of a group of them, and of those of an open group
-- exactly what they needed of that which it had declared.
abbrev pub HeldFor : StoreSeen → State → List Step → PassState → Type 0
HeldFor store (Idle pass) steps u = ⊥
HeldFor store (Prepared running) steps u = HoldsExactly (compiled_of store.row) u steps
HeldFor store (PreparedGroup running) steps u = HoldsExactly (compiled_of store.row) u steps
HeldFor store (Open group) steps u = HoldsDeclared (compiled_of store.row) u steps group.locks
HeldFor store Moving steps u = ⊥

-- the uncommitted calls are made as one, and the session tells the replies that were told
pub record HasCommitted (old new : SessionSeen) (at : Position) : Type 0 where
  pub running : RunningGroupSeen
  pub after : PassSeen
  pub was : uncommitted_in old.state ≡ Some running
  pub is : new.state ≡ Idle after
  pub told : new.last ≡ replies_with running.steps
  pub picked : new.picked ≡ 0
  pub entry : HasMadeEntry old.store running.steps running.begun after at.place at.nth
  pub held : HeldFor old.store old.state running.steps entry.at_commit
  pub given : AreRepliesFor old.store.row.keeping new.last (Some new.last)

-- the uncommitted calls are not made, and the pass is as before they were begun, with the refused steps that it had come to
pub record HasCancelled (old new : SessionSeen) : Type 0 where
  pub running : RunningGroupSeen
  pub after : PassSeen
  pub was : uncommitted_in old.state ≡ Some running
  pub is : new.state ≡ Idle after
  pub last : new.last ≡ old.last
  pub picked : new.picked ≡ 0
  pub before : IsAsBefore running.begun after
  pub refusals : after.standing.refusals ≡ running.pass.standing.refusals

-- The session has seen a good history of that moment, which has this length, has all calls that it
-- made, and goes on from all that it was told of.
pub record HasLooked (old : SessionSeen) (length : ℕ) (new : SessionSeen) : Type 0 where
  pub before : PassSeen
  pub after : PassSeen
  pub was : old.state ≡ Idle before
  pub is : new.state ≡ Idle after
  pub looked : HasLookedAt old.store.row before after length
  pub seen : (core_of before).seen ≤ length
  pub last : new.last ≡ old.last
  pub picked : new.picked ≡ old.picked

-- it has seen at least what was told
pub record HasLearned (old : SessionSeen) (told : ℕ) (new : SessionSeen) (length : ℕ) : Type 0 where
  pub looked : HasLooked old length new
  pub all : told ≤ length

-- it has looked, and has seen less than what was told
pub record IsUnseenBy (old : SessionSeen) (told : ℕ) (new : SessionSeen) : Type 0 where
  pub length : ℕ
  pub looked : HasLooked old length new
  pub shorter : length < told

-- it was told all that another one was told of, and has seen what that one has
pub record HasHeard (from old new : SessionSeen) : Type 0 where
  pub by : PassSeen
  pub before : PassSeen
  pub tells : from.state ≡ Idle by
  pub was : old.state ≡ Idle before
  pub is : new.state ≡ Idle (with_note (note_of by) before)
  pub last : new.last ≡ old.last
  pub picked : new.picked ≡ old.picked

-- ---- what faults leave

-- the pass, or what is prepared or open, is as before
abbrev pub IsStateAsBefore : State → State → Type 0
IsStateAsBefore (Idle old) (Idle new) = IsAsBefore old new
IsStateAsBefore (Prepared old) new = new ≡ Prepared old
IsStateAsBefore (PreparedGroup old) new = new ≡ PreparedGroup old
IsStateAsBefore (Open old) new = new ≡ Open old
IsStateAsBefore old new = ⊥

-- history, pass, what is prepared or open and replies are as before
pub record IsUnchanged (old new : SessionSeen) : Type 0 where
  pub state : IsStateAsBefore old.state new.state
  pub last : new.last ≡ old.last
  pub picked : new.picked ≡ old.picked
