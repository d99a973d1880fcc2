-- A prepared call: it holds its stripes and has its reply, and waits to be committed or cancelled. (PLDI 2012,
-- two-phase transactions.)
use Rattle.std.specs.Prelude.{◌≡◌, ◌<◌, List, [], length, map, Result, Ok, Err}
use Rattle.rc_store.specs.Imports.{Call, Reply, Step, IsPassOf, PassSeen, compiled_of, core_of}
use Rattle.rc_store.specs.declared.receipt.TryFault.{TryFault}
use Rattle.rc_store.specs.declared.receipt.BeginBack.{BeginBack}
use Rattle.rc_store.specs.Busy.{HasCause}
use Rattle.rc_store.specs.Prepared.{IsPrepared}
use Rattle.rc_store.specs.Store.{HoldsExactly, IsAsBefore, IsFree, StoreSeen, one_step}

-- the pass with which the call began, the pass as it is, the call and its reply
pub record RunningSeen : Type 0 where
  pub begun : PassSeen
  pub pass : PassSeen
  pub call : Call
  pub reply : Reply

-- The pass was free when it began, with fewer entries than the limit, and now holds exactly what these steps need, with their
-- changes, so that they may be committed as one entry.
pub record AreHeldOn (store : StoreSeen) (begun pass : PassSeen) (steps : List Step) : Type 0 where
  pub of_row : IsPassOf store.row pass
  pub idle : (begun.held ≡ []) × ((core_of begun).held ≡ [])
  pub left : length (core_of begun).own < store.limit
  pub prepared : IsPrepared store.row steps begun pass
  pub exact : HoldsExactly (compiled_of store.row) (core_of pass) steps

-- so the call runs on the store
abbrev pub IsRunningOn : StoreSeen → RunningSeen → Type 0
IsRunningOn store running = AreHeldOn store running.begun running.pass (one_step running.call running.reply)

-- the call was begun with the pass
pub record HasBegun (store : StoreSeen) (call : Call) (pass : PassSeen) (running : RunningSeen) : Type 0 where
  pub begun : running.begun ≡ pass
  pub asked : running.call ≡ call
  pub runs : IsRunningOn store running

-- the calls were not begun, and the pass came back as before
pub record IsHandedBack (store : StoreSeen) (calls : List Call) (pass : PassSeen) (back : BeginBack) : Type 0 where
  pub free : IsFree store back.pass
  pub before : IsAsBefore pass back.pass
  pub cause : HasCause store.row calls pass back.pass back.fault

-- it was not begun, and this is the fault
abbrev pub IsFaultOf : {T : Type 0} → TryFault → Result T BeginBack → Type 0
IsFaultOf fault (Ok running) = ⊥
IsFaultOf fault (Err back) = back.fault ≡ fault

-- ---- groups

-- the pass with which the group began, the pass as it is, and the calls with their replies
pub record RunningGroupSeen : Type 0 where
  pub begun : PassSeen
  pub pass : PassSeen
  pub steps : List Step

abbrev pub calls_of : List Step → List Call
calls_of steps = map (λ s. s.call) steps

abbrev pub replies_of : List Step → List Reply
replies_of steps = map (λ s. s.reply) steps

-- the group runs on the store
abbrev pub IsGroupRunningOn : StoreSeen → RunningGroupSeen → Type 0
IsGroupRunningOn store running = AreHeldOn store running.begun running.pass running.steps

-- the group was begun with the pass
pub record HasBegunGroup (store : StoreSeen) (calls : List Call) (pass : PassSeen) (running : RunningGroupSeen) : Type 0 where
  pub begun : running.begun ≡ pass
  pub asked : calls_of running.steps ≡ calls
  pub runs : IsGroupRunningOn store running
