-- What a session's open group makes of it: the stripes that it declares are taken up front, its calls are made one after
-- another, each with the replies before it known, and they are committed as one. (PLDI 2012, serializable transactions by
-- two-phase locks.)
use Rattle.std.specs.Prelude.{◌≡◌, ℕ, ◌==◌, nat_lt, List, length, if◌then◌else◌}
use Rattle.rc_embed.specs.Imports.{Option, Some, None, Result, IfErr, IfOk, Call, Found, Spec, Covers, PassSeen, compiled_of, spec_of, IsLockBusy, HasCalledOn, HasOpened, OpenGroupSeen, declared_locks, StoreSeen, call_of, written_columns_at}
use Rattle.rc_embed.specs.declared.fault.CallFault.{CallFault}
use Rattle.rc_embed.specs.declared.fault.CallFault.TheVariants.{Memory, Busy, Spent, Count}
use Rattle.rc_embed.specs.declared.fault.CallFault.TheVariants.{UnknownOperation, Values, Prepared}
use Rattle.rc_embed.specs.declared.fault.OpenCallFault.{OpenCallFault}
use Rattle.rc_embed.specs.declared.fault.OpenCallFault.TheVariants as faults
use Rattle.rc_embed.specs.declared.session.State.{State}
use Rattle.rc_embed.specs.declared.session.State.TheVariants as states
use Rattle.rc_embed.specs.Asked.{AskedCall}
use Rattle.rc_embed.specs.Declaring.{IsDeclared, declared_by, declared_fault_of, declared_in}
use Rattle.rc_embed.specs.Refused.{HasNoRefusal}
use Rattle.rc_embed.specs.Session.{HasCancelled, IsUnchanged, SessionSeen}

-- ---- how it is opened

-- it has opened a group over what was declared, and made no call of it
pub record HasOpenedGroup (old : SessionSeen) (declared : List AskedCall) (new : SessionSeen)
    : Type 0 where
  pub before : PassSeen
  pub group : OpenGroupSeen
  pub was : old.state ≡ states.Idle before
  pub is : new.state ≡ states.Open group
  pub last : new.last ≡ old.last
  pub picked : new.picked ≡ 0
  pub opened : HasOpened old.store (declared_in old declared) before group

-- the last refused step of the pass asked for a stripe that is declared
abbrev pub IsDeclaredBusyIn : StoreSeen → List Call → State → State → ℕ → Found → Type 0
IsDeclaredBusyIn store declared (states.Idle old) (states.Idle new) stripe found =
    IsLockBusy store.row (declared_locks store.row declared) old new stripe found
IsDeclaredBusyIn store declared old new stripe found = ⊥

-- Why there is this fault. Memory is wanted, and something is in the way, only where a group may be opened over what is
-- declared; where memory is wanted nothing was in the way of a step, and something is only at a stripe that is declared.
-- Each other fault is the one that what is declared has.
abbrev pub HasDeclaredCause : SessionSeen → SessionSeen → List AskedCall → CallFault → Type 0
HasDeclaredCause old new declared Memory =
    (declared_fault_of old declared ≡ None) × HasNoRefusal old.state new.state
HasDeclaredCause old new declared (Busy stripe found) =
    (declared_fault_of old declared ≡ None)
    × IsDeclaredBusyIn old.store (declared_in old declared) old.state new.state stripe found
HasDeclaredCause old new declared Spent = declared_fault_of old declared ≡ Some Spent
HasDeclaredCause old new declared UnknownOperation = declared_fault_of old declared ≡ Some UnknownOperation
HasDeclaredCause old new declared Values = declared_fault_of old declared ≡ Some Values
HasDeclaredCause old new declared Prepared = declared_fault_of old declared ≡ Some Prepared
HasDeclaredCause old new declared Count = declared_fault_of old declared ≡ Some Count

-- What opening a group answers. Each fault has its cause, and leaves the session unchanged.
pub record AnswersOpening {A : Type 0} (old : SessionSeen) (declared : List AskedCall)
    (new : SessionSeen) (result : Result A CallFault) : Type 0 where
  pub store : new.store ≡ old.store
  pub opened : IfOk result (λ _. HasOpenedGroup old declared new)
  pub cause : IfErr result (HasDeclaredCause old new declared)
  pub unchanged : IfErr result (λ _. IsUnchanged old new)

-- ---- its calls

-- the call that is asked for
abbrev pub call_in : SessionSeen → AskedCall → Call
call_in session asked = call_of (spec_of session.store.row) asked.op asked.values

-- it has made as many calls as a group may have
abbrev pub full_by : ℕ → Option OpenCallFault
full_by made = if made == 16 then Some faults.Full else None

-- What is wrong with a call that a group is asked for which has made so many: there is no such operation, or it takes
-- another number of values, or the group is full.
abbrev pub open_fault_by : Spec → ℕ → AskedCall → Option OpenCallFault
open_fault_by spec made asked =
    if nat_lt asked.op (length spec.ops)
    then (if asked.count == length (written_columns_at spec asked.op) then full_by made else Some faults.Values)
    else Some faults.UnknownOperation

abbrev pub open_fault_in : StoreSeen → State → AskedCall → Option OpenCallFault
open_fault_in store (states.Idle pass) asked = Some faults.NotOpen
open_fault_in store (states.Prepared running) asked = Some faults.NotOpen
open_fault_in store (states.PreparedGroup running) asked = Some faults.NotOpen
open_fault_in store (states.Open group) asked = open_fault_by (spec_of store.row) (length group.steps) asked
open_fault_in store states.Moving asked = Some faults.NotOpen

-- the fault that a call has which is asked of an open group, whatever this declared
abbrev pub open_fault_of : SessionSeen → AskedCall → Option OpenCallFault
open_fault_of session asked = open_fault_in session.store session.state asked

-- The open group has made the call that was asked for, over what those before it left, and its reply is picked.
pub record HasCalledOpen (old : SessionSeen) (asked : AskedCall) (new : SessionSeen) : Type 0 where
  pub before : OpenGroupSeen
  pub after : OpenGroupSeen
  pub was : old.state ≡ states.Open before
  pub is : new.state ≡ states.Open after
  pub last : new.last ≡ old.last
  pub picked : new.picked ≡ length before.steps
  pub called : HasCalledOn old.store (call_in old asked) before after

-- What the open group declared doesn't suffice for the call: so this is none of those that it declared, whatever gave it
-- the locks that it has.
abbrev pub IsUncoveredIn : StoreSeen → State → Call → Type 0
IsUncoveredIn store (states.Idle pass) call = ⊥
IsUncoveredIn store (states.Prepared running) call = ⊥
IsUncoveredIn store (states.PreparedGroup running) call = ⊥
IsUncoveredIn store (states.Open group) call =
    (Covers (compiled_of store.row) call group.locks → ⊥)
    × ((declared : List AskedCall) → group.locks ≡ declared_locks store.row (declared_by (spec_of store.row) declared)
    → IsDeclared (spec_of store.row) declared call → ⊥)
IsUncoveredIn store states.Moving call = ⊥

-- no step of the call was refused: the pass comes back with as many refused steps as that of the open group had
abbrev pub HasNoRefusalIn : State → State → Type 0
HasNoRefusalIn (states.Open group) (states.Idle pass) = pass.standing.refusals ≡ group.pass.standing.refusals
HasNoRefusalIn old new = ⊥

-- Why there is this fault. Only where the call has no fault of its own, memory may be wanted, or what was declared not
-- suffice for it; where memory is wanted nothing was in the way of a step. Each other fault is the one that the call has.
abbrev pub HasOpenCause : SessionSeen → SessionSeen → AskedCall → OpenCallFault → Type 0
HasOpenCause old new asked faults.NotOpen = open_fault_of old asked ≡ Some faults.NotOpen
HasOpenCause old new asked faults.UnknownOperation = open_fault_of old asked ≡ Some faults.UnknownOperation
HasOpenCause old new asked faults.Values = open_fault_of old asked ≡ Some faults.Values
HasOpenCause old new asked faults.Full = open_fault_of old asked ≡ Some faults.Full
HasOpenCause old new asked faults.Uncovered =
    (open_fault_of old asked ≡ None) × IsUncoveredIn old.store old.state (call_in old asked)
HasOpenCause old new asked faults.Memory = (open_fault_of old asked ≡ None) × HasNoRefusalIn old.state new.state

-- What a fault leaves. After want of memory the group is over, as if it had been cancelled; after each other fault the
-- session is the same.
abbrev pub IsLeftBy : SessionSeen → SessionSeen → OpenCallFault → Type 0
IsLeftBy old new faults.NotOpen = new ≡ old
IsLeftBy old new faults.UnknownOperation = new ≡ old
IsLeftBy old new faults.Values = new ≡ old
IsLeftBy old new faults.Full = new ≡ old
IsLeftBy old new faults.Uncovered = new ≡ old
IsLeftBy old new faults.Memory = HasCancelled old new

-- What a call of an open group answers.
pub record AnswersOpen {A : Type 0} (old : SessionSeen) (asked : AskedCall) (new : SessionSeen)
    (result : Result A OpenCallFault) : Type 0 where
  pub store : new.store ≡ old.store
  pub made : IfOk result (λ _. HasCalledOpen old asked new)
  pub cause : IfErr result (HasOpenCause old new asked)
  pub left : IfErr result (IsLeftBy old new)
