-- Why calls are refused.
use Rattle.std.specs.Prelude.{◌≡◌, ℕ, Bool, ◌==◌, ◌&&◌, nat_le, nat_lt, List, [], ◌∷◌, length, if◌then◌else◌}
use Rattle.rc_embed.specs.Imports.{Option, Some, None, Result, IfErr, IfOk, option_or, Call, Found, Spec, PassSeen, core_of, spec_of, AreBusy, StoreSeen, TryFault, written_columns_at}
use Rattle.rc_store.specs.declared.receipt.TryFault.TheVariants as tries
use Rattle.rc_embed.specs.declared.fault.CallFault.{CallFault}
use Rattle.rc_embed.specs.declared.fault.CallFault.TheVariants.{Memory, Busy, Spent, Count}
use Rattle.rc_embed.specs.declared.fault.CallFault.TheVariants.{UnknownOperation, Values, Prepared}
use Rattle.rc_embed.specs.declared.session.State.{State}
use Rattle.rc_embed.specs.declared.session.State.TheVariants as states
use Rattle.rc_embed.specs.Asked.{AskedCall}
use Rattle.rc_embed.specs.Session.{IsUnchanged, SessionSeen, calls_in}

-- the fault of calls that the store refused
abbrev pub call_fault : TryFault → CallFault
call_fault tries.Memory = Memory
call_fault (tries.Busy stripe found) = Busy stripe found
call_fault tries.Spent = Spent

-- what is wrong with a call of an operation with so many values: there is no such operation, or it
-- takes another number of values
abbrev pub fault_at : Spec → ℕ → ℕ → Option CallFault
fault_at spec op count =
    if nat_lt op (length spec.ops)
    then (if count == length (written_columns_at spec op) then None else Some Values)
    else Some UnknownOperation

-- what is wrong with the first call that has a fault
abbrev pub first_fault : Spec → List AskedCall → Option CallFault
first_fault spec [] = None
first_fault spec (call ∷ calls) = option_or (fault_at spec call.op call.count) (first_fault spec calls)

-- the pass has made as many entries as the store lets it
abbrev pub spent_by : StoreSeen → PassSeen → Option CallFault
spent_by store pass = if length (core_of pass).own == store.limit then Some Spent else None

-- 1 to 16 calls may be made as one
abbrev pub is_group : List AskedCall → Bool
is_group calls = nat_le 1 (length calls) && nat_le (length calls) 16

-- What is wrong with calls that a pass is asked to make as one: how many they are, then what is wrong with
-- the first one that has a fault, and then that the pass is spent.
abbrev pub fault_by : StoreSeen → PassSeen → List AskedCall → Option CallFault
fault_by store pass calls =
    if is_group calls
    then option_or (first_fault (spec_of store.row) calls) (spent_by store pass)
    else Some Count

abbrev pub fault_in : StoreSeen → State → List AskedCall → Option CallFault
fault_in store (states.Idle pass) calls = fault_by store pass calls
fault_in store (states.Prepared running) calls = Some Prepared
fault_in store (states.PreparedGroup running) calls = Some Prepared
fault_in store (states.Open group) calls = Some Prepared
fault_in store states.Moving calls = Some Prepared

-- The fault that calls have which are asked for as one, whatever the store has; none where they may
-- be made.
abbrev pub fault_of : SessionSeen → List AskedCall → Option CallFault
fault_of session calls = fault_in session.store session.state calls

-- the last refused step of the pass is of these calls
abbrev pub AreBusyIn : StoreSeen → List Call → State → State → ℕ → Found → Type 0
AreBusyIn store calls (states.Idle old) (states.Idle new) stripe found =
    AreBusy store.row calls old new stripe found
AreBusyIn store calls old new stripe found = ⊥

-- no step of the pass was refused
abbrev pub HasNoRefusal : State → State → Type 0
HasNoRefusal (states.Idle old) (states.Idle new) = new.standing.refusals ≡ old.standing.refusals
HasNoRefusal old new = ⊥

-- Why there is this fault. Memory is wanted, and something is in the way, only where the calls may
-- be made; where memory is wanted nothing was in the way of a step of theirs, and something is
-- only at a stripe that the call's plan names, or that is one of the group's locks. Each other
-- fault is the one that the calls have.
abbrev pub HasCallCause : SessionSeen → SessionSeen → List AskedCall → CallFault → Type 0
HasCallCause old new calls Memory =
    (fault_of old calls ≡ None) × HasNoRefusal old.state new.state
HasCallCause old new calls (Busy stripe found) =
    (fault_of old calls ≡ None)
    × AreBusyIn old.store (calls_in old calls) old.state new.state stripe found
HasCallCause old new calls Spent = fault_of old calls ≡ Some Spent
HasCallCause old new calls UnknownOperation = fault_of old calls ≡ Some UnknownOperation
HasCallCause old new calls Values = fault_of old calls ≡ Some Values
HasCallCause old new calls Prepared = fault_of old calls ≡ Some Prepared
HasCallCause old new calls Count = fault_of old calls ≡ Some Count

-- What calls that are asked for as one, or the beginning of them, answer, whether they are made or
-- prepared: that is so of what comes with success. Each fault has its cause, and leaves the session
-- unchanged.
pub record Answers {A : Type 0} (MadeSo : A → Type 0) (old : SessionSeen) (calls : List AskedCall)
    (new : SessionSeen) (result : Result A CallFault) : Type 0 where
  pub store : new.store ≡ old.store
  pub made : IfOk result MadeSo
  pub cause : IfErr result (HasCallCause old new calls)
  pub unchanged : IfErr result (λ _. IsUnchanged old new)
