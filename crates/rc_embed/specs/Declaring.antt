-- What is declared of a group before its calls are known: operations, each with the values of its pattern or with any.
-- (PLDI 2012, serializable transactions by two-phase locks.)
use Rattle.std.specs.Prelude.{◌≡◌, ℕ, Bool, ◌==◌, ◌||◌, nat_lt, List, [], ◌∷◌, length, map, if◌then◌else◌}
use Rattle.rc_embed.specs.Imports.{Option, Some, None, option_map, slice_get, option_or, In, tuple_of, Call, Op, Spec, op_at, PassSeen, spec_of, StoreSeen}
use Rattle.rc_embed.specs.declared.fault.CallFault.{CallFault}
use Rattle.rc_embed.specs.declared.fault.CallFault.TheVariants.{Count, Prepared, UnknownOperation, Values}
use Rattle.rc_embed.specs.declared.session.State.{State}
use Rattle.rc_embed.specs.declared.session.State.TheVariants as states
use Rattle.rc_embed.specs.Asked.{AskedCall}
use Rattle.rc_embed.specs.Refused.{is_group, spent_by}
use Rattle.rc_embed.specs.Session.{SessionSeen}

-- the columns of an operation's pattern, as they are written
abbrev pub pattern_at : Spec → ℕ → List ℕ
pattern_at spec op = (op_at spec op).pattern

-- those of the operation with this number, where there is one
abbrev pub known_pattern : Spec → ℕ → Option (List ℕ)
known_pattern spec op = option_map (λ (op : Op). op.pattern) (slice_get spec.ops op)

-- What stands for the calls of an operation with these values of its pattern, and with no values for all of its calls.
abbrev pub declared_call : Spec → ℕ → List ℕ → Call
declared_call spec op values = record { op = op; args = tuple_of (pattern_at spec op) values; ranges = [] }

-- so of each that is declared
abbrev pub declared_by : Spec → List AskedCall → List Call
declared_by spec declared = map (λ one. declared_call spec one.op one.values) declared

abbrev pub declared_in : SessionSeen → List AskedCall → List Call
declared_in session declared = declared_by (spec_of session.store.row) declared

-- ---- what is wrong with it

-- there are no values, or one for each column of the operation's pattern
abbrev pub declares_values : Spec → ℕ → ℕ → Bool
declares_values spec op count = (count == 0) || (count == length (pattern_at spec op))

-- what is wrong with what is declared of an operation by so many values: there is no such operation, or its pattern
-- has another number of columns
abbrev pub declared_fault_at : Spec → ℕ → ℕ → Option CallFault
declared_fault_at spec op count =
    if nat_lt op (length spec.ops)
    then (if declares_values spec op count then None else Some Values)
    else Some UnknownOperation

-- what is wrong with the first that has a fault
abbrev pub first_declared_fault : Spec → List AskedCall → Option CallFault
first_declared_fault spec [] = None
first_declared_fault spec (one ∷ declared) =
    option_or (declared_fault_at spec one.op one.count) (first_declared_fault spec declared)

-- What is wrong with what a pass is asked to open a group over: how much is declared, then what is wrong with the first
-- that has a fault, and then that the pass is spent.
abbrev pub declared_fault_by : StoreSeen → PassSeen → List AskedCall → Option CallFault
declared_fault_by store pass declared =
    if is_group declared
    then option_or (first_declared_fault (spec_of store.row) declared) (spent_by store pass)
    else Some Count

abbrev pub declared_fault_in : StoreSeen → State → List AskedCall → Option CallFault
declared_fault_in store (states.Idle pass) declared = declared_fault_by store pass declared
declared_fault_in store (states.Prepared running) declared = Some Prepared
declared_fault_in store (states.PreparedGroup running) declared = Some Prepared
declared_fault_in store (states.Open group) declared = Some Prepared
declared_fault_in store states.Moving declared = Some Prepared

-- The fault that what is declared has, whatever the store has; none where a group may be opened over it.
abbrev pub declared_fault_of : SessionSeen → List AskedCall → Option CallFault
declared_fault_of session declared = declared_fault_in session.store session.state declared

-- ---- which calls are declared

-- the call is of an operation that is declared, and has the declared values
pub record IsDeclared (spec : Spec) (declared : List AskedCall) (call : Call) : Type 0 where
  pub one : AskedCall
  pub among : In one declared
  pub op : call.op ≡ one.op
  pub values : (pair : ℕ × ℕ) → In pair (declared_call spec one.op one.values).args → In pair call.args
