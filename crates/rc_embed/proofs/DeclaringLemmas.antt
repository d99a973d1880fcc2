-- What is declared, where it has no fault of its own; and calls of an open group that have none.
use Rattle.std.proofs.Common.{◌≡◌, ℕ, zero, suc, ◌+◌, ◌<◌, ◌≤◌, Bool, true, false, ◌||◌, List, [], ◌∷◌, ◌++◌, length, map, take, drop, Option, Some, None, All, if◌then◌else◌, ltb, eqb, ltb-true, eqb-true, get_or, set, refl, sym, ap, ◌∙◌, subst, arith}
use Rattle.rc_embed.proofs.Imports.{zip, option_or, get_or-map, length-map, take-append-drop, take_more, take_more_set, All-cons, All-nil, AreDistinct, In, append_in_left, distinct_left, get_or_in, pair_cmp, gather, Call, Spec, Fits, no_op, op_at, range_columns, IsCompiled, Covers, HasOperation, compiled_of, core_of, spec_of, OpenGroupSeen, StoreSeen, HasKnownColumns, written_columns_at, length-distinct-le, CallFault, Busy, Count, Memory, Prepared, Spent, UnknownOperation, Values, OpenCallFault, State, AskedCall, declared_by, declared_call, declared_fault_at, declared_fault_in, declared_fault_of, declares_values, first_declared_fault, pattern_at, declared_calls_are_covered, HasDeclaredCause, HasOpenCause, IsLeftBy, IsUncoveredIn, open_fault_in, open_fault_of, is_group, spent_by, SessionSeen}
use Rattle.rc_embed.specs.declared.fault.OpenCallFault.TheVariants as faults
use Rattle.rc_embed.specs.declared.session.State.TheVariants as states
use Rattle.rc_embed.proofs.FaultLemmas.{IsOwn, IsOwnIf, none_both, own_group, own_or, own_spent}

-- ---- the pattern of an operation

module _ (spec : Spec) (columns : HasKnownColumns spec) (op : ℕ) (known : op < length spec.ops) where
  there : In (op_at spec op) spec.ops
  there = get_or_in spec.ops op no_op known

  pub pattern_distinct : AreDistinct (pattern_at spec op)
  pattern_distinct = distinct_left (pattern_at spec op) (range_columns (op_at spec op).kind) (columns.distinct (op_at spec op) there)

  pub pattern_below : (c : ℕ) → In c (pattern_at spec op) → c < 32
  pattern_below c m =
      let below : c < length spec.columns = (columns.among (op_at spec op) there).pattern c m in
      let few = columns.few in
      omega (arith, below, few)

  pub pattern_few : length (pattern_at spec op) ≤ 32
  pattern_few = length-distinct-le 32 (pattern_at spec op) pattern_distinct pattern_below

  -- and of some first columns of it
  pub some_distinct : (n : ℕ) → AreDistinct (take n (pattern_at spec op))
  some_distinct n =
      distinct_left (take n (pattern_at spec op)) (drop n (pattern_at spec op))
      (subst (λ (cols : List ℕ). AreDistinct cols) (sym (take-append-drop n (pattern_at spec op))) pattern_distinct)

  pub some_below : (n c : ℕ) → In c (take n (pattern_at spec op)) → c < 32
  some_below n c m =
      pattern_below c
      (subst (λ (cols : List ℕ). In c cols) (take-append-drop n (pattern_at spec op))
      (append_in_left c (take n (pattern_at spec op)) (drop n (pattern_at spec op)) m))

-- so many columns as there are values are all that count
zip_some : (cols vals : List ℕ) → zip (take (length vals) cols) vals ≡ zip cols vals
zip_some [] [] = refl
zip_some [] (v ∷ vals) = refl
zip_some (c ∷ cols) [] = refl
zip_some (c ∷ cols) (v ∷ vals) = ap (λ (l : List (ℕ × ℕ)). (c, v) ∷ l) (zip_some cols vals)

pub tuple_some : (spec : Spec) (op : ℕ) (values : List ℕ)
    → gather pair_cmp (zip (take (length values) (pattern_at spec op)) values) ≡ (declared_call spec op values).args
tuple_some spec op values = ap (λ (l : List (ℕ × ℕ)). gather pair_cmp l) (zip_some (pattern_at spec op) values)

-- ---- what is declared without a fault

both_tests : (known fits : Bool)
    → (if known then (if fits then None else Some Values) else Some UnknownOperation) ≡ None → (known ≡ true) × (fits ≡ true)
both_tests true true is = (refl, refl)
both_tests true false is = absurd cc
both_tests false fits is = absurd cc

at_most : (count columns : ℕ) (none all : Bool) → eqb count 0 ≡ none → eqb count columns ≡ all → none || all ≡ true → count ≤ columns
at_most count columns true all e f is = omega (arith, eqb-true count 0 e)
at_most count columns false true e f is = omega (arith, eqb-true count columns f)
at_most count columns false false e f is = absurd cc

-- the operation is known, and there are no more values than its pattern has columns
pub declared_at : (spec : Spec) (op count : ℕ) → declared_fault_at spec op count ≡ None
    → (op < length spec.ops) × (count ≤ length (pattern_at spec op))
declared_at spec op count is =
    let tests = both_tests (ltb op (length spec.ops)) (declares_values spec op count) is in
    (ltb-true op (length spec.ops) tests.0, at_most count (length (pattern_at spec op)) _ _ refl refl tests.1)

-- none of them has a fault
pub none_declared_there : (spec : Spec) (declared : List AskedCall) (at : ℕ) (d : AskedCall) → at < length declared
    → first_declared_fault spec declared ≡ None → declared_fault_at spec (get_or declared at d).op (get_or declared at d).count ≡ None
none_declared_there spec [] at d below is = absurd (omega (arith, below))
none_declared_there spec (one ∷ declared) zero d below is = (none_both (declared_fault_at spec one.op one.count) (first_declared_fault spec declared) is).0
none_declared_there spec (one ∷ declared) (suc at) d below is =
    none_declared_there spec declared at d (omega (arith, below)) (none_both (declared_fault_at spec one.op one.count) (first_declared_fault spec declared) is).1

-- each has an operation
pub declared_known : (spec : Spec) (declared : List AskedCall) → first_declared_fault spec declared ≡ None
    → All (HasOperation spec) (declared_by spec declared)
declared_known spec [] is = All-nil (HasOperation spec)
declared_known spec (one ∷ declared) is =
    let none = none_both (declared_fault_at spec one.op one.count) (first_declared_fault spec declared) is in
    All-cons (HasOperation spec) (declared_call spec one.op one.values) (declared_by spec declared)
    (declared_at spec one.op one.count none.0).0 (declared_known spec declared none.1)

-- ---- calls that are filled one after another with what is declared

module _ {X : Type 0} (f : X → AskedCall) (spec : Spec) (xs : List X) (at : ℕ) (x : X) (below : at < length xs) (here : x ≡ get_or xs at x) where
  asked_here : get_or (map f xs) at (f x) ≡ f x
  asked_here = get_or-map f xs at x (f x) below ∙ ap f (sym here)

  -- what is declared at a place
  pub declared_here : first_declared_fault spec (map f xs) ≡ None
      → ((f x).op < length spec.ops) × ((f x).count ≤ length (pattern_at spec (f x).op))
  declared_here none =
      let same = length-map xs f in
      declared_at spec (f x).op (f x).count
      (subst (λ (one : AskedCall). declared_fault_at spec one.op one.count ≡ None) asked_here
      (none_declared_there spec (map f xs) at (f x) (omega (arith, below, same)) none))

  -- and one more that is filled
  pub one_declared : (calls : List Call) (call : Call) → at < length calls
      → take at calls ≡ take at (declared_by spec (map f xs)) → call ≡ declared_call spec (f x).op (f x).values
      → take (at + 1) (set calls at call) ≡ take (at + 1) (declared_by spec (map f xs))
  one_declared calls call room before is =
      let same = length-map xs f in
      let many = length-map (map f xs) (λ (a : AskedCall). declared_call spec a.op a.values) in
      take_more_set calls at call room
      ∙ ap (λ (l : List Call). l ++ call ∷ []) before
      ∙ ap (λ (c : Call). take at (declared_by spec (map f xs)) ++ c ∷ [])
      (is ∙ sym (get_or-map (λ (a : AskedCall). declared_call spec a.op a.values) (map f xs) at (f x) call (omega (arith, below, same))
      ∙ ap (λ (a : AskedCall). declared_call spec a.op a.values) asked_here))
      ∙ sym (take_more (declared_by spec (map f xs)) at call (omega (arith, below, same, many)))

-- ---- a fault of their own is their cause

own_declared_at : (known fits : Bool) → IsOwnIf (if known then (if fits then None else Some Values) else Some UnknownOperation)
own_declared_at true true = tt
own_declared_at true false = tt
own_declared_at false fits = tt

own_first : (spec : Spec) (declared : List AskedCall) → IsOwnIf (first_declared_fault spec declared)
own_first spec [] = tt
own_first spec (one ∷ declared) =
    own_or (declared_fault_at spec one.op one.count) (first_declared_fault spec declared)
    (own_declared_at (ltb one.op (length spec.ops)) (declares_values spec one.op one.count)) (own_first spec declared)

own_in : (store : StoreSeen) (state : State) (declared : List AskedCall) → IsOwnIf (declared_fault_in store state declared)
own_in store (states.Idle pass) declared =
    own_group (is_group declared) (option_or (first_declared_fault (spec_of store.row) declared) (spent_by store pass))
    (own_or (first_declared_fault (spec_of store.row) declared) (spent_by store pass) (own_first (spec_of store.row) declared)
    (own_spent (eqb (length (core_of pass).own) store.limit)))
own_in store (states.Prepared running) declared = tt
own_in store (states.PreparedGroup running) declared = tt
own_in store (states.Open group) declared = tt
own_in store states.Moving declared = tt

cause_by : (old new : SessionSeen) (declared : List AskedCall) (fault : CallFault) → IsOwn fault → declared_fault_of old declared ≡ Some fault
    → HasDeclaredCause old new declared fault
cause_by old new declared Memory own is = absurd own
cause_by old new declared (Busy stripe found) own is = absurd own
cause_by old new declared Spent own is = is
cause_by old new declared UnknownOperation own is = is
cause_by old new declared Values own is = is
cause_by old new declared Prepared own is = is
cause_by old new declared Count own is = is

pub own_declared_cause : (old new : SessionSeen) (declared : List AskedCall) (fault : CallFault) → declared_fault_of old declared ≡ Some fault
    → HasDeclaredCause old new declared fault
own_declared_cause old new declared fault is = cause_by old new declared fault (subst IsOwnIf is (own_in old.store old.state declared)) is

-- ---- so of a call of an open group

abbrev IsOwnOpen : OpenCallFault → Type 0
IsOwnOpen faults.NotOpen = Unit {0}
IsOwnOpen faults.UnknownOperation = Unit {0}
IsOwnOpen faults.Values = Unit {0}
IsOwnOpen faults.Full = Unit {0}
IsOwnOpen faults.Uncovered = ⊥
IsOwnOpen faults.Memory = ⊥

abbrev IsOwnOpenIf : Option OpenCallFault → Type 0
IsOwnOpenIf None = Unit {0}
IsOwnOpenIf (Some fault) = IsOwnOpen fault

own_open_by : (known same full : Bool)
    → IsOwnOpenIf (if known then (if same then (if full then Some faults.Full else None) else Some faults.Values) else Some faults.UnknownOperation)
own_open_by true true true = tt
own_open_by true true false = tt
own_open_by true false full = tt
own_open_by false same full = tt

own_open_in : (store : StoreSeen) (state : State) (asked : AskedCall) → IsOwnOpenIf (open_fault_in store state asked)
own_open_in store (states.Idle pass) asked = tt
own_open_in store (states.Prepared running) asked = tt
own_open_in store (states.PreparedGroup running) asked = tt
own_open_in store (states.Open group) asked =
    own_open_by (ltb asked.op (length (spec_of store.row).ops)) (eqb asked.count (length (written_columns_at (spec_of store.row) asked.op)))
    (eqb (length group.steps) 16)
own_open_in store states.Moving asked = tt

open_cause_by : (session : SessionSeen) (asked : AskedCall) (fault : OpenCallFault) → IsOwnOpen fault → open_fault_of session asked ≡ Some fault
    → HasOpenCause session session asked fault × IsLeftBy session session fault
open_cause_by session asked faults.NotOpen own is = (is, refl)
open_cause_by session asked faults.UnknownOperation own is = (is, refl)
open_cause_by session asked faults.Values own is = (is, refl)
open_cause_by session asked faults.Full own is = (is, refl)
open_cause_by session asked faults.Uncovered own is = absurd own
open_cause_by session asked faults.Memory own is = absurd own

pub own_open_cause : (session : SessionSeen) (asked : AskedCall) (fault : OpenCallFault) → open_fault_of session asked ≡ Some fault
    → HasOpenCause session session asked fault × IsLeftBy session session fault
own_open_cause session asked fault is =
    open_cause_by session asked fault (subst IsOwnOpenIf is (own_open_in session.store session.state asked)) is

-- one for which what was declared doesn't suffice was not declared
pub uncovered_so : (store : StoreSeen) (group : OpenGroupSeen) (call : Call) → IsCompiled (spec_of store.row) (compiled_of store.row).plans
    → Fits (spec_of store.row) call → (Covers (compiled_of store.row) call group.locks → ⊥) → IsUncoveredIn store (states.Open group) call
uncovered_so store group call ok fits none = (
  none,
  (λ declared locks is. none
      (subst (Covers (compiled_of store.row) call) (sym locks) (declared_calls_are_covered store ok declared call fits is))),
)
