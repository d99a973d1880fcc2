-- Calls that have no fault of their own.
use Rattle.std.proofs.Common.{◌≡◌, ℕ, zero, suc, ◌+◌, ◌<◌, Bool, true, false, List, [], ◌∷◌, ◌++◌, length, map, take, Option, Some, None, if◌then◌else◌, ltb, eqb, ltb-true, eqb-true, get_or, set, refl, sym, ap, ◌∙◌, subst, arith}
use Rattle.rc_embed.proofs.Imports.{option_or, AllByRecursion, get_or-map, take_more, take_more_set, Call, Spec, core_of, spec_of, StoreSeen, call_of, written_columns_at, CallFault, Busy, Count, Memory, Prepared, Spent, UnknownOperation, Values, AskedCall, calls_by, HasCallCause, fault_at, fault_in, fault_of, first_fault, is_group, spent_by, SessionSeen, State}
use Rattle.rc_embed.specs.declared.session.State.TheVariants as states

pub none_both : (a b : Option CallFault) → option_or a b ≡ None → (a ≡ None) × (b ≡ None)
none_both None b is = (refl, is)
none_both (Some fault) b is = absurd cc

-- none of them has one
pub none_there : (spec : Spec) (calls : List AskedCall) (at : ℕ) (d : AskedCall) → at < length calls
    → first_fault spec calls ≡ None → fault_at spec (get_or calls at d).op (get_or calls at d).count ≡ None
none_there spec [] at d below is = absurd (omega (arith, below))
none_there spec (call ∷ calls) zero d below is = (none_both (fault_at spec call.op call.count) (first_fault spec calls) is).0
none_there spec (call ∷ calls) (suc at) d below is =
    none_there spec calls at d (omega (arith, below)) (none_both (fault_at spec call.op call.count) (first_fault spec calls) is).1

both_tests : (known same : Bool)
    → (if known then (if same then None else Some Values) else Some UnknownOperation) ≡ None → (known ≡ true) × (same ≡ true)
both_tests true true is = (refl, refl)
both_tests true false is = absurd cc
both_tests false same is = absurd cc

-- the operation is known, and takes as many values
pub taken_at : (spec : Spec) (op count : ℕ) → fault_at spec op count ≡ None
    → (op < length spec.ops) × (count ≡ length (written_columns_at spec op))
taken_at spec op count is =
    let tests = both_tests (ltb op (length spec.ops)) (eqb count (length (written_columns_at spec op))) is in
    (ltb-true op (length spec.ops) tests.0, eqb-true count (length (written_columns_at spec op)) tests.1)

-- ---- calls that are filled one after another

module _ {X : Type 0} (f : X → AskedCall) (spec : Spec) (xs : List X) (at : ℕ) (x : X) (below : at < length xs) (here : x ≡ get_or xs at x) where
  asked_here : get_or (map f xs) at (f x) ≡ f x
  asked_here = get_or-map f xs at x (f x) below ∙ ap f (sym here)

  -- the call that is asked for at a place
  pub taken_here : first_fault spec (map f xs) ≡ None → (length (map f xs) ≡ length xs)
      → ((f x).op < length spec.ops) × ((f x).count ≡ length (written_columns_at spec (f x).op))
  taken_here none same =
      let there : fault_at spec (get_or (map f xs) at (f x)).op (get_or (map f xs) at (f x)).count ≡ None =
      none_there spec (map f xs) at (f x) (omega (arith, below, same)) none in
      taken_at spec (f x).op (f x).count
      (subst (λ (call : AskedCall). fault_at spec call.op call.count ≡ None) asked_here there)

  -- and one more that is filled
  pub one_filled : (calls : List Call) (call : Call) → at < length calls → length (calls_by spec (map f xs)) ≡ length xs → length (map f xs) ≡ length xs
      → take at calls ≡ take at (calls_by spec (map f xs)) → call ≡ call_of spec (f x).op (f x).values
      → take (at + 1) (set calls at call) ≡ take (at + 1) (calls_by spec (map f xs))
  one_filled calls call room many same before is =
      take_more_set calls at call room
      ∙ ap (λ (l : List Call). l ++ call ∷ []) before
      ∙ ap (λ (c : Call). take at (calls_by spec (map f xs)) ++ c ∷ [])
      (is ∙ sym (get_or-map (λ (a : AskedCall). call_of spec a.op a.values) (map f xs) at (f x) call (omega (arith, below, same))
      ∙ ap (λ (a : AskedCall). call_of spec a.op a.values) asked_here))
      ∙ sym (take_more (calls_by spec (map f xs)) at call (omega (arith, below, many)))

-- what holds of the first calls and of one more holds of all of them
pub all_more : {X : Type 0} (P : X → Type 0) (xs : List X) (x : X) → AllByRecursion P xs → P x → AllByRecursion P (xs ++ x ∷ [])
all_more P [] x all one = (one, tt)
all_more P (y ∷ xs) x all one = (all.0, all_more P xs x all.1 one)

-- ---- a fault of their own is their cause

abbrev pub IsOwn : CallFault → Type 0
IsOwn Memory = ⊥
IsOwn (Busy stripe found) = ⊥
IsOwn Spent = Unit {0}
IsOwn UnknownOperation = Unit {0}
IsOwn Values = Unit {0}
IsOwn Prepared = Unit {0}
IsOwn Count = Unit {0}

abbrev pub IsOwnIf : Option CallFault → Type 0
IsOwnIf None = Unit {0}
IsOwnIf (Some fault) = IsOwn fault

pub own_or : (a b : Option CallFault) → IsOwnIf a → IsOwnIf b → IsOwnIf (option_or a b)
own_or None b one other = other
own_or (Some fault) b one other = one

own_at : (known same : Bool) → IsOwnIf (if known then (if same then None else Some Values) else Some UnknownOperation)
own_at true true = tt
own_at true false = tt
own_at false same = tt

own_first : (spec : Spec) (calls : List AskedCall) → IsOwnIf (first_fault spec calls)
own_first spec [] = tt
own_first spec (call ∷ calls) =
    own_or (fault_at spec call.op call.count) (first_fault spec calls)
    (own_at (ltb call.op (length spec.ops)) (eqb call.count (length (written_columns_at spec call.op)))) (own_first spec calls)

pub own_spent : (spent : Bool) → IsOwnIf (if spent then Some Spent else None)
own_spent true = tt
own_spent false = tt

pub own_group : (group : Bool) (fault : Option CallFault) → IsOwnIf fault → IsOwnIf (if group then fault else Some Count)
own_group true fault own = own
own_group false fault own = tt

own_in : (store : StoreSeen) (state : State) (calls : List AskedCall) → IsOwnIf (fault_in store state calls)
own_in store (states.Idle pass) calls =
    own_group (is_group calls) (option_or (first_fault (spec_of store.row) calls) (spent_by store pass))
    (own_or (first_fault (spec_of store.row) calls) (spent_by store pass) (own_first (spec_of store.row) calls)
    (own_spent (eqb (length (core_of pass).own) store.limit)))
own_in store (states.Prepared running) calls = tt
own_in store (states.PreparedGroup running) calls = tt
own_in store (states.Open group) calls = tt
own_in store states.Moving calls = tt

cause_by : (old new : SessionSeen) (calls : List AskedCall) (fault : CallFault) → IsOwn fault → fault_of old calls ≡ Some fault
    → HasCallCause old new calls fault
cause_by old new calls Memory own is = absurd own
cause_by old new calls (Busy stripe found) own is = absurd own
cause_by old new calls Spent own is = is
cause_by old new calls UnknownOperation own is = is
cause_by old new calls Values own is = is
cause_by old new calls Prepared own is = is
cause_by old new calls Count own is = is

pub own_cause : (old new : SessionSeen) (calls : List AskedCall) (fault : CallFault) → fault_of old calls ≡ Some fault
    → HasCallCause old new calls fault
own_cause old new calls fault is = cause_by old new calls fault (subst IsOwnIf is (own_in old.store old.state calls)) is
