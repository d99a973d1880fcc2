-- The locks of a group: of each class that a plan of one of its calls locks, all stripes where some call may take any, and else those that the
-- calls' arguments choose. (PLDI 2012, lock striping.)
use Rattle.std.specs.Prelude.{◌≡◌, ℕ, ◌<◌, ◌==◌, ◌&&◌, not, Bool, true, false, List, Option, Some, None, map, filter, length, if◌then◌else◌}
use Rattle.rc_multi.specs.Imports.{flat_map, list_any, range_with_len, nat_cmp, gather, is_within, Pairs, cols_of, Call, Mode, Exclusive, Shared, Spec, StripeLock, class_at, physical_stripe, Statement, Lock, Probe, Read, CheckAbsent, CheckFound, CheckDep, Apply, Emit, Commit, Release, Which, IsOfClass, band, CallWithPlan}
use Rattle.rc_plan.specs.declared.statement.Which.TheVariants as which
use Rattle.rc_multi.specs.declared.class_lock.ClassLock.{ClassLock}

-- ---- which calls may be declared

-- the call's operation is one of the specification's, whatever its arguments are
abbrev pub HasOperation : Spec → Call → Type 0
HasOperation spec call = call.op < length spec.ops

-- ---- what a statement locks

-- the class, which of its stripes and in which mode, where the statement is a Lock
abbrev pub class_lock : Statement → Option ClassLock
class_lock (Lock c choice mode) = Some (record { class = c; choice = choice; mode = mode })
class_lock _ = None

-- it is a Lock, and the test holds of it
abbrev pub is_lock : (ClassLock → Bool) → Option ClassLock → Bool
is_lock test None = false
is_lock test (Some lock) = test lock

-- the choice may be of any stripe: of all, or of those of bindings where the arguments don't choose one
abbrev pub may_be_any : Bool → Which → Bool
may_be_any chosen which.All = true
may_be_any chosen which.Keyed = not chosen

abbrev pub is_exclusive : Mode → Bool
is_exclusive Exclusive = true
is_exclusive Shared = false

-- the arguments have the columns that choose a stripe of the class
abbrev pub chooses : Spec → Pairs → ℕ → Bool
chooses spec args c = is_within (class_at spec c).cols (cols_of args)

-- the statement locks the class; at these arguments it may take any stripe of it; it locks it Exclusive
abbrev pub locks_class : ℕ → Statement → Bool
locks_class c s = is_lock (λ l. l.class == c) (class_lock s)

abbrev pub takes_any : Spec → Pairs → ℕ → Statement → Bool
takes_any spec args c s = is_lock (λ l. (l.class == c) && may_be_any (chooses spec args c) l.choice) (class_lock s)

abbrev pub writes_class : ℕ → Statement → Bool
writes_class c s = is_lock (λ l. (l.class == c) && is_exclusive l.mode) (class_lock s)

-- it locks the class of the stripe
abbrev pub LocksClassOf : Spec → ℕ → Statement → Type 0
LocksClassOf spec stripe s = (lock : ClassLock) × (class_lock s ≡ Some lock) × IsOfClass spec stripe lock.class

-- ---- what a group locks

-- some call may take any stripe of the class
abbrev pub may_take_any : Spec → List CallWithPlan → ℕ → Bool
may_take_any spec calls c = list_any (λ x. list_any (takes_any spec x.call.args c) x.plan) calls

-- the stripes that the arguments choose of the calls that lock the class
abbrev pub chosen_stripes : Spec → List CallWithPlan → ℕ → List ℕ
chosen_stripes spec calls c = gather nat_cmp (map (λ x. physical_stripe spec c x.call.args) (filter (λ x. list_any (locks_class c) x.plan) calls))

-- the stripes of the class that the group holds, and how
abbrev pub group_stripes : Spec → List CallWithPlan → ℕ → List ℕ
group_stripes spec calls c = if may_take_any spec calls c then band spec c else chosen_stripes spec calls c

abbrev pub group_mode : List CallWithPlan → ℕ → Mode
group_mode calls c = if list_any (λ x. list_any (writes_class c) x.plan) calls then Exclusive else Shared

abbrev pub group_locks : Spec → List CallWithPlan → List StripeLock
group_locks spec calls = flat_map (λ c. map (λ s. (s, group_mode calls c)) (group_stripes spec calls c)) (range_with_len 0 (length spec.classes))
