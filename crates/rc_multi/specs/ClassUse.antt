-- What plans ask of a lock class, and which locks of it a group takes.
use Rattle.std.specs.Prelude.{ℕ, ◌==◌, ◌&&◌, ◌||◌, Bool, List, map, if◌then◌else◌}
use Rattle.rc_multi.specs.Imports.{list_any, nat_cmp, put, Mode, Spec, StripeLock, physical_stripe, Statement, CallWithPlan}
use Rattle.rc_multi.specs.declared.class_lock.ClassUse.{ClassUse}
use Rattle.rc_multi.specs.GroupLocks.{chooses, class_lock, group_mode, group_stripes, is_exclusive, is_lock, locks_class, may_be_any, may_take_any, writes_class}

-- what either asks
abbrev pub either : ClassUse → ClassUse → ClassUse
either a b = record { locks = a.locks || b.locks; any = a.any || b.any; exclusive = a.exclusive || b.exclusive }

-- by a statement, where the arguments choose a stripe of the class or don't
abbrev pub statement_use : ℕ → Bool → Statement → ClassUse
statement_use c chosen s = record {
  locks = is_lock (λ l. l.class == c) (class_lock s);
  any = is_lock (λ l. (l.class == c) && may_be_any chosen l.choice) (class_lock s);
  exclusive = is_lock (λ l. (l.class == c) && is_exclusive l.mode) (class_lock s);
}

-- by those of a plan
abbrev pub plan_use : ℕ → Bool → List Statement → ClassUse
plan_use c chosen plan = record {
  locks = list_any (λ s. (statement_use c chosen s).locks) plan;
  any = list_any (λ s. (statement_use c chosen s).any) plan;
  exclusive = list_any (λ s. (statement_use c chosen s).exclusive) plan;
}

-- by a call with its plan
abbrev pub class_use : Spec → ℕ → CallWithPlan → ClassUse
class_use spec c x = plan_use c (chooses spec x.call.args c) x.plan

-- by some calls with theirs
abbrev pub group_use : Spec → ℕ → List CallWithPlan → ClassUse
group_use spec c calls = record {
  locks = list_any (λ x. list_any (locks_class c) x.plan) calls;
  any = may_take_any spec calls c;
  exclusive = list_any (λ x. list_any (writes_class c) x.plan) calls;
}

-- the stripes, each locked in the mode
abbrev pub in_mode : Mode → List ℕ → List StripeLock
in_mode mode stripes = map (λ s. (s, mode)) stripes

-- the stripes with that which the call's arguments choose, where its plan locks the class
abbrev pub with_chosen : Spec → ℕ → CallWithPlan → List ℕ → List ℕ
with_chosen spec c x stripes = if list_any (locks_class c) x.plan then put nat_cmp (physical_stripe spec c x.call.args) stripes else stripes

-- what a group locks of a class
abbrev pub class_locks : Spec → List CallWithPlan → ℕ → List StripeLock
class_locks spec calls c = in_mode (group_mode calls c) (group_stripes spec calls c)
