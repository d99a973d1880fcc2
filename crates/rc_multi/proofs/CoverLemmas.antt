-- Which stripes a Lock may take.
use Rattle.std.proofs.Common.{◌≡◌, Bool, true, false, List, Some, ◌<◌, length, refl, sym, subst, ◌∙◌, ◌↔◌}
use Rattle.rc_multi.proofs.Imports.{false≢true, In, Within, test_from_within, within_from_test, Pairs, cols_of, Call, Spec, StripeLock, IsPlaced, class_at, physical_stripe, MayTake, Statement, Lock, Which, SpecWithPlans, plan_at, IsOfClass-physical_stripe, ClassLock, IsBandCovered, IsCovered, Covers, chooses, class_lock, may_be_any, lock_is}
use Rattle.rc_plan.specs.declared.statement.Which.TheVariants as which

module _ (spec : Spec) (args : Pairs) (l : ClassLock) (locks : List StripeLock) where
  -- where it may be any of the class, all must be there
  free : may_be_any (chooses spec args l.class) l.choice ≡ true → l.choice ≡ which.Keyed → Within (class_at spec l.class).cols (cols_of args) → ⊥
  free any keyed within =
      let out : may_be_any true which.Keyed ≡ true =
      (λ i. may_be_any (sym (test_from_within (class_at spec l.class).cols (cols_of args) within) i) (sym keyed i)) ∙ any in
      false≢true out

  pub any_covered : may_be_any (chooses spec args l.class) l.choice ≡ true → IsBandCovered spec l.class l.mode locks ↔ IsCovered spec args l locks
  any_covered any = (
    λ band stripe of own. band stripe of,
    λ each stripe of. each stripe of (λ keyed within. absurd (free any keyed within)),
  )

  -- and else the arguments' own
  pub own_covered : IsPlaced spec → l.class < length spec.classes → may_be_any (chooses spec args l.class) l.choice ≡ false
      → MayTake (Some locks) (physical_stripe spec l.class args) l.mode ↔ IsCovered spec args l locks
  own_covered placed known none = (
    λ there stripe of own. subst (λ s. MayTake (Some locks) s l.mode) (sym (own keyed within)) there,
    λ each. each (physical_stripe spec l.class args) (IsOfClass-physical_stripe spec placed l.class args known) (λ _ _. refl),
  )
    where
      both : (choice : Which) (chosen : Bool) → may_be_any chosen choice ≡ false → (choice ≡ which.Keyed) × (chosen ≡ true)
      both which.All chosen e = absurd (false≢true (sym e))
      both which.Keyed true e = (refl, refl)
      both which.Keyed false e = absurd (false≢true (sym e))

      keyed : l.choice ≡ which.Keyed
      keyed = (both l.choice (chooses spec args l.class) none).0

      within : Within (class_at spec l.class).cols (cols_of args)
      within = within_from_test (class_at spec l.class).cols (cols_of args) (both l.choice (chooses spec args l.class) none).1

-- what holds of each Lock of the plan is that the locks cover the call
abbrev pub AreCovered : Spec → Pairs → List Statement → List StripeLock → Type 0
AreCovered spec args plan locks = (s : Statement) → In s plan → (l : ClassLock) → class_lock s ≡ Some l → IsCovered spec args l locks

pub all_covered : (c : SpecWithPlans) (call : Call) (locks : List StripeLock) → AreCovered c.spec call.args (plan_at c.plans call.op) locks → Covers c call locks
all_covered c call locks each lock n =
    each (Lock n.class n.choice lock.1) n.locks (record { class = n.class; choice = n.choice; mode = lock.1 }) refl lock.0 n.of_class n.by_arguments

-- and the other way round
pub each_covered : (c : SpecWithPlans) (call : Call) (locks : List StripeLock) → Covers c call locks → AreCovered c.spec call.args (plan_at c.plans call.op) locks
each_covered c call locks covers s m l e stripe of own =
    covers (stripe, l.mode) (record {
      class = l.class;
      choice = l.choice;
      locks = subst (λ x. In x (plan_at c.plans call.op)) (lock_is s l e) m;
      of_class = of;
      by_arguments = own;
    })
