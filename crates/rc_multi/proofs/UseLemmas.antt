-- Whether a plan locks the class of a stripe.
use Rattle.rc_multi.proofs.Imports.{ℕ, List, refl, subst, In, Spec, Statement, Lock, IsOfClassLocked, LocksClassOf, lock_is}

-- where a statement of the plan does, the plan does
pub plan_locks : (spec : Spec) (stripe : ℕ) (plan : List Statement) (s : Statement) → In s plan → LocksClassOf spec stripe s → IsOfClassLocked spec plan stripe
plan_locks spec stripe plan s m w = (w.0.class, w.0.choice, w.0.mode, subst (λ (x : Statement). In x plan) (lock_is s w.0 w.1) m, w.2)

-- and where the plan does, one of its statements does
pub locking_statement : (spec : Spec) (stripe : ℕ) (plan : List Statement) → IsOfClassLocked spec plan stripe → (s : Statement) × In s plan × LocksClassOf spec stripe s
locking_statement spec stripe plan w = (Lock w.0 w.1 w.2, w.3, (record { class = w.0; choice = w.1; mode = w.2 }, refl, w.4))
