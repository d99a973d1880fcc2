-- The stripes that evaluation of an operation's own plan names are those that the plan locks. (PLDI 2012, well-locked
-- query plans.)
use Rattle.rc_store.specs.Imports.{List, In, Call, Fits, EdgeRow, IsCompiled, SpecWithPlans, plan_at, own_plan_accepted, eval, IsNamedBy, named_law, StripeLock, HasAcceptedPlan, with_plan}

-- Over an accepted specification with its plans: each stripe that evaluation of a call's own plan names, on any rows,
-- is of a class that the plan locks, in that Lock's mode. It is the arguments' stripe where the Lock takes those of the
-- bindings and the arguments have the columns that choose one.
abbrev pub CompiledStripesAreLocked : Type 0
CompiledStripesAreLocked = (c : SpecWithPlans) → IsCompiled c.spec c.plans → (call : Call) → Fits c.spec call
    → (rows : List EdgeRow) (lock : StripeLock) → In lock (eval c.spec (plan_at c.plans call.op) call rows).named
    → IsNamedBy c.spec call.args (plan_at c.plans call.op) lock

pub compiled_named_law : CompiledStripesAreLocked
compiled_named_law c ok call fits =
    let p : HasAcceptedPlan c.spec (with_plan c.plans call) = own_plan_accepted c ok call fits in
    named_law c.spec ok.sealed.accepted.placed call p.op p.fits (plan_at c.plans call.op) p.known p.rules
