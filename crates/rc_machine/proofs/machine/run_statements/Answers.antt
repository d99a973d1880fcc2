use Rattle.std.proofs.Common.{◌≡◌, ◌<◌, ◌∷◌, length, [], None, Err, true, sym, ap, subst, ◌∙◌}
use Rattle.rc_machine.proofs.Imports.{list_all, In, class_at, class_of, op_at, physical_stripe, MayTake, held_of, IsAccessPath, is_given_lock, IsPlanOf, plan_at, Statement, List, drop, take, IsRefused, stripes_held, told_answer, IsAt}
use Rattle.rc_machine.proofs.AccessRunLemmas.{args_are, args_striped}
use Rattle.rc_machine.proofs.EdgeChangeLemmas.{run_since, run_stopped}
use Rattle.rc_machine.proofs.ReadLemmas.{class_known}
use Rattle.rc_machine.proofs.machine.run_statements.Given.{Over}
use Rattle.rc_machine.proofs.machine.run_statements.Goals.{After-list-plan}
use Rattle.rc_machine.proofs.machine.run_statements.Goals as goal

-- the call's plan is that of what is compiled
plan_is : (g : Over) (c : After-list-plan g) → c.list-plan.result.now ≡ plan_at c.args.compiled.now.plans c.args.call.now.op
plan_is g c = c.list-plan.ensures ∙ c.plan.ensures.value

-- the path is one of the plan that is run
path_of : (g : Over) (c : After-list-plan g) → IsAccessPath c.args.compiled.now.spec (op_at c.args.compiled.now.spec c.args.call.now.op) c.list-plan.result.now c.in-Some.path
path_of g c = subst (λ (z : List Statement). IsAccessPath c.args.compiled.now.spec (op_at c.args.compiled.now.spec c.args.call.now.op) z c.in-Some.path) (sym (plan_is g c)) c.in-Some.ensures.some

pub lock_arguments-requires-clause-first : goal.lock_arguments-requires-clause-first
lock_arguments-requires-clause-first g c =
    let at = (goal.at.lock_arguments-requires-clause-first g c).After-list-plan in
    subst (λ cols. list_all (is_given_lock c.args.compiled.now.spec cols) (take c.in-Some.path.locks c.list-plan.result.now) ≡ true)
    (sym (args_are c.args.compiled.now.spec c.accepted.ensures.sealed c.args.call.now c.requires.fits)) (path_of g at).locks.first

pub returns-in_err-lock_arguments-clause-run : goal.returns-in_err-lock_arguments-clause-run
returns-in_err-lock_arguments-clause-run g c =
    let failed = c.in_err-lock_arguments.ensures in
    let old = g.H.Holder.seen c.args.holder.now in
    let new = g.H.Holder.seen c.lock_arguments.new.holder in
    run_stopped c.args.compiled.now c.args.call.now old new c.from_residual.result c.args.reply.now c.in_err-lock_arguments.field-0.0 c.from_residual.ensures.0 c.from_residual.ensures.1 failed.taken (λ h q. failed.stopped h (ap Err q))
    (λ h q.
    subst (λ (z : List Statement). IsRefused c.args.compiled.now.spec z c.args.call.now old new h) (plan_is g (goal.at.returns-in_err-lock_arguments-clause-run g c).After-list-plan) (failed.refused h (ap Err q)))
    failed.counted failed.goes_on

pub answer_by_path-requires-clause-locked : goal.answer_by_path-requires-clause-locked
answer_by_path-requires-clause-locked g c =
    let at = (goal.at.answer_by_path-requires-clause-locked g c).After-list-plan in
    let spec = c.args.compiled.now.spec in
    let args = c.args.call.now.args in
    let holder = c.lock_arguments.new.holder in
    let locked = c.in_ok-lock_arguments.ensures in
    let held = held_of (g.H.Holder.seen holder) in
    let falls : c.in_ok-stripe.stripe ≡ physical_stripe spec (class_of spec c.in-Some.path.edge) args = c.in_ok-stripe.ensures.stripe ∙ ap (λ k. physical_stripe spec k args) c.edge.ensures.class in
    record {
      sealed = c.accepted.ensures.sealed;
      fits = c.requires.fits;
      planned = subst (IsPlanOf spec c.args.call.now.op) c.plan.ensures.value c.plan.ensures.accepted;
      path = c.in-Some.ensures.some;
      table = (g.met.H.Holder.sound_table holder spec (locked.sound spec c.requires.sound)).0;
      taken = locked.taken;
      run = subst (λ (z : List Statement). IsAt spec z c.args.call.now (drop c.in-Some.path.locks z) (args ∷ []) None held) (plan_is g at) locked.run;
      falls = falls;
      held = subst (λ z. In z (stripes_held held)) (sym falls) (locked.held (class_of spec c.in-Some.path.edge) (path_of g at).locks.locked);
    }

pub find_stripe-requires-clause-known : goal.find_stripe-requires-clause-known
find_stripe-requires-clause-known g c =
    let spec = c.args.compiled.now.spec in
    subst (λ k. k < length spec.classes) (sym c.edge.ensures.class) (class_known spec c.accepted.ensures.sealed c.in-Some.path.edge c.in-Some.ensures.some.locks.edge)

pub find_stripe-requires-clause-within : goal.find_stripe-requires-clause-within
find_stripe-requires-clause-within g c k m =
    let spec = c.args.compiled.now.spec in
    args_striped spec c.accepted.ensures.sealed c.args.call.now c.requires.fits (plan_at c.args.compiled.now.plans c.args.call.now.op) c.in-Some.path c.in-Some.ensures.some k
    (subst (λ z. In k (class_at spec z).cols) c.edge.ensures.class m)

-- what is lent is so still
pub answer_by_path-requires-clause-lent : goal.answer_by_path-requires-clause-lent
answer_by_path-requires-clause-lent g c lock named = subst (λ lends. MayTake lends lock.0 lock.1) (sym c.in_ok-lock_arguments.ensures.goes_on.lends) (c.requires.lent lock named)

pub returns-clause-run : goal.returns-clause-run
returns-clause-run g c =
    let locked = c.in_ok-lock_arguments.ensures in
    run_since c.args.compiled.now c.args.call.now (g.H.Holder.seen c.args.holder.now) (g.H.Holder.seen c.lock_arguments.new.holder) (g.H.Holder.seen c.answer_by_path.new.holder) (told_answer c.answer_by_path.result c.answer_by_path.new.reply)
    locked.goes_on locked.counted c.answer_by_path.ensures.run
