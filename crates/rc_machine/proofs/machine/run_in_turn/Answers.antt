use Rattle.std.proofs.Common.{◌≡◌, ◌<◌, ◌≤◌, ◌∷◌, ◌++◌, [], List, Err, None, Option, length, refl, sym, ap, subst, ◌∙◌}
use Rattle.rc_machine.proofs.Imports.{In, project_all, Pairs, project, rising_pairs, BindingList, Spec, HeldStripe, MayTake, held_of, goes_on_same, Statement, IsPlanOf, plan_at, IsNamedBy, IsRefused, told_answer, IsAt}
use Rattle.rc_machine.proofs.StripeLemmas.{args_below}
use Rattle.rc_machine.proofs.EdgeChangeLemmas.{run_since, run_stopped}
use Rattle.rc_machine.proofs.StepLemmas.{begins}
use Rattle.rc_machine.proofs.machine.run_in_turn.Given.{Over}
use Rattle.rc_machine.proofs.machine.run_in_turn.Goals.{After-list, After-list-plan}
use Rattle.rc_machine.proofs.machine.run_in_turn.Goals as goal

-- the specification and the call's plan are those of what is compiled
spec_is : (g : Over) (c : After-list g) → c.spec.result.now ≡ c.args.compiled.now.spec
spec_is g c = c.spec.ensures.value ∙ c.accepted.ensures.value

plan_is : (g : Over) (c : After-list-plan g) → c.list-plan.result.now ≡ plan_at c.args.compiled.now.plans c.args.call.now.op
plan_is g c = c.list-plan.ensures ∙ c.plan.ensures.value

-- so many columns it has
columns_are : (g : Over) (c : After-list g) → length c.list.result.now ≡ length c.args.compiled.now.spec.columns
columns_are g c = ap length c.list.ensures ∙ ap (λ (s : Spec). length s.columns) (spec_is g c)

-- the specification has a column, and few
pub clear_for-requires-clause-some : goal.clear_for-requires-clause-some
clear_for-requires-clause-some g c = subst (λ n. 0 < n) (sym (columns_are g (goal.at.clear_for-requires-clause-some g c).After-list)) c.accepted.ensures.sealed.populated.column

pub clear_for-requires-clause-few : goal.clear_for-requires-clause-few
clear_for-requires-clause-few g c = subst (λ n. n ≤ 32) (sym (columns_are g (goal.at.clear_for-requires-clause-few g c).After-list)) c.accepted.ensures.sealed.in_range.columns

pub begin-requires : goal.begin-requires
begin-requires g c n m =
    subst (λ w. n < w) (sym (ap (λ (z : BindingList). z.width) c.clear_for.ensures.bindings ∙ columns_are g (goal.at.begin-requires g c).After-list))
    (args_below c.args.compiled.now.spec c.accepted.ensures.sealed c.args.call.now c.requires.fits n (subst (In n) c.cols.ensures.cols m))

pub push_projection-requires : goal.push_projection-requires
push_projection-requires g c n m = subst (In n) c.cols.ensures.cols (subst (λ (z : BindingList). In n z.columns) c.begin.ensures m)

pub loop-at-init : goal.loop-at-init
loop-at-init g c =
    let at = goal.at.loop-at-init g c in
    let spec : Spec = c.args.compiled.now.spec in
    let plan : List Statement = c.list-plan.result.now in
    let planned : IsPlanOf spec c.args.call.now.op plan = subst (IsPlanOf spec c.args.call.now.op) (sym c.list-plan.ensures) c.plan.ensures.accepted in
    let start : IsAt spec plan c.args.call.now plan (c.args.call.now.args ∷ []) None [] = begins spec c.accepted.ensures.sealed plan c.args.call.now c.requires.fits planned in
    let whole : project c.begin.new.self.columns c.args.call.now.args ≡ c.args.call.now.args =
    ap (λ (z : BindingList). project z.columns c.args.call.now.args) c.begin.ensures
    ∙ project_all c.cols.result c.args.call.now.args (rising_pairs c.args.call.now.args c.cols.ensures.tuple) (λ n m. subst (In n) (sym c.cols.ensures.cols) m) in
    let args : c.push_projection.new.self.tuples ≡ c.args.call.now.args ∷ [] =
    ap (λ (z : BindingList). z.tuples) c.in_ok-push_projection.ensures.ok ∙ ap (λ t. c.begin.new.self.tuples ++ t ∷ []) whole ∙ ap (λ (z : BindingList). z.tuples ++ c.args.call.now.args ∷ []) c.begin.ensures in
    record {
      wide = record {
        bindings = ap (λ (z : BindingList). z.width) c.in_ok-push_projection.ensures.ok ∙ ap (λ (z : BindingList). z.width) c.begin.ensures ∙ ap (λ (z : BindingList). z.width) c.clear_for.ensures.bindings ∙ columns_are g at.After-list;
        found = ap (λ (z : BindingList). z.width) c.clear_for.ensures.found ∙ columns_are g at.After-list;
      };
      run = subst (λ (z : Option Pairs). IsAt spec plan c.args.call.now plan c.push_projection.new.self.tuples z (held_of (g.H.Holder.seen c.args.holder.now))) (sym c.clear_for.ensures.old)
          (subst (λ (z : List Pairs). IsAt spec plan c.args.call.now plan z None (held_of (g.H.Holder.seen c.args.holder.now))) (sym args)
          (subst (λ (z : List HeldStripe). IsAt spec plan c.args.call.now plan (c.args.call.now.args ∷ []) None z) (sym c.requires.free) start));
      taken = λ h m. absurd (subst (In h) c.requires.free m);
      counted = refl;
      goes_on = goes_on_same (g.H.Holder.seen c.args.holder.now);
      reply = refl;
      sound = λ spec h. h;
    }

-- what the plan may name there is to lend, before each statement
pub step-requires-clause-lent : goal.step-requires-clause-lent
step-requires-clause-lent g c lock named =
    subst (λ lends. MayTake lends lock.0 lock.1) (sym c.loop-at.invariant.goes_on.lends)
    (c.requires.lent lock (subst (λ (z : List Statement). IsNamedBy c.args.compiled.now.spec c.args.call.now.args z lock) (plan_is g (goal.at.step-requires-clause-lent g c).After-list-plan) named))

pub returns-in_err-answer-clause-run : goal.returns-in_err-answer-clause-run
returns-in_err-answer-clause-run g c =
    let failed = c.in_err-answer.ensures in
    let given = c.from_residual-in_err-answer.ensures in
    let compiled = c.args.compiled.now in
    let call = c.args.call.now in
    let old = g.H.Holder.seen c.args.holder.now in
    let mid = g.H.Holder.seen c.loop-at.holder in
    let new = g.H.Holder.seen c.step.new.holder in
    let result = c.from_residual-in_err-answer.result in
    run_since compiled call old mid new (told_answer result c.loop-at.reply) c.loop-at.invariant.goes_on c.loop-at.invariant.counted
    (run_stopped compiled call mid new result c.loop-at.reply c.in_err-answer.field-0.0 given.0 given.1 failed.taken (λ h q. failed.stopped h (ap Err q))
    (λ h q.
    subst (λ (z : List Statement). IsRefused compiled.spec z call mid new h) (plan_is g (goal.at.returns-in_err-answer-clause-run g c).After-list-plan) (failed.refused h (ap Err q)))
    failed.counted failed.goes_on)
