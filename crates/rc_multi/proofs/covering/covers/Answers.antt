use Rattle.std.proofs.Common.{◌≡◌, Some, rules, subst, sym, tests, ◌∙◌}
use Rattle.rc_multi.proofs.Imports.{YieldsList-from_slice, serves_from_places, In, get_or_in, Statement, plan_at, ClassLock, IsCovered, class_lock}
use Rattle.rc_multi.proofs.AnswerLemmas.{all_said}
use Rattle.rc_multi.proofs.CoverLemmas.{all_covered, each_covered}
use Rattle.rc_multi.proofs.covering.covers.Goals as goal

pub all-requires : goal.all-requires
all-requires c = record {
  can = tt;
  finite = tt;
  callable = serves_from_places (YieldsList-from_slice c.plan.result.now (c.iter.ensures.rest ∙ c.list.ensures)) (λ x q k. search (rules, tests))
      (λ x k l is. let known = c.plan.ensures.accepted.known x.now (subst (λ (y : Statement). In y c.plan.result.now) (sym is) (get_or_in c.plan.result.now k x.now l)) in search (rules, known));
}

pub returns : goal.returns
returns c =
    let spec = c.args.compiled.now in
    let locks = c.args.locks.now in
    let all = all_said (λ (s : Statement). (lock : ClassLock) → class_lock s ≡ Some lock → IsCovered spec.spec c.args.call.now.args lock locks) _ _ c.all.result c.all.ensures.ran
    (YieldsList-from_slice (plan_at spec.plans c.args.call.now.op) (c.iter.ensures.rest ∙ c.list.ensures ∙ c.plan.ensures.value)) (λ x b q k. search (rules, tests)) in
    (λ t. all_covered spec c.args.call.now locks (all.0 t), λ covers. all.1 (each_covered spec c.args.call.now locks covers))
