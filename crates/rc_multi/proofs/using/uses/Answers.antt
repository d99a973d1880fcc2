use Rattle.std.proofs.Common.{rules, subst, sym, tests, ◌∙◌}
use Rattle.rc_multi.proofs.Imports.{YieldsList-from_slice, serves_from_places, In, get_or_in, Statement, plan_at, LocksClassOf}
use Rattle.rc_multi.proofs.AnswerLemmas.{any_said}
use Rattle.rc_multi.proofs.UseLemmas.{locking_statement, plan_locks}
use Rattle.rc_multi.proofs.using.uses.Goals as goal

pub any-requires : goal.any-requires
any-requires c = record {
  can = tt;
  finite = tt;
  callable = serves_from_places (YieldsList-from_slice c.plan.result.now (c.iter.ensures.rest ∙ c.list.ensures)) (λ x q k. search (rules, tests))
      (λ x k l is. let known = c.plan.ensures.accepted.known x.now (subst (λ (y : Statement). In y c.plan.result.now) (sym is) (get_or_in c.plan.result.now k x.now l)) in search (rules, known));
}

pub returns : goal.returns
returns c =
    let spec = c.args.compiled.now.spec in
    let plan = plan_at c.args.compiled.now.plans c.args.call.now.op in
    let some = any_said (LocksClassOf spec c.args.stripe) _ _ c.any.result c.any.ensures.ran
    (YieldsList-from_slice plan (c.iter.ensures.rest ∙ c.list.ensures ∙ c.plan.ensures.value)) (λ x b q k. search (rules, tests)) in
    (λ t. let w = some.0 t in plan_locks spec c.args.stripe plan w.0 w.1 w.2, λ locks. some.1 (locking_statement spec c.args.stripe plan locks))
