use Rattle.std.proofs.Common.{◌≡◌, List, [], length, ap, subst, sym, ◌∙◌, arith}
use Rattle.rc_plan.proofs.Imports.{get_or_default, length-set, IsInRange, op_at, Op, Spec, IsPathOf, plan_at, AllBelow, Statement}
use Rattle.rc_plan.proofs.ResolvedLemmas.{one_more}
use Rattle.rc_plan.proofs.access.access_paths.Goals as goal

pub access_path-requires-clause-pattern : goal.access_path-requires-clause-pattern
access_path-requires-clause-pattern c n m =
    let in_range = subst IsInRange (sym c.spec-spec.ensures.value) c.spec-spec.ensures.sealed.in_range in
    let below = (c.op.ensures.known in_range).pattern n m in
    let columns = in_range.columns in
    omega (arith, below, columns)

pub loop-op-preserved : goal.loop-op-preserved
loop-op-preserved c =
    let spec = c.args.accepted.now in
    let plans = c.args.plans.now in
    let paths = c.loop-op.paths in
    let op = c.loop-op.op in
    let path = c.access_path.result in
    let room = c.loop-op.invariant.room in
    let test = c.loop-op-test.true in
    let few = c.spec-spec.ensures.sealed.in_range.ops in
    let all = ap length c.list.ensures ∙ ap (λ (s : Spec). length s.ops) c.spec-spec.ensures.value in
    let count = c.requires.planned.count in
    let plan : c.list-in-loop-op.result.now ≡ plan_at plans op =
    c.list-in-loop-op.ensures ∙ c.index-plans-op.is ∙ get_or_default plans op c.index-plans-op.result [] (omega (arith, test, all, count)) in
    let written : c.op.result.now ≡ op_at spec op = c.op.ensures.value ∙ ap (λ (s : Spec). op_at s op) c.spec-spec.ensures.value in
    record {
      room = length-set paths op path ∙ room;
      stand = one_more (λ n path. IsPathOf spec (op_at spec n) (plan_at plans n) path) paths op path (omega (arith, test, all, few, room)) c.loop-op.invariant.stand
          (subst (λ (x : List Statement). IsPathOf spec (op_at spec op) x path) plan
          (subst (λ (o : Op). IsPathOf spec o c.list-in-loop-op.result.now path) written
          (subst (λ (s : Spec). IsPathOf s c.op.result.now c.list-in-loop-op.result.now path) c.spec-spec.ensures.value c.access_path.ensures)));
    }

pub returns : goal.returns
returns c =
    let all = ap length c.list.ensures ∙ ap (λ (s : Spec). length s.ops) c.spec-spec.ensures.value in
    let over = c.loop-op-test.false in
    let end = c.loop-op.auto.op-end in
    let last : c.loop-op.op ≡ length c.args.accepted.now.ops = omega (arith, all, over, end) in
    subst (λ n. AllBelow (λ op path. IsPathOf c.args.accepted.now (op_at c.args.accepted.now op) (plan_at c.args.plans.now op) path) n c.loop-op.paths) last c.loop-op.invariant.stand
