use Rattle.std.proofs.Common.{◌≡◌, ◌↔◌, true, List, length, get_or, Some, refl, sym, ap, ◌∙◌, arith}
use Rattle.rc_check.proofs.Imports.{slice_get, false≢true, slice_get_read, Op, Spec, each_more, first_at, op_at, K1, Statement, IsKeptInPlan, check_at, plan_rules, progress_at}
use Rattle.rc_check.proofs.JudgeLemmas.{known_at, rule_kept}
use Rattle.rc_check.proofs.check.check_statement.Goals.{After-index-list-at, After-keeps}
use Rattle.rc_check.proofs.check.check_statement.Goals as goal

-- the statement stands there in the plan
there : (c : After-index-list-at) → slice_get c.args.plan.now c.args.at ≡ Some c.index-list-at.result
there c =
    ap (λ l. slice_get l c.args.at) (sym c.list.ensures)
    ∙ slice_get_read c.list.result.now (length c.list.result.now) c.args.at c.index-list-at.result refl
    (omega (arith, c.requires.there, ap length c.list.ensures)) c.index-list-at.is

-- the test says whether the rule is kept there
tested : (c : After-keeps) → slice_get c.args.plan.now c.args.at ≡ Some c.index-list-at.result
    → (c.keeps.result ≡ true)
    ↔ IsKeptInPlan c.args.accepted.now (op_at c.args.accepted.now c.args.number) c.args.plan.now
    (check_at c.args.at (get_or plan_rules c.loop-rule.rule-index K1))
tested c at =
    let spec : Spec = c.args.accepted.now in
    let op : Op = op_at spec c.args.number in
    let plan : List Statement = c.args.plan.now in
    let same : c.op-op.result.now ≡ op = c.op-op.ensures.value ∙ ap (λ (s : Spec). op_at s c.args.number) c.spec.ensures.value in
    rule_kept spec op c.op-op.result.now plan c.args.at c.index-list-at.result
    (get_or plan_rules c.loop-rule.rule-index K1) c.keeps.result same at
    (c.keeps.ensures (progress_at spec op plan c.args.at) c.requires.before)

pub keeps-requires-clause-known : goal.keeps-requires-clause-known
keeps-requires-clause-known c =
    known_at c.args.accepted.now c.args.plan.now c.args.at c.index-list-at.result c.requires.known
    (there (goal.at.keeps-requires-clause-known c).After-index-list-at)

pub returns-then-not-keeps : goal.returns-then-not-keeps
returns-then-not-keeps c =
    let at = goal.at.returns-then-not-keeps c in
    first_at (IsKeptInPlan c.args.accepted.now (op_at c.args.accepted.now c.args.number) c.args.plan.now) (check_at c.args.at)
    plan_rules c.loop-rule.rule-index K1 c.loop-rule-test.true c.loop-rule.invariant
    (λ k. false≢true (sym c.if-not-keeps.true ∙ (tested at.After-keeps (there at.After-index-list-at)).1 k))

pub loop-rule-preserved : goal.loop-rule-preserved
loop-rule-preserved c =
    let at = goal.at.loop-rule-preserved c in
    each_more (IsKeptInPlan c.args.accepted.now (op_at c.args.accepted.now c.args.number) c.args.plan.now) (check_at c.args.at)
    plan_rules c.loop-rule.rule-index K1 c.loop-rule-test.true c.loop-rule.invariant
    ((tested at.After-keeps (there at.After-index-list-at)).0 c.if-not-keeps.false)
