use Rattle.std.proofs.Common.{◌≡◌, ◌<◌, get_or, map, sym, ◌∙◌, subst, arith}
use Rattle.rc_place.proofs.Imports.{false≢true, Item, Rule, A1, IsKept, Keeps, check_on, count_of, item_checks, kind_of, step, number_of_item, EachHolds, IsFirstFailing, each_more, first_at, taken_whole}
use Rattle.rc_place.proofs.JudgeLemmas.{at_all}
use Rattle.rc_place.proofs.judging.judge_item.Goals as goal

pub keeps-requires-clause-known : goal.keeps-requires-clause-known
keeps-requires-clause-known c =
    subst (λ kind. c.args.number < count_of c.args.spec.now kind)
    (sym (at_all (λ rule. kind_of rule ≡ c.args.kind) c.args.rules.now c.loop-rule.rule-index A1 c.requires.of_kind c.loop-rule-test.true)) c.requires.known

pub returns-then-not-keeps : goal.returns-then-not-keeps
returns-then-not-keeps c =
    let rule : Rule = get_or c.args.rules.now c.loop-rule.rule-index A1 in
    subst (λ (item : Item). IsFirstFailing (IsKept c.args.spec.now) (item_checks (step c.args.kind c.args.rules.now) c.args.number) (record { rule = rule; item = item })) (sym c.new-item.ensures)
    (first_at (IsKept c.args.spec.now) (check_on c.args.kind c.args.number) c.args.rules.now c.loop-rule.rule-index A1 c.loop-rule-test.true c.loop-rule.invariant
    (λ k. false≢true (sym c.if-not-keeps.true ∙ c.keeps.ensures.1 (subst (Keeps c.args.spec.now rule) (number_of_item c.args.kind c.args.number) k))))

pub loop-rule-preserved : goal.loop-rule-preserved
loop-rule-preserved c =
    let rule : Rule = get_or c.args.rules.now c.loop-rule.rule-index A1 in
    each_more (IsKept c.args.spec.now) (check_on c.args.kind c.args.number) c.args.rules.now c.loop-rule.rule-index A1 c.loop-rule-test.true c.loop-rule.invariant
    (subst (Keeps c.args.spec.now rule) (sym (number_of_item c.args.kind c.args.number)) (c.keeps.ensures.0 c.if-not-keeps.false))

pub returns : goal.returns
returns c =
    subst (λ rules. EachHolds (IsKept c.args.spec.now) (map (check_on c.args.kind c.args.number) rules))
    (taken_whole c.args.rules.now c.loop-rule.rule-index (omega (arith, c.loop-rule-test.false, c.loop-rule.auto.rule-index-end))) c.loop-rule.invariant
