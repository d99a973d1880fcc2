use Rattle.std.proofs.Common.{◌++◌, ◌∷◌, [], Bool, arith}
use Rattle.rc_audit.proofs.Imports.{err_from_is_err_and, HasPassed, IsAmong}
use Rattle.rc_audit.specs.declared.stage.Stage.TheVariants as stages
use Rattle.rc_audit.proofs.EntryLemmas.{meet_err}
use Rattle.rc_audit.proofs.JudgeLemmas.{among_at, judges_err, opening_before, opening_is_bad}
use Rattle.rc_audit.proofs.StageLemmas.{among_before}
use Rattle.rc_audit.proofs.judge.Judge.pass_line.Goals as goal

pub returns-in_err-meet_line-in-Opening-clause-judged : goal.returns-in_err-meet_line-in-Opening-clause-judged
returns-in_err-meet_line-in-Opening-clause-judged c = λ front passed.
    let refused = err_from_is_err_and c.from_residual.result c.from_residual.ensures.1 in
    rw (refused.1, refused.2)
    (meet_err Bool c.args.self.now.form c.args.self.now.compiled.now c.args.self.now.work.now front c.args.line.now _
    (HasPassed (record c.args.self.now { stage = stages.Opening c.meet_line.new.self }) (front ++ c.args.line.now ∷ [])) _ c.in_err-meet_line-in-Opening.ensures.met
    (opening_is_bad c.args.self.now c.in-Opening.opening c.args.line.now front c.in-Opening.is passed))

pub stage_from-requires-clause-before : goal.stage_from-requires-clause-before
stage_from-requires-clause-before c = (
  c.requires.0 ++ c.args.line.now ∷ [],
  opening_before c.args.self.now c.in-Opening.opening c.meet_line.new.self c.args.line.now c.in_ok-meet_line-in-Opening.field-0 c.requires.0 c.in-Opening.is c.requires.1
      c.in_ok-meet_line-in-Opening.ensures.met c.in_ok-meet_line-in-Opening.ensures.next c.in_ok-meet_line-in-Opening.ensures.last c.if-branch.true,
)

pub returns-in_ok-self-in-Opening-clause-judged : goal.returns-in_ok-self-in-Opening-clause-judged
returns-in_ok-self-in-Opening-clause-judged c = λ front passed. record {
  judgeable = passed.judgeable;
  stage_is =
      c.in_ok-self-in-Opening.ensures (front ++ c.args.line.now ∷ [])
      (opening_before c.args.self.now c.in-Opening.opening c.meet_line.new.self c.args.line.now c.in_ok-meet_line-in-Opening.field-0 front c.in-Opening.is passed
      c.in_ok-meet_line-in-Opening.ensures.met c.in_ok-meet_line-in-Opening.ensures.next c.in_ok-meet_line-in-Opening.ensures.last c.if-branch.true);
}

pub returns-in_err-judge_line-in-Entries-clause-judged : goal.returns-in_err-judge_line-in-Entries-clause-judged
returns-in_err-judge_line-in-Entries-clause-judged c = λ front passed.
    let form = c.args.self.now.form in
    let compiled = c.args.self.now.compiled.now in
    let work = c.args.self.now.work.now in
    let refused = err_from_is_err_and c.from_residual-in_err-judge_line-in-Entries.result c.from_residual-in_err-judge_line-in-Entries.ensures.1 in
    rw (refused.1, refused.2)
    (judges_err form compiled work front c.args.line.now (IsAmong form compiled work c.judge_line.new.relation c.judge_line.new.self (front ++ c.args.line.now ∷ []))
    (HasPassed (record c.args.self.now { relation = c.judge_line.new.relation; stage = stages.Entries c.judge_line.new.self }) (front ++ c.args.line.now ∷ [])) _
    (c.in_err-judge_line-in-Entries.ensures form front (among_at c.args.self.now c.in-Entries.entries front c.in-Entries.is passed)))

pub has_more-requires : goal.has_more-requires
has_more-requires c =
    (c.in_ok-judge_line-in-Entries.ensures c.args.self.now.form c.requires.0
    (among_at c.args.self.now c.in-Entries.entries c.requires.0 c.in-Entries.is c.requires.1)).within

pub overflow_add-next : goal.overflow_add-next
overflow_add-next c =
    let within = (c.in_ok-judge_line-in-Entries.ensures c.args.self.now.form c.requires.0
    (among_at c.args.self.now c.in-Entries.entries c.requires.0 c.in-Entries.is c.requires.1)).within in
    let few = c.requires.1.judgeable.limits.few_rounds in
    omega (arith, within, few)

pub stage_from-requires-then-not-has_more-clause-before : goal.stage_from-requires-then-not-has_more-clause-before
stage_from-requires-then-not-has_more-clause-before c = (
  c.requires.0 ++ c.args.line.now ∷ [],
  among_before c.args.self.now.form c.args.self.now.compiled.now c.args.self.now.work.now c.requires.1.judgeable c.judge_line.new.relation c.judge_line.new.self (c.requires.0 ++ c.args.line.now ∷ [])
      (c.in_ok-judge_line-in-Entries.ensures c.args.self.now.form c.requires.0 (among_at c.args.self.now c.in-Entries.entries c.requires.0 c.in-Entries.is c.requires.1))
      (c.has_more.ensures.no c.if-not-has_more.true),
)

pub returns-in_ok-self-in-Entries-clause-judged : goal.returns-in_ok-self-in-Entries-clause-judged
returns-in_ok-self-in-Entries-clause-judged c = λ front passed. record {
  judgeable = passed.judgeable;
  stage_is =
      c.in_ok-self-in-Entries.ensures (front ++ c.args.line.now ∷ [])
      (among_before c.args.self.now.form c.args.self.now.compiled.now c.args.self.now.work.now passed.judgeable c.judge_line.new.relation c.judge_line.new.self (front ++ c.args.line.now ∷ [])
      (c.in_ok-judge_line-in-Entries.ensures c.args.self.now.form front (among_at c.args.self.now c.in-Entries.entries front c.in-Entries.is passed))
      (c.has_more.ensures.no c.if-not-has_more.true));
}
