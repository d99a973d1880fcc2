use Rattle.std.proofs.Common.{◌<◌, ◌≤◌, [], get_or, inr, length, refl, ap, subst, ◌∙◌, arith}
use Rattle.rc_audit.proofs.Imports.{get_or_default, each_in, get_or_in, replay, HasTurnsBelow, HaveBegun, IsFirstFilled, round_at}
use Rattle.rc_audit.proofs.StageLemmas.{among_first, closing_first, some_first}
use Rattle.rc_audit.proofs.judge.Judge.stage_from.Goals as goal

pub tail-requires : goal.tail-requires
tail-requires c = (replay c.args.self.now.compiled.now.spec c.requires.before.1.done, c.requires.before.1.keeps)

pub returns : goal.returns
returns c = λ front before.
    let form = c.args.self.now.form in
    let compiled = c.args.self.now.compiled.now in
    let work = c.args.self.now.work.now in
    let first = subst (λ rs. IsFirstFilled rs c.args.number c.first_filled-round.result) c.list-rounds.ensures c.first_filled-round.ensures in
    let count = ap length c.list-rounds.ensures in
    let past : length work.rounds ≤ c.first_filled-round.result = let none = c.if-round-rounds.false in omega (arith, none, count) in
    closing_first form compiled work c.requires.judgeable c.args.self.now.relation c.args.number c.args.place front before c.first_filled-round.result first _
    past (c.in_ok-tail.ensures (replay compiled.spec before.done) before.keeps) refl refl

pub returns-then-round-rounds : goal.returns-then-round-rounds
returns-then-round-rounds c = λ front before.
    let form = c.args.self.now.form in
    let compiled = c.args.self.now.compiled.now in
    let work = c.args.self.now.work.now in
    let next = c.first_filled-round.result in
    let first = subst (λ rs. IsFirstFilled rs c.args.number next) c.list-rounds.ensures c.first_filled-round.ensures in
    let count = ap length c.list-rounds.ensures in
    let within : next < length work.rounds = let some = c.if-round-rounds.true in omega (arith, some, count) in
    let here = c.list.ensures ∙ c.index-rounds-round.is ∙ ap (λ rs. get_or rs next c.index-rounds-round.result) c.list-rounds.ensures
    ∙ get_or_default work.rounds next c.index-rounds-round.result [] within in
    let begun = subst (λ ts. HaveBegun ts work.threads c.in_ok-first_cursors.field-0.items) here c.in_ok-first_cursors.ensures in
    let below = each_in (HasTurnsBelow work.threads) work.rounds c.requires.judgeable.threads (round_at work next) (get_or_in work.rounds next [] within) in (
      among_first form compiled work c.requires.judgeable c.args.self.now.relation c.args.number c.args.place front before next first _ refl refl c.new.ensures within begun,
      inr (some_first work (round_at work next) work.threads c.in_ok-first_cursors.field-0.items begun below (first.filled within)),
    )
