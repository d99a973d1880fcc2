use Rattle.std.proofs.Common.{◌∙◌, ◌≤◌, subst}
use Rattle.rc_runner.proofs.Imports.{All-set, PassSeen, core_of, set_same, told_all, told_more, IsFree, number_of, stand_of}
use Rattle.rc_runner.proofs.telling.tell_all.Goals as goal

pub loop-other-preserved : goal.loop-other-preserved
loop-other-preserved c =
    let i = c.loop-other.other-index in
    let first = c.args.others.now in
    let all = c.loop-other.others in
    let d = c.other-item.result in
    let new = c.hear.new.pass in
    let inv = c.loop-other.invariant in (
      c.hear.ensures.other ∙ inv.0,
      All-set (IsFree c.args.store.now) all i new c.hear.ensures.free inv.1,
      set_same number_of all first i new d c.hear.ensures.number inv.2,
      set_same (λ (p : PassSeen). (core_of p).own) all first i new d c.hear.ensures.heard.own inv.3,
      told_more stand_of all first i d c.loop-other-test.true new (stand_of c.args.pass.now) inv.3
          (subst (λ (p : PassSeen). (core_of p).seen ≤ (core_of new).seen) inv.0 c.hear.ensures.heard.told) inv.4,
    )

pub returns-clause-heard : goal.returns-clause-heard
returns-clause-heard c =
    told_all stand_of c.args.others.now c.loop-other.others (stand_of c.args.pass.now) c.loop-other.other-index
    c.loop-other-test.false c.loop-other.invariant.3 c.loop-other.invariant.4
