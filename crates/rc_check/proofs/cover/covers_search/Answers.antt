use Rattle.std.proofs.Common.{◌≡◌, sym, ap, ◌∙◌}
use Rattle.rc_check.specs.declared.progress.ProgressSets.{ProgressSets}
use Rattle.rc_check.proofs.RuleLemmas.{covers_keyed}
use Rattle.rc_check.proofs.cover.covers_search.Goals as goal

pub returns-in-Some : goal.returns-in-Some
returns-in-Some c = λ p e.
    let kept : c.args.before.now.probe ≡ p.probe = ap (λ (s : ProgressSets). s.probe) e in
    covers_keyed c.args.spec.now p c.args.class c.striping.result c.in-Some.cols c.within.result c.striping.ensures (sym kept ∙ c.in-Some.is) c.within.ensures.found
