use Rattle.std.proofs.Common.{◌≡◌, Some, refl, sym, ap, ◌∙◌}
use Rattle.rc_check.specs.declared.progress.ProgressSets.{ProgressSets}
use Rattle.rc_check.proofs.RuleLemmas.{within_test}
use Rattle.rc_check.proofs.progress.ProgressSets.has_found.Goals as goal

pub returns-then-equals : goal.returns-then-equals
returns-then-equals c = λ p e.
    let same : c.in-Some.probe ≡ c.args.cols = c.equals.ensures.0 c.if-equals.true in
    let kept : c.args.self.now.probe ≡ p.probe = ap (λ (s : ProgressSets). s.probe) e in
    let test = within_test c.args.cols c.args.cols c.args.self.now.visited p.visited c.within.result c.within.ensures.found refl (ap (λ (s : ProgressSets). s.visited) e) in
    ((λ h. (sym kept ∙ c.in-Some.is ∙ ap Some same, test.0 h)), λ k. test.1 k.1)
