use Rattle.std.proofs.Common.{◌≡◌, Some, sym, ap, ◌∙◌}
use Rattle.rc_check.specs.declared.progress.ProgressSets.{ProgressSets}
use Rattle.rc_check.proofs.RuleLemmas.{some_same}
use Rattle.rc_check.proofs.progress.ProgressSets.has_probed_for.Goals as goal

pub returns-in-Some : goal.returns-in-Some
returns-in-Some c = λ p e.
    let kept : Some c.in-Some.probe ≡ p.probe = sym c.in-Some.is ∙ ap (λ (s : ProgressSets). s.probe) e in
    ((λ h. sym kept ∙ ap Some (c.equals.ensures.0 h)), λ k. c.equals.ensures.1 (some_same c.in-Some.probe c.args.cols (kept ∙ k)))
