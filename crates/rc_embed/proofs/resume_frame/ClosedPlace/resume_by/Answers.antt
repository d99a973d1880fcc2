use Rattle.std.proofs.Common.{◌≡◌, Some, sym, subst, ◌∙◌}
use Rattle.rc_embed.proofs.Imports.{same_Some, ClosedSeen, IsUnresumedBy}
use Rattle.rc_embed.proofs.ResumingLemmas.{unresumed_by}
use Rattle.rc_embed.proofs.resume_frame.ClosedPlace.resume_by.Goals as goal

pub returns-in-Err-clause-refused : goal.returns-in-Err-clause-refused
returns-in-Err-clause-refused c closed is =
    let same : Some c.in-Some.closed ≡ Some closed = sym c.in-Some.is ∙ c.replace.ensures.value ∙ c.self.view_is ∙ is in
    subst (λ (x : ClosedSeen). IsUnresumedBy x c.args.text.now c.args.shapes.now c.args.plans.now c.args.frame.now c.tell_resume_fault.new.self c.tell_resume_fault.result)
    (same_Some c.in-Some.closed closed same)
    (unresumed_by c.in-Some.closed c.args.text.now c.args.shapes.now c.args.plans.now c.args.frame.now c.tell_resume_fault.new.self
    c.options.result c.options.ensures c.in-Err.field-0.fault c.in-Err.ensures.refused c.tell_resume_fault.result c.tell_resume_fault.ensures.told)
