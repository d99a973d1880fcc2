use Rattle.std.proofs.Common.{◌≡◌}
use Rattle.rc_embed.specs.declared.fault.OpenFault.TheVariants as faults
use Rattle.rc_embed.proofs.Imports.{Refused, IsResumedOf, IsResumedWith, IsUnresumedFor}
use Rattle.rc_embed.proofs.ResumingLemmas.{err_if, no_memory, ok_if, resumed_with}
use Rattle.rc_embed.proofs.resuming.resume.Goals as goal

pub returns-in-Ok-clause-resumed : goal.returns-in-Ok-clause-resumed
returns-in-Ok-clause-resumed c =
    let so = c.in-Ok.ensures in
    ok_if (IsResumedOf c.args.closed c.in-Ok.compiled c.args.options)
    (IsResumedWith c.args.closed c.args.text.now c.args.shapes.now c.args.plans.now c.args.options) c.resume_compiled.result
    c.resume_compiled.ensures.resumed
    (resumed_with c.args.closed c.args.text.now c.args.shapes.now c.args.plans.now c.args.options so.allowed.0 so.allowed.1 c.in-Ok.compiled
    so.compiled so.further)

pub returns-in-Ok-clause-refused : goal.returns-in-Ok-clause-refused
returns-in-Ok-clause-refused c =
    let so = c.in-Ok.ensures in
    err_if (λ back. back.fault ≡ Refused faults.Memory)
    (λ back. IsUnresumedFor c.args.closed c.args.text.now c.args.shapes.now c.args.plans.now c.args.options back.fault) c.resume_compiled.result
    c.resume_compiled.ensures.memory
    (λ back is. no_memory c.args.closed c.args.text.now c.args.shapes.now c.args.plans.now c.args.options so.allowed.0 so.allowed.1 c.in-Ok.compiled
    so.compiled back.fault is)
