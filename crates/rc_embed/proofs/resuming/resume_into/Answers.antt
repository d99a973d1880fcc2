use Rattle.std.proofs.Common.{◌≡◌}
use Rattle.rc_embed.specs.declared.fault.OpenFault.TheVariants as faults
use Rattle.rc_embed.proofs.Imports.{Refused, IsOneOf, IsOneResumed, IsUnresumedFor}
use Rattle.rc_embed.proofs.ResumingLemmas.{err_if, no_memory, ok_if, one_resumed}
use Rattle.rc_embed.proofs.resuming.resume_into.Goals as goal

pub returns-in-Ok-clause-resumed : goal.returns-in-Ok-clause-resumed
returns-in-Ok-clause-resumed c =
    let so = c.in-Ok.ensures in
    ok_if (λ stores. IsOneOf c.args.closed c.in-Ok.compiled c.args.options stores.items)
    (λ stores. IsOneResumed c.args.closed c.args.text.now c.args.shapes.now c.args.plans.now c.args.options stores.items) c.resume_alone.result
    c.resume_alone.ensures.resumed
    (λ stores. one_resumed c.args.closed c.args.text.now c.args.shapes.now c.args.plans.now c.args.options so.allowed.0 so.allowed.1 c.in-Ok.compiled
    so.compiled so.further stores.items)

pub returns-in-Ok-clause-refused : goal.returns-in-Ok-clause-refused
returns-in-Ok-clause-refused c =
    let so = c.in-Ok.ensures in
    err_if (λ back. back.fault ≡ Refused faults.Memory)
    (λ back. IsUnresumedFor c.args.closed c.args.text.now c.args.shapes.now c.args.plans.now c.args.options back.fault) c.resume_alone.result
    c.resume_alone.ensures.memory
    (λ back is. no_memory c.args.closed c.args.text.now c.args.shapes.now c.args.plans.now c.args.options so.allowed.0 so.allowed.1 c.in-Ok.compiled
    so.compiled back.fault is)
