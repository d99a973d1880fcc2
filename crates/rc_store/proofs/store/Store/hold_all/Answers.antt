use Rattle.std.proofs.Common.{ap, ◌∙◌}
use Rattle.rc_store.proofs.Imports.{calls-with_replies, calls_of}
use Rattle.rc_store.proofs.store.Store.hold_all.Goals as goal

pub returns-in-Ok-clause-calls : goal.returns-in-Ok-clause-calls
returns-in-Ok-clause-calls g c =
    ap calls_of c.in-Ok.ensures.steps ∙ calls-with_replies c.args.calls.now c.in_ok-replies.replies.items c.in_ok-replies.ensures.ok.count
