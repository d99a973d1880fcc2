use Rattle.std.proofs.Common.{List, ap, subst, sym, ◌∙◌}
use Rattle.rc_store.proofs.Imports.{Step, with_replies, with_step, with_one_more, HasReplyEach, steps_in}
use Rattle.rc_store.proofs.running_group.PreparedGroup.with.Goals as goal

pub returns-in_ok-push-in-Counted-2-clause-steps : goal.returns-in_ok-push-in-Counted-2-clause-steps
returns-in_ok-push-in-Counted-2-clause-steps c =
    let calls = c.in-Counted.calls.items in
    let replies = c.in-Counted.replies.items in
    let each = subst HasReplyEach c.in-Counted.is c.requires in
    (λ i. with_replies (c.in_ok-push-in-Counted.ensures.items i) (c.in_ok-push-in-Counted-2.ensures.items i))
    ∙ with_one_more calls replies c.args.call c.args.reply each
    ∙ ap (λ (l : List Step). with_step l c.args.call c.args.reply) (sym (ap steps_in c.in-Counted.is))
