use Rattle.std.proofs.Common.{rules, ◌≡◌, ap, length, subst, ◌∙◌}
use Rattle.rc_store.proofs.Imports.{PreparedGroup, as_many, HasReplyEach, steps_in}
use Rattle.rc_store.proofs.running_group.PreparedGroup.count.Goals as goal

pub returns-in-Counted : goal.returns-in-Counted
returns-in-Counted c =
    let calls = c.in-Counted.calls.items in
    let replies = c.in-Counted.field-1.items in
    let count = subst HasReplyEach c.in-Counted.is c.requires in
    let many : length (steps_in c.args.self.now) ≡ length calls =
    ap (λ (p : PreparedGroup). length (steps_in p)) c.in-Counted.is ∙ as_many calls replies count ∙ count in
    search rules
