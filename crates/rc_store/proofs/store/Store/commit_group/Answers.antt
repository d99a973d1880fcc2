use Rattle.std.proofs.Common.{◌≡◌, List, ap, subst, sym, ◌∙◌}
use Rattle.rc_store.proofs.Imports.{Call, Reply, calls-with_replies, with_replies-parts, calls_of, replies_of, replies_are, IsOfPass, steps_in, IsGroupFinished}
use Rattle.rc_store.proofs.store.Store.commit_group.Goals as goal

pub returns-in-Entry-clause-finished : goal.returns-in-Entry-clause-finished
returns-in-Entry-clause-finished g c =
    let steps = steps_in c.args.prepared in
    c.finish_all_kept.ensures.finished (calls_of steps) (replies_of steps) (sym (ap steps_in c.in-Entry.is) ∙ sym (with_replies-parts steps))

pub returns-in-Counted-clause-finished : goal.returns-in-Counted-clause-finished
returns-in-Counted-clause-finished g c =
    let calls = c.in-Counted.calls.items in
    let replies = c.in-Counted.replies.items in
    let count = (subst (IsOfPass c.args.pass.now) c.in-Counted.is c.requires.whole).1 in
    let same = ap steps_in c.in-Counted.is in
    let calls_same : calls_of (steps_in c.args.prepared) ≡ c.deref.result.now = ap calls_of same ∙ calls-with_replies calls replies count ∙ sym c.deref.ensures.value in
    let replies_same : replies_of (steps_in c.args.prepared) ≡ replies = ap replies_of same ∙ replies_are calls replies count in
    subst (λ (x : List Call × List Reply). IsGroupFinished c.args.self.now.row x.0 x.1 c.args.pass.now c.finish_all_counted.new.pass c.finish_all_counted.result)
    (λ i. (sym calls_same i, sym replies_same i)) c.finish_all_counted.ensures.finished
