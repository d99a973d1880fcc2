use Rattle.rc_store.proofs.Imports.{sym, ap, subst, with_replies, PassSeen, RowSeen, IsReady, settled_at_rest, StoreSeen}
use Rattle.rc_store.proofs.store.Store.commit_counted.Goals as goal

pub commit_calls-place-requires-clause-allowed : goal.commit_calls-place-requires-clause-allowed
commit_calls-place-requires-clause-allowed g c = (subst (λ (r : RowSeen). IsReady r (with_replies c.args.calls.now c.args.replies.now) c.args.pass.now) (sym (ap (λ (s : StoreSeen). s.row) c.self.view_is)) c.requires.ready).may

pub commit_calls-place-requires-clause-left : goal.commit_calls-place-requires-clause-left
commit_calls-place-requires-clause-left g c = (subst (λ (r : RowSeen). IsReady r (with_replies c.args.calls.now c.args.replies.now) c.args.pass.now) (sym (ap (λ (s : StoreSeen). s.row) c.self.view_is)) c.requires.ready).left

pub release_all-requires-clause-rest : goal.release_all-requires-clause-rest
release_all-requires-clause-rest g c =
    settled_at_rest c.args.pass.now.held c.commit_calls-place.new.pass.held
    (ap (λ (q : PassSeen). q.held) c.commit_calls-place.ensures.added.is)
