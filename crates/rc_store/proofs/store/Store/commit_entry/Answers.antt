use Rattle.std.proofs.Common.{◌≡◌, sym, ap, subst}
use Rattle.rc_store.proofs.Imports.{Entry, MayCommit, committed, PassSeen, RowSeen, compiled_of, core_of, holds_now, IsReady, settled_at_rest, StoreSeen}
use Rattle.rc_store.proofs.store.Store.commit_entry.Goals as goal

pub commit-place-requires-clause-allowed : goal.commit-place-requires-clause-allowed
commit-place-requires-clause-allowed g c =
    subst (λ (x : Entry). MayCommit (compiled_of c.self.inside.row) (core_of c.args.pass.now) x) (sym c.requires.next) (subst (λ (r : RowSeen). IsReady r c.args.entry.steps c.args.pass.now) (sym (ap (λ (s : StoreSeen). s.row) c.self.view_is)) c.requires.ready).may

pub commit-place-requires-clause-left : goal.commit-place-requires-clause-left
commit-place-requires-clause-left g c =
    subst (λ (x : Entry). holds_now c.args.pass.now.held ≡ (committed (compiled_of c.self.inside.row) (core_of c.args.pass.now) 0 x).held) (sym c.requires.next)
    (subst (λ (r : RowSeen). IsReady r c.args.entry.steps c.args.pass.now) (sym (ap (λ (s : StoreSeen). s.row) c.self.view_is)) c.requires.ready).left

pub release_all-requires-clause-rest : goal.release_all-requires-clause-rest
release_all-requires-clause-rest g c =
    settled_at_rest c.args.pass.now.held c.commit-place.new.pass.held
    (ap (λ (q : PassSeen). q.held) c.commit-place.ensures.added.is)
