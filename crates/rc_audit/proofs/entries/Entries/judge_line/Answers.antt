use Rattle.std.proofs.Common.{◌++◌, ◌∷◌, [], get_or, refl, sym, ◌∙◌}
use Rattle.rc_audit.proofs.Imports.{err_from_is_err_and, false≢true, IsAmong, HasPending}
use Rattle.rc_audit.proofs.EntryLemmas.{meet_err, none_left_pending, pending_met, pending_other, some_left}
use Rattle.rc_audit.proofs.entries.Entries.judge_line.Goals as goal

pub begin_entry-requires-clause-none : goal.begin_entry-requires-clause-none
begin_entry-requires-clause-none c =
    none_left_pending c.args.self.now (λ pending. false≢true (sym c.if-has_pending.false ∙ c.has_pending.ensures.1 pending))

pub begin_entry-requires-clause-some : goal.begin_entry-requires-clause-some
begin_entry-requires-clause-some c =
    some_left c.args.work.now c.args.self.now c.requires.more (λ pending. false≢true (sym c.if-has_pending.false ∙ c.has_pending.ensures.1 pending))

pub returns-in_err-meet_at : goal.returns-in_err-meet_at
returns-in_err-meet_at c = λ form front at.
    let compiled = c.args.compiled.now in
    let work = c.args.work.now in
    let relation = c.args.relation.now in
    let entries = c.args.self.now in
    let pending : HasPending entries = c.has_pending.ensures.0 c.if-has_pending.true in
    let refused = err_from_is_err_and c.from_residual.result c.from_residual.ensures.1 in
    rw (refused.1, refused.2)
    (meet_err (Unit {0}) form compiled work front c.args.line.now (get_or entries.lines entries.met []) (IsAmong form compiled work relation entries (front ++ c.args.line.now ∷ []))
    _ c.in_err-meet_at.ensures.met (λ other. pending_other form compiled work c.requires.judgeable relation entries front at pending c.args.line.now other))

pub returns-then-has_pending : goal.returns-then-has_pending
returns-then-has_pending c = λ form front at.
    pending_met form c.args.compiled.now c.args.work.now c.requires.judgeable c.args.relation.now c.args.self.now front at (c.has_pending.ensures.0 c.if-has_pending.true)
    c.args.line.now c.in_ok-meet_at.ensures.met _ refl
