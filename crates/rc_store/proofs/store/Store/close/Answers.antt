use Rattle.std.proofs.Common.{◌≡◌, List, ap, sym, subst, ◌∙◌}
use Rattle.rc_store.proofs.Imports.{Entry, IsPrefix, history_by, RowSeen, compiled_of, spec_of, HasClosed, made_by, closed_seen, has_closed, history_of, named_in, journal_of_history, one_history, one_table, room_of, room_of_history, StoreSeen}
use Rattle.rc_store.proofs.store.Store.close.Given as given
use Rattle.rc_store.proofs.store.Store.close.Goals as goal

pub from_kept-requires-clause-table : goal.from_kept-requires-clause-table
from_kept-requires-clause-table g c = one_table (spec_of c.self.inside.row) c.args.passes.items c.in-Ok-close.ended.fragments.items c.in-Ok-close.ensures.history

pub journal_of-requires-clause-room : goal.journal_of-requires-clause-room
journal_of-requires-clause-room g c =
    let h = history_of c.self.inside.row c.args.self.row c.args.passes.items c.in-Ok-close.ended.fragments.items (ap (λ (store : StoreSeen). store.row) c.self.view_is) c.in-Ok-close.ensures.history in
    let room = room_of c.args.self.row.keeping c.deref.result.now c.args.passes.items c.in-Ok.room.journal c.deref.ensures.value c.in-Ok.ensures.journal in
    room_of_history c.args.self.row c.args.passes.items c.in-Ok-close.ended.fragments.items h c.in-Ok-close.ended.passes.items c.in-Ok-close.ensures.passes c.requires.idle c.in-Ok.room.journal room

has : (g : given.Over) (c : goal.After-journal_of g)
    → HasClosed c.args.self c.args.passes.items (closed_seen (record { compiled = c.self.inside.compiled; instance = c.from_kept.result; journal = c.journal_of.result; made = c.in-Ok.room.made; history = c.in-Ok-close.ended.history }))
has g c =
    let h = history_of c.self.inside.row c.args.self.row c.args.passes.items c.in-Ok-close.ended.fragments.items (ap (λ (store : StoreSeen). store.row) c.self.view_is) c.in-Ok-close.ensures.history in
    let room = room_of c.args.self.row.keeping c.deref.result.now c.args.passes.items c.in-Ok.room.journal c.deref.ensures.value c.in-Ok.ensures.journal in
    let same : c.self.inside.row ≡ c.args.self.row = ap (λ (store : StoreSeen). store.row) c.self.view_is in
    let is : c.in-Ok-close.ended.history ≡ h.history = named_in c.self.inside.row c.args.self.row c.args.passes.items c.in-Ok-close.ended.fragments.items c.in-Ok-close.ended.history same c.in-Ok-close.ensures.named h in
    has_closed c.args.self c.args.passes.items c.in-Ok-close.ended.fragments.items c.in-Ok.ensures.sealed h _ is
    (subst (λ (x : RowSeen × List Entry). IsPrefix (history_by x.0.key) x.1) (λ i. (same i, is i)) c.in-Ok-close.ensures.begins)
    (sym c.self.invariant.compiled ∙ ap (λ (store : StoreSeen). compiled_of store.row) c.self.view_is)
    c.from_kept.ensures
    (journal_of_history c.args.self.row c.args.passes.items c.in-Ok-close.ended.fragments.items h c.in-Ok-close.ended.passes.items c.in-Ok-close.ensures.passes c.requires.idle
    c.in-Ok.room.journal room c.journal_of.result c.journal_of.ensures.none c.journal_of.ensures.some)
    (c.in-Ok.ensures.made ∙ ap made_by c.deref.ensures.value)

pub invariant_of-result : goal.invariant_of-result
invariant_of-result g c = one_history c.args.self c.args.passes.items _ (has g c)

pub returns-in-Ok-close-clause-closed : goal.returns-in-Ok-close-clause-closed
returns-in-Ok-close-clause-closed g c = has g c.before
