use Rattle.rc_maps.proofs.Imports.{Some, sym, ap, subst, option_and_then, on_err_weaker, HasWidth, present, if_ok, started_at, started_new, on_some, stays}
use Rattle.rc_maps.proofs.entry_table.EntryTable.add_new_any.Goals as goal

pub put-requires : goal.put-requires
put-requires g c =
    subst (λ z. HasWidth (g.Self.EntryTable.one_column z) c.args.key.now) (sym c.entry_mut.follows.holds-at-none)
    (c.requires (ap (option_and_then present) (sym c.in_default.ensures.value)))

pub returns-in-Some-clause-ok : goal.returns-in-Some-clause-ok
returns-in-Some-clause-ok g c =
    let set = (on_some c.entry_mut.result c.in-Some.entry c.in-Some.is (c.entry_mut.follows.holds c.start.new.self)).0 in
    if_ok c.start.result
    (started_at (g.Self.EntryTable.entries c.args.self.now) _ c.args.key.now c.args.extra.now c.in-Some.entry.now c.start.new.self
    (sym c.in-Some.ensures.value) set) c.start.ensures.ok

pub returns-in-Some-clause-err : goal.returns-in-Some-clause-err
returns-in-Some-clause-err g c =
    let set = (on_some c.entry_mut.result c.in-Some.entry c.in-Some.is (c.entry_mut.follows.holds c.start.new.self)).0 in
    on_err_weaker c.start.result
    (λ e. stays (g.Self.EntryTable.entries c.args.self.now) _ c.args.key.now c.start.new.self (Some c.in-Some.entry.now)
    (sym c.in-Some.ensures.value) set (ap Some e)) c.start.ensures.err

pub returns-in-Some-clause-width : goal.returns-in-Some-clause-width
returns-in-Some-clause-width g c =
    (on_some c.entry_mut.result c.in-Some.entry c.in-Some.is (c.entry_mut.follows.holds c.start.new.self)).1
