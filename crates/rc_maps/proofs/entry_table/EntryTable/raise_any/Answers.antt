use Rattle.rc_maps.proofs.Imports.{Some, sym, ap, on_err_weaker, on_ok_weaker, on_some, raised, stays}
use Rattle.rc_maps.proofs.entry_table.EntryTable.raise_any.Goals as goal

pub returns-in-Some-clause-ok : goal.returns-in-Some-clause-ok
returns-in-Some-clause-ok g c =
    let set = (on_some c.entry_mut.result c.in-Some.entry c.in-Some.is (c.entry_mut.follows.holds c.raise.new.self)).0 in
    on_ok_weaker c.raise.result
    (raised (g.Self.EntryTable.entries c.args.self.now) _ c.args.key.now c.raise.new.self (Some c.in-Some.entry.now)
    (sym c.in-Some.ensures.value) set c.args.extra.now) c.raise.ensures.ok

pub returns-in-Some-clause-err : goal.returns-in-Some-clause-err
returns-in-Some-clause-err g c =
    let set = (on_some c.entry_mut.result c.in-Some.entry c.in-Some.is (c.entry_mut.follows.holds c.raise.new.self)).0 in
    on_err_weaker c.raise.result
    (λ e. stays (g.Self.EntryTable.entries c.args.self.now) _ c.args.key.now c.raise.new.self (Some c.in-Some.entry.now)
    (sym c.in-Some.ensures.value) set (ap Some e)) c.raise.ensures.err

pub returns-in-Some-clause-width : goal.returns-in-Some-clause-width
returns-in-Some-clause-width g c =
    (on_some c.entry_mut.result c.in-Some.entry c.in-Some.is (c.entry_mut.follows.holds c.raise.new.self)).1
