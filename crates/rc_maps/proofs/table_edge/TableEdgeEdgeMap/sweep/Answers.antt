use Rattle.std.proofs.Common.{◌≡◌, Some, sym, ap, ◌∙◌}
use Rattle.std.specs.FinMap as fin
use Rattle.rc_maps.proofs.Imports.{option_and_then, Counted, Rows, present, written, swept_filled, swept_none, tombstone_absent, written_again, Values, TableRows, on_some}
use Rattle.rc_maps.proofs.table_edge.TableEdgeEdgeMap.sweep.Goals as goal

pub returns-in_default-clause-now : goal.returns-in_default-clause-now
returns-in_default-clause-now g c =
    ap g.T.EntryTable.entries c.entry_mut.follows.holds-at-none ∙ ap (λ (z : TableRows). z.rows) c.self.view_is
    ∙ swept_none c.args.self.now.rows c.args.key.now
    (ap (λ (z : TableRows). fin.get z.rows c.args.key.now) (sym c.self.view_is) ∙ sym c.in_default.ensures.value)

pub returns-else-is_tombstone-clause-now : goal.returns-else-is_tombstone-clause-now
returns-else-is_tombstone-clause-now g c =
    let m : Rows = c.args.self.now.rows in
    let key : Values = c.args.key.now in
    let v : Counted = c.in-Some.entry.now in
    let kept : fin.get m key ≡ Some v = ap (λ (z : TableRows). fin.get z.rows key) (sym c.self.view_is) ∙ sym c.in-Some.ensures.value in
    let set = (on_some c.entry_mut.result c.in-Some.entry c.in-Some.is (c.entry_mut.follows.holds v)).0 in
    set ∙ ap (λ (z : TableRows). fin.insert z.rows key v) c.self.view_is ∙ written_again m key (Some v) kept
    ∙ swept_filled m key v kept (sym c.is_tombstone.ensures ∙ c.if-is_tombstone.false)

pub returns-else-is_tombstone-clause-width : goal.returns-else-is_tombstone-clause-width
returns-else-is_tombstone-clause-width g c =
    (on_some c.entry_mut.result c.in-Some.entry c.in-Some.is (c.entry_mut.follows.holds c.in-Some.entry.now)).1
    ∙ ap (λ (z : TableRows). z.one_column) c.self.view_is

pub returns-then-is_tombstone-clause-now : goal.returns-then-is_tombstone-clause-now
returns-then-is_tombstone-clause-now g c =
    let m : Rows = c.args.self.now.rows in
    let key : Values = c.args.key.now in
    let v : Counted = c.in-Some.entry.now in
    let kept : fin.get m key ≡ Some v = ap (λ (z : TableRows). fin.get z.rows key) (sym c.self.view_is) ∙ sym c.in-Some.ensures.value in
    let set = (on_some c.entry_mut.result c.in-Some.entry c.in-Some.is (c.entry_mut.follows.holds v)).0 in
    c.take_out.ensures.entries
    ∙ ap (λ z. fin.remove z key) (set ∙ ap (λ (z : TableRows). fin.insert z.rows key v) c.self.view_is ∙ written_again m key (Some v) kept)
    ∙ ap (written m key) (sym (ap (option_and_then present) kept ∙ tombstone_absent v (sym c.is_tombstone.ensures ∙ c.if-is_tombstone.true)))

pub returns-then-is_tombstone-clause-width : goal.returns-then-is_tombstone-clause-width
returns-then-is_tombstone-clause-width g c =
    c.take_out.ensures.width ∙ (on_some c.entry_mut.result c.in-Some.entry c.in-Some.is (c.entry_mut.follows.holds c.in-Some.entry.now)).1
    ∙ ap (λ (z : TableRows). z.one_column) c.self.view_is
