use Rattle.std.proofs.Common.{◌≡◌, Some, sym, ap, ◌∙◌}
use Rattle.std.specs.FinMap as fin
use Rattle.rc_maps.proofs.Imports.{Rows, one_less, written, Values, TableRows, on_some}
use Rattle.rc_maps.proofs.table_edge.TableEdgeEdgeMap.sub.Goals as goal

pub returns-clause-now : goal.returns-clause-now
returns-clause-now g c =
    let m : Rows = c.args.self.now.rows in
    let key : Values = c.args.key.now in
    let set = (on_some c.entry_mut.result c.in-Some.entry c.in-Some.is (c.entry_mut.follows.holds c.lower.new.self)).0 in
    let kept : fin.get m key ≡ Some c.in-Some.entry.now =
    ap (λ (z : TableRows). fin.get z.rows key) (sym c.self.view_is) ∙ sym c.in-Some.ensures.value in
    set ∙ ap (λ (z : TableRows). fin.insert z.rows key c.lower.new.self) c.self.view_is ∙ ap (fin.insert m key) c.lower.ensures.now
    ∙ ap (λ o. written m key (one_less o)) (sym kept)

pub returns-clause-width : goal.returns-clause-width
returns-clause-width g c =
    (on_some c.entry_mut.result c.in-Some.entry c.in-Some.is (c.entry_mut.follows.holds c.lower.new.self)).1
    ∙ ap (λ (z : TableRows). z.one_column) c.self.view_is
