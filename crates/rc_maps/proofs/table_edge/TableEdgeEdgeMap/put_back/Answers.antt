use Rattle.std.proofs.Common.{ap, ◌∙◌}
use Rattle.std.specs.FinMap as fin
use Rattle.rc_maps.proofs.Imports.{TableRows, on_some}
use Rattle.rc_maps.proofs.table_edge.TableEdgeEdgeMap.put_back.Goals as goal

pub returns-clause-now : goal.returns-clause-now
returns-clause-now g c =
    (on_some c.entry_mut.result c.in-Some.entry c.in-Some.is (c.entry_mut.follows.holds c.put_back.new.self)).0
    ∙ ap (λ (z : TableRows). fin.insert z.rows c.args.key.now c.put_back.new.self) c.self.view_is
    ∙ ap (fin.insert c.args.self.now.rows c.args.key.now) c.put_back.ensures

pub returns-clause-width : goal.returns-clause-width
returns-clause-width g c =
    (on_some c.entry_mut.result c.in-Some.entry c.in-Some.is (c.entry_mut.follows.holds c.put_back.new.self)).1
    ∙ ap (λ (z : TableRows). z.one_column) c.self.view_is
