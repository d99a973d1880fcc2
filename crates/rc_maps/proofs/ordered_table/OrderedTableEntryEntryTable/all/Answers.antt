use Rattle.rc_maps.proofs.Imports.{map, IfOk-weaker, pair_of, apart_rising}
use Rattle.rc_maps.proofs.ordered_table.OrderedTableEntryEntryTable.all.Goals as goal

pub returns-clause-apart : goal.returns-clause-apart
returns-clause-apart c = IfOk-weaker c.keyed.result _ _ (λ all h. apart_rising (map pair_of all.items) h) c.keyed.ensures.rising
