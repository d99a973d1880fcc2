use Rattle.rc_maps.proofs.Imports.{refl, IfSome_then}
use Rattle.rc_maps.proofs.ordered_table.OrderedTableEntryEntryTable.entry_mut.Goals as goal

pub returns : goal.returns
returns c = (
  (refl, (λ w. IfSome_then c.get_mut.result (c.get_mut.follows.holds w) (λ r s. (s.entries, s.width))), c.get_mut.follows.holds-at-none),
  record { writes_back = tt; value = c.get_mut.ensures.value },
)
