-- What an open group keeps.
use Rattle.rc_store.specs.declared.open_group.OpenGroup.TheInside.{Inside}
use Rattle.rc_store.specs.OpenGroups.{OpenGroupSeen}
use Rattle.rc_store.specs.RunningInside.{IsOfPass, steps_in}

abbrev pub open_group_seen : Inside → OpenGroupSeen
open_group_seen a = record { begun = a.begun.value; pass = a.pass; locks = a.locks.items; took = a.took.items; steps = steps_in a.prepared }

-- what is to be committed is the pass's next entry where it keeps its entries, and else the calls with a reply each
abbrev pub IsWholeOpenGroup : Inside → Type 0
IsWholeOpenGroup a = IsOfPass a.pass a.prepared
