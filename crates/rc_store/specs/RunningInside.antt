-- What a prepared call keeps.
use Rattle.std.specs.Prelude.{◌≡◌, List, None, IsSome, length}
use Rattle.rc_store.specs.Imports.{Step, with_replies, next_of, PassSeen, core_of, next_entry}
use Rattle.rc_store.specs.declared.running.Prepared.{Prepared}
use Rattle.rc_store.specs.declared.running.Prepared.TheVariants.{Entry, Counted}
use Rattle.rc_store.specs.declared.running.Running.TheInside.{Inside}
use Rattle.rc_store.specs.declared.running_group.PreparedGroup.{PreparedGroup}
use Rattle.rc_store.specs.declared.running_group.PreparedGroup.TheVariants as group
use Rattle.rc_store.specs.declared.running_group.RunningGroup.TheInside.{Inside as GroupInside}
use Rattle.rc_store.specs.Running.{RunningGroupSeen, RunningSeen}

abbrev pub running_seen : Inside → RunningSeen
running_seen a = record { begun = a.begun.value; pass = a.pass; call = a.step.value.call; reply = a.step.value.reply }

-- what is to be committed is the pass's next entry, of this one step: the entry itself where the pass keeps its
-- entries, else the step
abbrev pub IsOfStep : PassSeen → Step → Prepared → Type 0
IsOfStep pass step (Entry entry) = IsSome pass.kept × (entry ≡ next_entry (core_of pass) step.call step.reply)
IsOfStep pass step (Counted counted) = (pass.kept ≡ None) × (counted ≡ step)

abbrev pub IsOfItsStep : Inside → Type 0
IsOfItsStep a = IsOfStep a.pass a.step.value a.prepared

-- ---- groups

-- the calls with their replies that are to be committed
abbrev pub steps_in : PreparedGroup → List Step
steps_in (group.Entry entry) = entry.steps
steps_in (group.Counted calls replies) = with_replies calls.items replies.items

abbrev pub running_group_seen : GroupInside → RunningGroupSeen
running_group_seen a = record { begun = a.begun.value; pass = a.pass; steps = steps_in a.prepared }

-- what is to be committed is the pass's next entry where it keeps its entries, and else the calls with a reply each
abbrev pub IsOfPass : PassSeen → PreparedGroup → Type 0
IsOfPass pass (group.Entry entry) = IsSome pass.kept × (entry ≡ next_of (core_of pass) entry.steps)
IsOfPass pass (group.Counted calls replies) = (pass.kept ≡ None) × (length replies.items ≡ length calls.items)

-- each call has a reply
abbrev pub HasReplyEach : PreparedGroup → Type 0
HasReplyEach (group.Entry entry) = Unit {0}
HasReplyEach (group.Counted calls replies) = length replies.items ≡ length calls.items

abbrev pub IsWholeGroup : GroupInside → Type 0
IsWholeGroup a = IsOfPass a.pass a.prepared
