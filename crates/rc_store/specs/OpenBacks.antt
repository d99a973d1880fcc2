-- Why a call of an open group was not made.
use Rattle.std.specs.Prelude.{◌≡◌, ◌<◌, length}
use Rattle.rc_store.specs.Imports.{Call, Covers, compiled_of}
use Rattle.rc_store.specs.declared.open_group.OpenBack.{OpenBack}
use Rattle.rc_store.specs.declared.open_group.OpenBack.TheVariants.{Full, Memory, Uncovered}
use Rattle.rc_store.specs.OpenGroups.{OpenGroupSeen}
use Rattle.rc_store.specs.Store.{IsAsBefore, IsFree, StoreSeen}

-- The very group comes back, since it has 16 calls, or since what it declared doesn't suffice for the call. Only where neither is so
-- memory may be wanted, and no step of the call was refused; then the group is over, and the pass as before it.
abbrev pub IsCallBack : StoreSeen → Call → OpenGroupSeen → OpenBack → Type 0
IsCallBack store call group (Full same) = (same ≡ group) × (length group.steps ≡ 16)
IsCallBack store call group (Uncovered same) = (same ≡ group) × (length group.steps < 16) × (Covers (compiled_of store.row) call group.locks → ⊥)
IsCallBack store call group (Memory pass) =
    IsFree store pass × IsAsBefore group.begun pass × (length group.steps < 16) × Covers (compiled_of store.row) call group.locks
    × (pass.standing.refusals ≡ group.pass.standing.refusals)
