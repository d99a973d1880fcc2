-- Why a call was refused. (PLDI 2012, well-locked query plans.)
use Rattle.std.specs.Prelude.{◌≡◌, ℕ, ◌<◌, ◌⊎◌, List, [], ◌∷◌, None, Some}
use Rattle.rc_store.specs.Imports.{flat_map, In, gather, Call, Found, Mode, EdgeRow, edge_row_cmp, plan_at, eval, IsNamedBy, StripeLock, with_plans, Hold, Stop, group_locks, PassSeen, RowSeen, compiled_of, core_of, spec_of, KeepsOut}
use Rattle.rc_machine.specs.declared.stop.Stop.TheVariants as stop
use Rattle.rc_store.specs.declared.receipt.TryFault.{TryFault}
use Rattle.rc_store.specs.declared.receipt.TryFault.TheVariants.{Busy, Memory, Spent}

-- the rows of holds, rising
abbrev pub rows_of : List Hold → List EdgeRow
rows_of holds = gather edge_row_cmp (flat_map (λ h. h.rows) holds)

-- The last refused step of the pass is of this call, asked for the stripe, and found this in the way. Evaluation of the
-- call's plan on the rows that the pass keeps of that step names the stripe in the mode that was asked. So it is of a
-- class that the plan locks, and the arguments' own where the arguments choose it.
pub record IsBusy (row : RowSeen) (call : Call) (old new : PassSeen) (stripe : ℕ) (what : Found) : Type 0 where
  pub mode : Mode
  pub held : List Hold
  pub risen : old.standing.refusals < new.standing.refusals
  pub last : new.standing.last_refusal ≡ Some (record { stripe = stripe; mode = mode; found = what; held = held })
  pub found : KeepsOut mode row.key.passes (core_of old).number what
  pub named : In (stripe, mode) (eval (spec_of row) (plan_at (compiled_of row).plans call.op) call (rows_of held)).named
  pub by_plan : IsNamedBy (spec_of row) call.args (plan_at (compiled_of row).plans call.op) (stripe, mode)

-- The last refused step of the pass is of this call, asked for one of these locks, and found this in the way.
pub record IsLockBusy (row : RowSeen) (locks : List StripeLock) (old new : PassSeen) (stripe : ℕ) (what : Found) : Type 0 where
  pub mode : Mode
  pub held : List Hold
  pub risen : old.standing.refusals < new.standing.refusals
  pub last : new.standing.last_refusal ≡ Some (record { stripe = stripe; mode = mode; found = what; held = held })
  pub found : KeepsOut mode row.key.passes (core_of old).number what
  pub wanted : In (stripe, mode) locks

-- what is in the way of a call alone, and of a group of two or more
abbrev pub AreBusy : RowSeen → List Call → PassSeen → PassSeen → ℕ → Found → Type 0
AreBusy row [] old new stripe what = ⊥
AreBusy row (call ∷ []) old new stripe what = IsBusy row call old new stripe what
AreBusy row (call ∷ (other ∷ calls)) old new stripe what = IsLockBusy row (group_locks (spec_of row) (with_plans (compiled_of row).plans (call ∷ (other ∷ calls)))) old new stripe what

-- the fault of a call that waits for nobody, by what stopped it
abbrev pub fault_by : Stop → TryFault
fault_by stop.Memory = Memory
fault_by (stop.Held h) = Busy h.stripe h.found

-- Memory may be wanted at any time, but where a step was refused, that is the cause. That a pass is spent is found before anything else is done.
-- Something is in the way only for that cause.
abbrev pub HasCause : RowSeen → List Call → PassSeen → PassSeen → TryFault → Type 0
HasCause row calls old new Memory = new.standing.refusals ≡ old.standing.refusals
HasCause row calls old new (Busy stripe found) = AreBusy row calls old new stripe found
HasCause row calls old new Spent = new ≡ old

-- Memory ends a call that waits only where no step of it was refused, or where the pass wants nothing any more: it has taken since what it
-- was refused, or gave it up since memory was wanted.
abbrev pub IsForMemory : PassSeen → PassSeen → Type 0
IsForMemory old new = (new.standing.refusals ≡ old.standing.refusals) ⊎ ((core_of new).wish ≡ None)
