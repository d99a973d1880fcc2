-- What the holder of a call tells its plan of a row and a pass. (PLDI 2012, two-phase plans over striped locks.)
use Rattle.std.specs.Prelude.{◌≡◌, ℕ, suc, ◌<◌, ◌⊎◌, Bool, false, List, map, replicate, Option, Some, None}
use Rattle.rc_store.specs.Imports.{Spec, edge_table, HeldStripe, Holding, LentStripe, RefusedTake, Standing, HeldRows, PassSeen, RowSeen, core_of, holds_taken, spec_of, HaveOneRelation, KeepsOut, KeepsRefusals}
use Rattle.rc_row.specs.Passes.{stripes_of}
use Rattle.rc_store.specs.declared.lender.Refused.{Refused}

-- ---- what is lent

-- a fragment that a pass holds, as its plan has it
abbrev pub held_stripe : HeldRows → HeldStripe
held_stripe h = record { stripe = h.stripe; mode = h.mode; now = h.fragment.now; taken = h.fragment.taken }

abbrev pub held_stripes : List HeldRows → List HeldStripe
held_stripes held = map held_stripe held

-- and as it is lent
abbrev pub lent_stripe : HeldRows → LentStripe
lent_stripe h = record { held = held_stripe h; room = h.fragment.room }

abbrev pub lent_stripes : List HeldRows → List LentStripe
lent_stripes held = map lent_stripe held

-- ---- refused takes

-- How many takes are told as refused: none before the first of this call, and then one more than the pass counts over all its calls.
abbrev pub count_told : Option Refused → Standing → ℕ
count_told None s = 0
count_told (Some at) s = suc s.refusals

-- the last of them, with what was held at it
abbrev pub refusal_told : Option Refused → Option RefusedTake
refusal_told None = None
refusal_told (Some at) = Some (record { answer = at.answer; mode = at.mode; held = Some (held_stripes at.pass.value.held) })

-- ---- all that is told

-- All stripes may be asked for. No rows are told of a stripe before it is taken.
abbrev pub lending : RowSeen → PassSeen → Option Refused → ℕ → Holding
lending row pass refused through = record {
  table = edge_table (spec_of row);
  lent = lent_stripes pass.held;
  lends = None;
  offered = replicate (stripes_of row) None;
  refusals = count_told refused pass.standing;
  last_refusal = refusal_told refused;
  through = through;
}

-- ---- what holds of it

-- Since the call began only what the pass holds and wants changed, and its refused steps.
pub record HasRun (begun now : PassSeen) : Type 0 where
  pub core : core_of now ≡ record (core_of begun) { held = (core_of now).held; wish = (core_of now).wish }
  pub table : now.table ≡ begun.table
  pub kept : now.kept ≡ begun.kept
  pub refusals : KeepsRefusals begun.standing now.standing
  pub known : now.standing.known ≡ begun.standing.known

-- The pass's last refused step is of this call. It found what is told in the way, and the pass held what is told.
pub record IsRefusedAt (row : RowSeen) (begun now : PassSeen) (at : Refused) : Type 0 where
  pub risen : begun.standing.refusals < now.standing.refusals
  pub last : now.standing.last_refusal ≡ Some (record { stripe = at.answer.stripe; mode = at.mode; found = at.answer.found; held = holds_taken at.pass.value.held })
  pub found : KeepsOut at.mode row.key.passes (core_of begun).number at.answer.found

-- What the pass was refused, it has had since: it wants nothing, or no step was refused and it wants what it wanted. Where nothing waits,
-- no step was refused.
pub record IsUnrefused (waits : Bool) (old new : PassSeen) : Type 0 where
  pub at_once : waits ≡ false → new.standing.refusals ≡ old.standing.refusals
  pub wish : ((core_of new).wish ≡ None) ⊎ ((new.standing.refusals ≡ old.standing.refusals) × ((core_of new).wish ≡ (core_of old).wish))

-- Refused takes are told only where nothing waits, and there all are.
abbrev pub IsToldOf : Bool → RowSeen → PassSeen → PassSeen → Option Refused → Type 0
IsToldOf waits row begun now None = IsUnrefused waits begun now
IsToldOf waits row begun now (Some at) = (waits ≡ false) × IsRefusedAt row begun now at

-- A pass of the row on the way of a call: what it holds, as taken, are the rows of one relation.
pub record IsOnTheWay (row : RowSeen) (begun now : PassSeen) : Type 0 where
  pub ran : HasRun begun now
  pub agrees : holds_taken now.held ≡ (core_of now).held
  pub one : HaveOneRelation (spec_of row) (core_of now).held

-- ---- by whom a holder was lent

-- the row, and the pass as it was when the call began
pub record Lent : Type 0 where
  pub row : RowSeen
  pub begun : PassSeen

-- a holder of this row and pass that was lent so, for the specification
pub record IsLentBy (waits : Bool) (lent : Lent) (row : RowSeen) (now : PassSeen) (refused : Option Refused) (spec : Spec) : Type 0 where
  pub spec_is : spec ≡ spec_of row
  pub row_is : row ≡ lent.row
  pub way : IsOnTheWay row lent.begun now
  pub told : IsToldOf waits row lent.begun now refused

abbrev pub IsLentSo : Bool → Option Lent → RowSeen → PassSeen → Option Refused → Spec → Type 0
IsLentSo waits None row now refused spec = ⊥
IsLentSo waits (Some lent) row now refused spec = IsLentBy waits lent row now refused spec
