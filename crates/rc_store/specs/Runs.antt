-- What the run of a call's plan leaves, and how a call may stop.
use Rattle.std.specs.Prelude.{◌≡◌, ℕ, Bool, false, List, [], ◌∷◌, Result, IfOk, IfErr}
use Rattle.rc_store.specs.Imports.{Call, Reply, Found, plan_at, Stop, Memory, HasReplied, IsPassOf, PassSeen, RowSeen, compiled_of, spec_of}
use Rattle.rc_machine.specs.declared.stop.Stop.TheVariants.{Held}
use Rattle.rc_store.specs.Busy.{AreBusy}
use Rattle.rc_store.specs.Lending.{IsOnTheWay, IsUnrefused, held_stripes}

-- Memory may be wanted at any time, but where nothing waits only if no step was refused. A stripe is refused only where nothing waits, and for a cause.
abbrev pub IsStoppedBy : Bool → (ℕ → Found → Type 0) → PassSeen → PassSeen → Stop → Type 0
IsStoppedBy waits busy old new Memory = IsUnrefused waits old new
IsStoppedBy waits busy old new (Held h) = (waits ≡ false) × busy h.stripe h.found

-- so the calls of a group
abbrev pub IsStoppedFor : Bool → RowSeen → List Call → PassSeen → PassSeen → Stop → Type 0
IsStoppedFor waits row calls old new s = IsStoppedBy waits (AreBusy row calls old new) old new s

-- The plan of the call ran for a pass that held nothing, up to its commit. Where it answers, the pass holds exactly
-- what the plan names, changed as the plan changes it. Where it stops, it may hold some stripes, with changes.
pub record HasRunPlan (waits : Bool) (row : RowSeen) (call : Call) (begun now : PassSeen)
    (answer : Result Reply Stop) : Type 0 where
  pub of_row : IsPassOf row now
  pub way : IsOnTheWay row begun now
  pub answered : IfOk answer
      (HasReplied (spec_of row) (plan_at (compiled_of row).plans call.op) call (held_stripes now.held))
  pub unrefused : IfOk answer (λ _. IsUnrefused waits begun now)
  pub stopped : IfErr answer (IsStoppedFor waits row (call ∷ []) begun now)
