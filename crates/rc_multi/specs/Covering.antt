-- What locks have to have for a Lock of a plan.
use Rattle.std.specs.Prelude.{◌≡◌, ℕ, List, Some}
use Rattle.rc_multi.specs.Imports.{Within, Pairs, cols_of, Mode, Spec, StripeLock, class_at, physical_stripe, MayTake, IsOfClass}
use Rattle.rc_plan.specs.declared.statement.Which.TheVariants as which
use Rattle.rc_multi.specs.declared.class_lock.ClassLock.{ClassLock}

-- each stripe of the class is among the locks, in a mode that suffices
abbrev pub IsBandCovered : Spec → ℕ → Mode → List StripeLock → Type 0
IsBandCovered spec c mode locks = (stripe : ℕ) → IsOfClass spec stripe c → MayTake (Some locks) stripe mode

-- each that the Lock may take is: one of its class, and the arguments' own where it takes those of the bindings and the arguments choose one
abbrev pub IsCovered : Spec → Pairs → ClassLock → List StripeLock → Type 0
IsCovered spec args l locks = (stripe : ℕ) → IsOfClass spec stripe l.class
    → (l.choice ≡ which.Keyed → Within (class_at spec l.class).cols (cols_of args) → stripe ≡ physical_stripe spec l.class args) → MayTake (Some locks) stripe l.mode
