-- The stop of a run whose take was refused.
use Rattle.std.specs.Prelude.{◌≡◌, Result, Ok, Err}
use Rattle.rc_machine.specs.Imports.{TakeStop, Holding}
use Rattle.rc_fragment.specs.declared.held.TakeStop.TheVariants as take_stop
use Rattle.rc_machine.specs.declared.stop.Stop.{Stop}
use Rattle.rc_machine.specs.declared.stop.Stop.TheVariants as stop

abbrev pub stopped : TakeStop → Stop
stopped take_stop.Memory = stop.Memory
stopped (take_stop.Held held) = stop.Held held

-- want of memory adds nothing to the count of refused takes
abbrev pub CountsIfHeld : Stop → Holding → Holding → Type 0
CountsIfHeld stop.Memory old new = new.refusals ≡ old.refusals
CountsIfHeld (stop.Held held) old new = Unit {0}

-- nor does a run that goes on or answers: only a stop for what is held may
abbrev pub CountsOnlyHeld : {T : Type 0} → Result T Stop → Holding → Holding → Type 0
CountsOnlyHeld (Ok x) old new = new.refusals ≡ old.refusals
CountsOnlyHeld (Err stop) old new = CountsIfHeld stop old new
