-- What lies in slots.
use Rattle.rc_row.specs.Imports.{Option, Some, None, KeptRows}
use Rattle.rc_row.specs.declared.slot.Slot.TheVariants.{Empty, Apart, Handed}
use Rattle.rc_row.specs.Law.{Slot}

-- the fragment, where there is one
abbrev pub kept_at : Slot → Option KeptRows
kept_at Empty = None
kept_at (Apart keep) = Some keep
kept_at (Handed keep) = Some keep
