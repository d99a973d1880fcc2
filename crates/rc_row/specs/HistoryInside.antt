-- What contracts see of a history.
use Rattle.rc_row.specs.Imports.{List, [], option_map_or, Entry}
use Rattle.rc_row.specs.declared.history.History.TheInside.{Inside}
use Rattle.rc_row.specs.HistoryMade.{made_by}

-- that of the passes of the seat, where there is one
abbrev pub history_seen : Inside → List Entry
history_seen a = option_map_or (λ seat. made_by seat.value.me.0.passes) a.seat []
