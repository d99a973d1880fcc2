-- The history that passes have made.
use Rattle.rc_row.specs.Imports.{List, map, Entry, history_with}
use Rattle.rc_row.specs.declared.law.Standing.{Standing}

-- their own entries, each at its place
abbrev pub made_by : List Standing → List Entry
made_by passes = history_with (map (λ s. s.core.own) passes)
