-- Whose a pass is, is one fact.
use Rattle.rc_store.specs.Imports.{Option, Some, None, PartEntries, Keeping, Counts, Entries, IsPassOf, KeepsAs, PassSeen, RowSeen}
use Rattle.std.proofs.Props.{props}

keeps_once : (keeping : Keeping) (kept : Option PartEntries) → IsProp (KeepsAs keeping kept)
keeps_once Entries None = hlevel props
keeps_once Entries (Some part) = hlevel props
keeps_once Counts None = hlevel props
keeps_once Counts (Some part) = hlevel props

pub of_row_once : (row : RowSeen) (pass : PassSeen) → IsProp (IsPassOf row pass)
of_row_once row pass = hlevel (keeps_once, props)
