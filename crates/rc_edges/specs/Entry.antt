-- What an entry keeps.
use Rattle.std.specs.Prelude.{◌≡◌, Bool, true, false, None, IsSome, ◌==◌}
use Rattle.rc_edges.specs.Values.{Values}
use Rattle.rc_edges.specs.EdgeMap.{Counted, present}

-- the row isn't there any more
abbrev pub is_tombstone : Counted → Bool
is_tombstone c = c.1 == 0

-- the entry became that of the row with these extra values and the count 1, as its row wasn't there; or the row was there, and stays
abbrev pub IsStarted : Counted → Counted → Values → Bool → Type 0
IsStarted old new extra true = (present old ≡ None) × (new ≡ (extra, 1))
IsStarted old new extra false = IsSome (present old) × (new ≡ old)
