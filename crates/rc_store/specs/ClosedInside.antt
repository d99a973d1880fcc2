-- What a closed store keeps.
use Rattle.rc_store.specs.declared.closed.Closed.TheInside.{Inside}
use Rattle.rc_store.specs.Closed.{ClosedSeen, HasOneHistory}

abbrev pub closed_seen : Inside → ClosedSeen
closed_seen a = record { compiled = a.compiled; instance = a.instance; journal = a.journal; made = a.made.items; history = a.history }

abbrev pub IsWholeClosed : Inside → Type 0
IsWholeClosed a = HasOneHistory (closed_seen a)
