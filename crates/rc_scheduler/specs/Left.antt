-- That a process which was spawned or changed, and then neither taken out nor changed, is left.
use Rattle.std.specs.Prelude.{◌≡◌, ◌⊎◌, ℕ, ◌<◌, true, List, [], ◌∷◌, Some}
use Rattle.std.specs.List.{slice_get}
use Rattle.rc_tuple.specs.RisingSet.{In}
use Rattle.rc_tuple.specs.Tuple.{Pairs}
use Rattle.rc_spec.specs.declared.call.Call.{Call}
use Rattle.rc_spec.specs.declared.call.Reply.{Reply}
use Rattle.rc_spec.specs.declared.call.Reply.TheVariants.{Inserted, Removed, Updated}
use Rattle.rc_rel.specs.declared.entry.Entry.{Entry}
use Rattle.rc_rel.specs.declared.entry.Placed.{Placed}
use Rattle.rc_rel.specs.declared.entry.Step.{Step}
use Rattle.rc_row.specs.Passes.{PassSeen}
use Rattle.rc_store.specs.Store.{StoreSeen}
use Rattle.rc_embed.specs.Asked.{one_call}
use Rattle.rc_embed.specs.Entries.{HasEntry, StandsAt, entries_of}
use Rattle.rc_embed.specs.Session.{SessionSeen, calls_in}
use Rattle.rc_scheduler.specs.declared.processes.Process.{Process}
use Rattle.rc_scheduler.specs.Processes.{HasChanged, HasSpawned, IsLeft, process_values}

-- the entry is of one call, an insert that added its tuple
abbrev pub IsInsertOf : Call → Entry → Type 0
IsInsertOf call e = e.steps ≡ record { call = call; reply = Inserted } ∷ []

-- the entry is of one call, an update that put its tuple in the place of this one
abbrev pub IsUpdateOf : Call → Pairs → Entry → Type 0
IsUpdateOf call t e = e.steps ≡ record { call = call; reply = Updated t } ∷ []

-- the entry is of one call that put its tuple in, anew or in the place of another
abbrev pub IsPutOf : Call → Entry → Type 0
IsPutOf call e = IsInsertOf call e ⊎ ((t : Pairs) × IsUpdateOf call t e)

-- the call that has this reply took the tuple out: it removed it, or put another in its place
abbrev pub TookOut : Pairs → Reply → Type 0
TookOut t reply = (reply ≡ Removed t) ⊎ (reply ≡ Updated t)

-- no step of the entry takes the tuple out
abbrev pub KeepsTuple : Pairs → Entry → Type 0
KeepsTuple t e = (s : Step) → In s e.steps → TookOut t s.reply → ⊥

-- a call that spawned a process stands, at its place, among the entries of its session
abbrev pub SpawnsStand : Type 0
SpawnsStand = (old new : SessionSeen) (op : ℕ) (process : Process)
    (h : HasSpawned old op process true new)
    → StandsAt (entries_of new.state) h.at.place (calls_in old (one_call op (process_values process))) (Inserted ∷ [])

-- and so does one that changed a process
abbrev pub ChangesStand : Type 0
ChangesStand = (old new : SessionSeen) (op : ℕ) (process : Process)
    (h : HasChanged old op process true new)
    → (t : Pairs)
    × StandsAt (entries_of new.state) h.at.place (calls_in old (one_call op (process_values process))) (Updated t ∷ [])

-- a tuple that an entry of a pass put in, and that no later entry of the history took out, is
-- left
abbrev pub ProcessesAreLeft : Type 0
ProcessesAreLeft = (store : StoreSeen) (passes : List PassSeen) (left : List Pairs)
    (h : IsLeft store passes left)
    → (w : Placed) (call : Call) → HasEntry passes w → IsPutOf call w.entry
    → ((j : ℕ) (e : Entry) → w.place < j → slice_get h.is.history j ≡ Some e
    → KeepsTuple call.args e)
    → In call.args left
