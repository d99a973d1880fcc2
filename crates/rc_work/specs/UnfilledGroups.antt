-- Drafts with one call more, in a group or as a turn by itself.
use Rattle.std.specs.Prelude.{ℕ, Bool, false, not, ◌+◌, ◌==◌, if◌then◌else◌, [], ◌∷◌, ◌++◌, length, Option, Some, None}
use Rattle.rc_work.specs.declared.raw.RawCall.{RawCall}
use Rattle.rc_work.specs.declared.raw.RawTurn.{RawTurn}
use Rattle.rc_work.specs.declared.draft.UnfilledGroup.{UnfilledGroup}
use Rattle.rc_work.specs.declared.draft.Draft.{Draft}
use Rattle.rc_work.specs.RawTurns.{count_raw, onto_last}

abbrev pub count_in_group : Option UnfilledGroup → ℕ
count_in_group None = 0
count_in_group (Some group) = length group.turn.calls

-- how many calls are read
abbrev pub count_in : Draft → ℕ
count_in draft = count_raw draft.rounds + count_in_group draft.group

-- a group is unfilled, and is another thread's
abbrev pub is_others : Option UnfilledGroup → ℕ → Bool
is_others None thread = false
is_others (Some group) thread = not (group.turn.thread == thread)

-- a group with one more of its calls
abbrev pub with_next : UnfilledGroup → RawCall → UnfilledGroup
with_next group call = record group { turn = record group.turn { calls = group.turn.calls ++ call ∷ [] } }

-- the last round has one more turn, and no group is unfilled
abbrev pub with_turn : Draft → RawTurn → Draft
with_turn draft turn = record draft { rounds = onto_last draft.rounds turn; group = None }

-- a group is unfilled until it has all its calls, and then is a turn
abbrev pub with_group : Draft → UnfilledGroup → Draft
with_group draft group =
    if length group.turn.calls == group.size then with_turn draft group.turn else record draft { group = Some group }

abbrev pub with_call_by : Option UnfilledGroup → Draft → ℕ → RawCall → Draft
with_call_by None draft thread call = with_turn draft (record { thread = thread; calls = call ∷ [] })
with_call_by (Some group) draft thread call = with_group draft (with_next group call)

-- a call is the next of the unfilled group, or else a turn by itself
abbrev pub with_call : Draft → ℕ → RawCall → Draft
with_call draft thread call = with_call_by draft.group draft thread call
