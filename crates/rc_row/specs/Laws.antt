-- The laws of a row, each named by the contract of a function.
use Rattle.std.specs.Prelude.{◌≡◌, ℕ, List}
use mathlib.Core.Option.{some}
use lib.ListN.{get_elem?}
use Rattle.rc_row.specs.Imports.{In, fragment_of, IsPrefix, replay, AreAllowed, after_all, resumed, IsCircleOfWaits, Me, State}
use Rattle.rc_row.specs.declared.law.Key.{Key}
use Rattle.rc_row.specs.declared.law.Refusal.{Refusal}
use Rattle.rc_row.specs.declared.law.View.{View}
use Rattle.rc_row.specs.HeldRows.{HeldRows}
use Rattle.rc_row.specs.declared.law.Standing.{Standing}
use Rattle.rc_row.specs.Law.{Slot, compiled_by, history_by, spec_by, at_first_by, AreKnown, IsKept}
use Rattle.rc_row.specs.PassInside.{Agrees}
use Rattle.rc_row.specs.Run.{HasMoment, events_of, refusals_in}

-- words, homes and views show one state, with one set of latches
abbrev pub OneStateIsShown : Type 0
OneStateIsShown = (key : Key) (s : State Slot View) (a b : IsKept key s) → (a.core ≡ b.core) × (a.latches ≡ b.latches)

-- At every moment the row is a run of the core: the events so far were each allowed in its turn, from the history from which the row goes on,
-- and lead to the state that is shown, whose history begins with it.
abbrev pub RowsAreRuns : Type 0
RowsAreRuns = (key : Key) (s : State Slot View) (kept : IsKept key s)
    → AreAllowed (compiled_by key) (resumed (compiled_by key) key.passes (history_by key)) (events_of kept.run)
    × (kept.core ≡ after_all (compiled_by key) (resumed (compiled_by key) key.passes (history_by key)) (events_of kept.run))
    × IsPrefix (history_by key) kept.core.history

-- Each refused step that a pass counts is a step of that run, which could be made at its moment, and whose state had in the way what it found.
abbrev pub RefusalsHaveMoments : Type 0
RefusalsHaveMoments = (key : Key) (s : State Slot View) (kept : IsKept key s) (k : ℕ) (r : Refusal) → In r (refusals_in (compiled_by key) (at_first_by key) kept.run k)
    → HasMoment (compiled_by key) (at_first_by key) kept.run k r

-- at every moment the fragments that a pass holds have, as it took them, the rows that the history leaves on their stripes
abbrev pub HeldAreOfTheState : Type 0
HeldAreOfTheState = (key : Key) (s : State Slot View) (kept : IsKept key s) (id number : ℕ) (me : Me Slot View) (held : List HeldRows)
    → get_elem? s.views id ≡ some me.0 → Agrees number me held
    → (h : HeldRows) → In h held → h.fragment.taken ≡ fragment_of (spec_by key) (replay (spec_by key) kept.core.history) h.stripe

-- At every moment all that was told to the passes of any seat are beginnings of one history, that of the state which is shown: so of what any
-- two passes were told of, one begins the other, and two receipts at one place are one.
abbrev pub KnownAreBeginnings : Type 0
KnownAreBeginnings = (key : Key) (s : State Slot View) (kept : IsKept key s) (id : ℕ) (v : View) → get_elem? s.views id ≡ some v
    → (pass : Standing) → In pass v.passes → AreKnown kept.core.history pass.known

-- at no moment do passes wait for each other in a circle
abbrev pub NoCircleIsShown : Type 0
NoCircleIsShown = (key : Key) (s : State Slot View) (kept : IsKept key s) (passes : List ℕ) → IsCircleOfWaits kept.core passes → ⊥
