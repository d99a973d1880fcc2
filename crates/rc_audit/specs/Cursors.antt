-- The turns that are left of a round, by an index for each thread: that of its next turn, or the round's end.
use Rattle.std.specs.Prelude.{◌≡◌, ◌⊎◌, ℕ, ◌+◌, ◌<◌, List, drop, get_or, length, set, Some}
use Rattle.rc_audit.specs.Imports.{slice_get, Call, Turn, thread_turns}

-- the index of a thread, which is the round's end where it has none
abbrev pub cursor_at : List Turn → List ℕ → ℕ → ℕ
cursor_at round cursors thread = get_or cursors thread (length round)

-- the turns of a thread from an index of the round on
abbrev pub turns_from : List Turn → ℕ → ℕ → List (List Call)
turns_from round thread index = thread_turns thread (drop index round)

abbrev pub left_in : List Turn → List ℕ → ℕ → List (List Call)
left_in round cursors thread = turns_from round thread (cursor_at round cursors thread)

-- the index is that of a turn of the thread, or the round's end
abbrev pub IsTurnOf : List Turn → ℕ → ℕ → Type 0
IsTurnOf round thread index = (index ≡ length round) ⊎ ((t : Turn) × (slice_get round index ≡ Some t) × (t.thread ≡ thread))

-- so is each thread's
abbrev pub AreCursors : List Turn → List ℕ → Type 0
AreCursors round cursors = (thread : ℕ) → thread < length cursors → IsTurnOf round thread (cursor_at round cursors thread)

-- a thread that has a turn left
abbrev pub HasLeft : List Turn → List ℕ → ℕ → Type 0
HasLeft round cursors thread = (thread < length cursors) × (cursor_at round cursors thread < length round)

-- each thread's index is that of its first turn
pub record HaveBegun (round : List Turn) (threads : ℕ) (cursors : List ℕ) : Type 0 where
  pub count : length cursors ≡ threads
  pub places : AreCursors round cursors
  pub turns : (thread : ℕ) → thread < length cursors → left_in round cursors thread ≡ turns_from round thread 0

-- the thread's index went on, over the one turn that it had next
pub record HasGoneOn (round : List Turn) (old new : List ℕ) (thread : ℕ) : Type 0 where
  pub next : ℕ
  pub set_is : new ≡ set old thread next
  pub count : length new ≡ length old
  pub turns : turns_from round thread (cursor_at round old thread + 1) ≡ turns_from round thread next
  pub cursors : AreCursors round new
