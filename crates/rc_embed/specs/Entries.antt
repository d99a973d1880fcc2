-- The entries that sessions have made, and where these stand. (PLDI 2012, serializable transactions.)
use Rattle.std.specs.Prelude.{◌≡◌, ℕ, List, [], length, Option, Some, None}
use Rattle.rc_embed.specs.Imports.{In, Call, Reply, Entry, Placed, placed, with_replies, PassSeen, core_of}
use Rattle.rc_embed.specs.declared.session.State.{State}
use Rattle.rc_embed.specs.declared.session.State.TheVariants.{Idle, Prepared, PreparedGroup, Open, Moving}
use Rattle.rc_embed.specs.Session.{SessionSeen}

-- The entries of a session's pass, with their places; while something is prepared or open, those before it.
abbrev pub entries_of : State → List Placed
entries_of (Idle pass) = (core_of pass).own
entries_of (Prepared running) = (core_of running.begun).own
entries_of (PreparedGroup running) = (core_of running.begun).own
entries_of (Open group) = (core_of group.begun).own
entries_of Moving = []

-- The histories that its pass was told of; while something is prepared or open, those before it.
abbrev pub known_of : State → List (List Entry)
known_of (Idle pass) = pass.standing.known
known_of (Prepared running) = running.begun.standing.known
known_of (PreparedGroup running) = running.begun.standing.known
known_of (Open group) = group.begun.standing.known
known_of Moving = []

-- the number of its pass
abbrev pub number_in : State → Option ℕ
number_in (Idle pass) = Some (core_of pass).number
number_in (Prepared running) = Some (core_of running.begun).number
number_in (PreparedGroup running) = Some (core_of running.begun).number
number_in (Open group) = Some (core_of group.begun).number
number_in Moving = None

-- among the entries, at this place, is one of these calls, with these replies, one each
pub record StandsAt (entries : List Placed) (place : ℕ) (calls : List Call) (replies : List Reply)
    : Type 0 where
  pub entry : Entry
  pub among : In (placed place entry) entries
  pub count : length replies ≡ length calls
  pub steps_are : entry.steps ≡ with_replies calls replies

-- The session has the pass that it had, with all entries of that, and which was told of all that it was told of: between idle
-- sessions this is `KnowsAll` of their passes.
pub record KeepsPass (old new : SessionSeen) : Type 0 where
  pub number : number_in new.state ≡ number_in old.state
  pub entries : (w : Placed) → In w (entries_of old.state) → In w (entries_of new.state)
  pub knows : (history : List Entry) → In history (known_of old.state) → In history (known_of new.state)

-- the entry is one pass's own
pub record HasEntry (passes : List PassSeen) (w : Placed) : Type 0 where
  pub pass : PassSeen
  pub is : In pass passes
  pub among : In w (core_of pass).own

-- so is each entry of the session
abbrev pub HaveEntriesOf : List PassSeen → SessionSeen → Type 0
HaveEntriesOf passes session = (w : Placed) → In w (entries_of session.state) → HasEntry passes w
