-- How a session is given back to its store.
use Rattle.std.specs.Prelude.{◌≡◌, ◌≤◌, ◌⊎◌, ◌∷◌, ◌++◌, ℕ, List, length}
use Rattle.rc_embed.specs.Codes as codes
use Rattle.rc_embed.specs.Closing.{HasTakenBack, pass_count}
use Rattle.rc_embed.specs.Opened.{OpenSeen}
use Rattle.rc_embed.specs.Outside.{AreOutside}
use Rattle.rc_embed.specs.Session.{HasCancelled, IsIdle, SessionSeen}

-- what lies behind the handle of a store and that of a session
pub record Handles : Type 0 where
  pub store : OpenSeen
  pub session : SessionSeen

-- the session is idle: as it was, or with what it had prepared or opened cancelled
pub record HasSettled (old new : SessionSeen) : Type 0 where
  pub store : new.store ≡ old.store
  pub idle : IsIdle new.state
  pub same : IsIdle old.state → new ≡ old
  pub cancelled : (IsIdle old.state → ⊥) → HasCancelled old new

-- The store has the pass of the session, settled; it does so wherever a session of the store is outside. Else it had as many
-- passes as it was opened with, and is the same.
pub record AnswersGivenBack (old : OpenSeen) (session : SessionSeen) (new : OpenSeen) (code : ℕ) : Type 0 where
  pub done : code ≡ codes.done
  pub idle : SessionSeen
  pub settled : HasSettled session idle
  pub back : HasTakenBack old new idle ⊎ ((new ≡ old) × (pass_count old ≤ length old.passes))
  pub taken : (before after : List ℕ) (k : ℕ) → AreOutside old (before ++ k ∷ after) → HasTakenBack old new idle
