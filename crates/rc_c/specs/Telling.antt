-- What a session tells another one by their handles.
use Rattle.std.specs.Prelude.{◌≡◌, ℕ}
use Rattle.rc_embed.specs.Codes as codes
use Rattle.rc_embed.specs.Session.{HasHeard, IsIdle, SessionSeen}

-- what lies behind the handles of two sessions
pub record Two : Type 0 where
  pub from : SessionSeen
  pub to : SessionSeen

-- The second session was told all that the first one was told of; or one of them has something prepared or open, and it is the same.
-- The first is the same.
pub record AnswersTold (from to new_from new_to : SessionSeen) (code : ℕ) : Type 0 where
  pub same : new_from ≡ from
  pub store : new_to.store ≡ to.store
  pub heard : code ≡ codes.done → HasHeard from to new_to
  pub refused : (code ≡ codes.done → ⊥) → (code ≡ codes.prepared) × (IsIdle from.state → IsIdle to.state → ⊥) × (new_to ≡ to)

-- so of each of the two
abbrev pub IsTold : Two → SessionSeen → ℕ → Type 0
IsTold held after code = AnswersTold held.from held.to held.from after code
