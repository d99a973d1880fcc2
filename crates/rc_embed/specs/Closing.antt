-- How an open store takes sessions back, and how it is closed. (PLDI 2012, serializable
-- transactions: the calls of all sessions are one legal history.)
use Rattle.std.specs.Prelude.{◌≡◌, ℕ, ◌<◌, ◌≤◌, List, ◌++◌, ◌∷◌, length, map, take, drop}
use Rattle.rc_embed.specs.Imports.{All, IfSome, range_with_len, slice_get, PassSeen, core_of}
use Rattle.rc_embed.specs.declared.closing.CloseBack.{CloseBack}
use Rattle.rc_embed.specs.declared.closing.CloseBack.TheVariants.{Outside, Shared, Memory}
use Rattle.rc_embed.specs.declared.session.State.TheVariants.{Idle}
use Rattle.rc_embed.specs.Opened.{OpenSeen}
use Rattle.rc_embed.specs.Session.{SessionSeen}

abbrev pub number_of : PassSeen → ℕ
number_of pass = (core_of pass).number

-- how many passes an open store has, over all
abbrev pub pass_count : OpenSeen → ℕ
pass_count opened = opened.store.row.key.passes

-- The place of a number among passes: those before it have lower numbers, and the first behind it,
-- if any, has none that is lower.
pub record IsPlaceOf (number : ℕ) (passes : List PassSeen) (at : ℕ) : Type 0 where
  pub within : at ≤ length passes
  pub lower : All (λ pass. number_of pass < number) (take at passes)
  pub next : IfSome (slice_get passes at) (λ pass. number ≤ number_of pass)

-- The store, which didn't have all of its passes, has a session's back, at the place of its number.
pub record HasTakenBack (old new : OpenSeen) (session : SessionSeen) : Type 0 where
  pub pass : PassSeen
  pub was : session.state ≡ Idle pass
  pub store : new.store ≡ old.store
  pub room : length old.passes < pass_count old
  pub at : ℕ
  pub place : IsPlaceOf (number_of pass) old.passes at
  pub passes : new.passes ≡ take at old.passes ++ pass ∷ drop at old.passes

-- all passes of the store are its own, by number: no session has one
abbrev pub HasAllPasses : OpenSeen → Type 0
HasAllPasses opened = map number_of opened.passes ≡ range_with_len 0 (pass_count opened)

-- What comes back of a store that isn't closed, and why it isn't. Some pass isn't its own, and the store is as it was. Or all
-- are; then what it shares with sessions is held by somebody yet, or memory was wanted, and the store is as it was too.
abbrev pub IsBackOf : OpenSeen → CloseBack → Type 0
IsBackOf opened (Outside back) = (back ≡ opened) × (HasAllPasses opened → ⊥)
IsBackOf opened (Shared back) = (back ≡ opened) × HasAllPasses opened
IsBackOf opened (Memory back) = (back ≡ opened) × HasAllPasses opened
