-- The turns of a round, shared out among its threads.
use Rattle.std.specs.Prelude.{◌≡◌, ℕ, ◌<◌, ◌≤◌, List, [], Option, None, Some, All, map, length}
use Rattle.rc_runner.specs.Imports.{Bor, AllByRecursion, slice_get, Call, Spec, Fits, PassSeen, StoreSeen, Turn, HasTurnSize, thread_turns}
use Rattle.std.proofs.Common.{Vec, Global}
use Rattle.rc_runner.specs.Running.{MayMake, number_of}

-- the calls of turns that are lent
abbrev pub turns_in : List (Bor Turn) → List (List Call)
turns_in turns = map (λ turn. turn.now.calls) turns

abbrev pub Shares : Type 0
Shares = List (Vec (Bor Turn) Global)

abbrev pub turns_of_share : Option (Vec (Bor Turn) Global) → List (List Call)
turns_of_share None = []
turns_of_share (Some share) = turns_in share.items

-- the turns of a thread: none, where the threads are fewer
abbrev pub share_of : Shares → ℕ → List (List Call)
share_of shares thread = turns_of_share (slice_get shares thread)

-- each turn's thread is one of so many
abbrev pub TurnsAreOf : ℕ → List Turn → Type 0
TurnsAreOf threads turns = AllByRecursion (λ t. t.thread < threads) turns

abbrev pub RoundsAreOf : ℕ → List (List Turn) → Type 0
RoundsAreOf threads rounds = AllByRecursion (TurnsAreOf threads) rounds

-- each thread has its turns, in order
abbrev pub AreShared : List Turn → Shares → Type 0
AreShared turns shares = (thread : ℕ) → share_of shares thread ≡ thread_turns thread turns

-- each turn has as many calls as a turn may have
abbrev pub HaveTurnSizes : List Turn → Type 0
HaveTurnSizes turns = AllByRecursion HasTurnSize turns

abbrev pub RoundsHaveTurnSizes : List (List Turn) → Type 0
RoundsHaveTurnSizes rounds = AllByRecursion HaveTurnSizes rounds

-- a turn's calls, which fit
pub record TurnFits (spec : Spec) (calls : List Call) : Type 0 where
  pub some : 1 ≤ length calls
  pub few : length calls ≤ 16
  pub fit : AllByRecursion (Fits spec) calls

abbrev pub SharesFit : Spec → Shares → Type 0
SharesFit spec shares = (thread : ℕ) → All (TurnFits spec) (share_of shares thread)

-- a free pass that may make its share
abbrev pub MayMakeShare : StoreSeen → Shares → PassSeen → Type 0
MayMakeShare store shares pass = MayMake store (length (share_of shares (number_of pass))) pass
