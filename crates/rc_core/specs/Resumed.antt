-- States that go on from a history.
use Rattle.std.specs.Prelude.{◌≡◌, ℕ, ◌<◌, ◌≤◌, ◌^◌, List, [], map, length}
use Rattle.rc_core.specs.Imports.{range_with_len, Spec, fragment_of, stripe_total, SpecWithPlans, IsCompiled, Entry, Extends, IsPrefix, own_placed, replay}
use Rattle.rc_core.specs.declared.event.Event.{Event}
use Rattle.rc_core.specs.declared.state.CoreState.{CoreState}
use Rattle.rc_core.specs.declared.state.Keeper.TheVariants.{Home}
use Rattle.rc_core.specs.declared.state.PassState.{PassState}
use Rattle.rc_core.specs.declared.state.StripeState.{StripeState}
use Rattle.rc_core.specs.Events.{AreAllowed, after_all, start}
use Rattle.rc_core.specs.Good.{IsGood, IsGoodHistory}
use Rattle.rc_core.specs.Laws.{IsSound}
use Rattle.rc_core.specs.State.{no_pass}

-- So many passes, 1 to 255, may go on from the history: it is good, and each of them has at most 2^48 entries of it.
pub record MayGoOn (spec : Spec) (passes : ℕ) (history : List Entry) : Type 0 where
  pub some_pass : 1 ≤ passes
  pub few_passes : passes ≤ 255
  pub good : IsGoodHistory spec passes history
  pub few : (k : ℕ) → k < passes → length (own_placed history k) ≤ 2 ^ 48

-- the pass k, which has its own entries of the history, has seen all of it, and holds and wants nothing
abbrev pub rested : List Entry → ℕ → PassState
rested history k = record no_pass { number = k; own = own_placed history k; seen = length history }

-- a stripe that nobody has locked, with the rows that the history leaves on it
abbrev pub free_stripe : Spec → List Entry → ℕ → StripeState
free_stripe spec history p = record { keeper = Home (fragment_of spec (replay spec history) p); counted = [] }

-- nobody holds or wants anything, and this is what has happened
abbrev pub resumed : SpecWithPlans → ℕ → List Entry → CoreState
resumed compiled passes history = record {
  history = history;
  stripes = map (free_stripe compiled.spec history) (range_with_len 0 (stripe_total compiled.spec));
  passes = map (rested history) (range_with_len 0 passes);
}

-- ---- laws, each named by the contract of a function

-- a state that goes on from a history is good
abbrev pub ResumedAreGood : Type 0
ResumedAreGood = (compiled : SpecWithPlans) (passes : ℕ) (history : List Entry) → MayGoOn compiled.spec passes history → IsGood compiled.spec (resumed compiled passes history)

-- the start goes on from nothing
abbrev pub StartsAreResumed : Type 0
StartsAreResumed = (compiled : SpecWithPlans) (passes : ℕ) → start compiled passes ≡ resumed compiled passes []

-- what may go on may do so with further operations
abbrev pub GoesOnWithMore : Type 0
GoesOnWithMore = (earlier later : Spec) (passes : ℕ) (history : List Entry) → Extends earlier later → MayGoOn earlier passes history → MayGoOn later passes history

-- events add to the history
abbrev pub EventsAddToHistory : Type 0
EventsAddToHistory = (compiled : SpecWithPlans) (c : CoreState) (events : List Event) → IsPrefix c.history (after_all compiled c events).history

-- after every list of allowed events from such a state all is sound
abbrev pub ResumedRunsAreSound : Type 0
ResumedRunsAreSound = (compiled : SpecWithPlans) → IsCompiled compiled.spec compiled.plans → (passes : ℕ) (history : List Entry) → MayGoOn compiled.spec passes history
    → (events : List Event) → AreAllowed compiled (resumed compiled passes history) events → IsSound compiled.spec (after_all compiled (resumed compiled passes history) events)
