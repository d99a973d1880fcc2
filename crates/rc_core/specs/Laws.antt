-- The laws of the core, each named by the contract of a function.
use Rattle.std.specs.Prelude.{◌≡◌, ℕ, ◌<◌, ◌≤◌, ◌*◌, ◌^◌, List, map, length, Some}
use Rattle.rc_core.specs.Imports.{slice_get, In, Pairs, Satisfies, Shared, Spec, EdgeRow, fragment_of, SpecWithPlans, IsCompiled, IsLegal, replay, states, own, Placed}
use Rattle.rc_core.specs.declared.state.Hold.{Hold}
use Rattle.rc_core.specs.declared.state.PassState.{PassState}
use Rattle.rc_core.specs.declared.state.Keeper.TheVariants.{Home}
use Rattle.rc_core.specs.declared.state.CoreState.{CoreState}
use Rattle.rc_core.specs.declared.event.Event.{Event}
use Rattle.rc_core.specs.Events.{IsAllowed, after, AreAllowed, after_all, start}
use Rattle.rc_core.specs.Good.{IsGood}
use Rattle.rc_core.specs.State.{stripe_at}
use Rattle.rc_core.specs.Waits.{IsCircleOfWaits}

-- the start is good
abbrev pub StartsAreGood : Type 0
StartsAreGood = (compiled : SpecWithPlans) (passes : ℕ) → 1 ≤ passes → passes ≤ 255 → IsGood compiled.spec (start compiled passes)

-- every allowed event leads from a good state to a good one
abbrev pub EventsKeepGoodness : Type 0
EventsKeepGoodness = (compiled : SpecWithPlans) → IsCompiled compiled.spec compiled.plans → (c : CoreState) → IsGood compiled.spec c
    → (x : Event) → IsAllowed compiled c x → IsGood compiled.spec (after compiled c x)

-- the history is legal, each of its states satisfies the dependencies, and stripes without a writer have its rows
pub record IsSound (spec : Spec) (c : CoreState) : Type 0 where
  pub good : IsGood spec c
  pub legal : IsLegal spec c.history
  pub satisfy : (r : List Pairs) → In r (states spec c.history) → Satisfies r spec.deps
  pub home : (p : ℕ) (rows : List EdgeRow) → p < length c.stripes → (stripe_at c.stripes p).keeper ≡ Home rows → rows ≡ fragment_of spec (replay spec c.history) p

-- so after every list of allowed events
abbrev pub RunsAreSound : Type 0
RunsAreSound = (compiled : SpecWithPlans) → IsCompiled compiled.spec compiled.plans → (passes : ℕ) → 1 ≤ passes → passes ≤ 255
    → (events : List Event) → AreAllowed compiled (start compiled passes) events → IsSound compiled.spec (after_all compiled (start compiled passes) events)

-- what a pass shares has the rows that lie at home
abbrev pub SharesAreHome : Type 0
SharesAreHome = (spec : Spec) (c : CoreState) → IsGood spec c → (k : ℕ) (u : PassState) → slice_get c.passes k ≡ Some u
    → (h : Hold) → In h u.held → h.mode ≡ Shared → (stripe_at c.stripes h.stripe).keeper ≡ Home h.rows

-- the own entries of a pass are those of the history
abbrev pub OwnAreOfHistory : Type 0
OwnAreOfHistory = (spec : Spec) (c : CoreState) → IsGood spec c → (k : ℕ) (u : PassState) → slice_get c.passes k ≡ Some u → map (λ (x : Placed). x.entry) u.own ≡ own c.history k

-- no good state has passes that wait for each other in a circle
abbrev pub NoCircleOfWaits : Type 0
NoCircleOfWaits = (spec : Spec) (c : CoreState) (passes : List ℕ) → IsGood spec c → IsCircleOfWaits c passes → ⊥

-- what the passes have determines the whole state
abbrev pub PassesDetermineState : Type 0
PassesDetermineState = (spec : Spec) (c d : CoreState) → IsGood spec c → IsGood spec d → c.passes ≡ d.passes → c ≡ d

-- the relation after a history has far fewer tuples than 2^63
abbrev pub ReplaysAreSmall : Type 0
ReplaysAreSmall = (spec : Spec) (c : CoreState) → IsGood spec c → length (replay spec c.history) < 2 ^ 60

-- few passes are counted in at a stripe
abbrev pub FewAreCounted : Type 0
FewAreCounted = (spec : Spec) (c : CoreState) (p : ℕ) → IsGood spec c → p < length c.stripes → length (stripe_at c.stripes p).counted ≤ 255

-- a history is short
abbrev pub HistoriesAreShort : Type 0
HistoriesAreShort = (spec : Spec) (c : CoreState) → IsGood spec c → length c.history ≤ 255 * 2 ^ 48
