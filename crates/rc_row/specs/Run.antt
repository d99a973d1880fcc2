-- The run of a row: the steps that its passes have made on the table, each an event of the core or a step at a latch, which leaves the
-- core's state.
use Rattle.std.specs.Prelude.{◌≡◌, ◌≢◌, ℕ, suc, ◌-◌, ◌==◌, Bool, true, false, List, [], ◌∷◌, ◌++◌, length, replicate, set, slice_index, Option, Some, None}
use Rattle.rc_row.specs.Imports.{stripe_total, Found, Pass, Readers, Latch, Mode, Shared, Exclusive, SpecWithPlans, Entry, CoreState, Hold, Keeper, Home, Writer, StripeState, Event, pass_at, stripe_at, other_holds, CanLeave, IsAllowed, after, resumed}
use Rattle.rc_core.specs.declared.event.Event.TheVariants as event
use Rattle.rc_row.specs.declared.law.Refusal.{Refusal}

-- the core's state, and of each stripe who has its latch: 0, or the number of the pass and one more
pub record RowState : Type 0 where
  pub core : CoreState
  pub latches : List ℕ

abbrev pub row_state : CoreState → List ℕ → RowState
row_state core latches = record { core = core; latches = latches }

-- What a pass may do next: an event of the core; or, as a reader of a stripe, take its latch, find it taken, or free it. The pass comes
-- first, and then the stripe.
pub data RowStep : Type 0 where
  OfCore : Event → RowStep
  TakeLatch : ℕ → ℕ → RowStep
  MissLatch : ℕ → ℕ → RowStep
  FreeLatch : ℕ → ℕ → RowStep

abbrev pub CanStep : SpecWithPlans → RowState → RowStep → Type 0
CanStep compiled s (OfCore x) = IsAllowed compiled s.core x
CanStep compiled s (TakeLatch k p) = CanLeave s.core k p × (slice_index s.latches p ≡ 0)
CanStep compiled s (MissLatch k p) = CanLeave s.core k p × (j : ℕ) × (slice_index s.latches p ≡ suc j) × (j ≢ k)
CanStep compiled s (FreeLatch k p) = slice_index s.latches p ≡ suc k

abbrev pub after_step : SpecWithPlans → RowState → RowStep → RowState
after_step compiled s (OfCore x) = record s { core = after compiled s.core x }
after_step compiled s (TakeLatch k p) = record s { latches = set s.latches p (suc k) }
after_step compiled s (MissLatch k p) = s
after_step compiled s (FreeLatch k p) = record s { latches = set s.latches p 0 }

-- ---- runs

-- each step can be made in its turn
abbrev pub CanRun : SpecWithPlans → RowState → List RowStep → Type 0
CanRun compiled s [] = Unit {0}
CanRun compiled s (x ∷ steps) = CanStep compiled s x × CanRun compiled (after_step compiled s x) steps

abbrev pub after_run : SpecWithPlans → RowState → List RowStep → RowState
after_run compiled s [] = s
after_run compiled s (x ∷ steps) = after_run compiled (after_step compiled s x) steps

-- this history has happened and nobody holds anything, and all latches are free
abbrev pub at_first : SpecWithPlans → ℕ → List Entry → RowState
at_first compiled passes history = row_state (resumed compiled passes history) (replicate (stripe_total compiled.spec) 0)

-- the events of the core among the steps
abbrev pub events_of : List RowStep → List Event
events_of [] = []
events_of (OfCore x ∷ steps) = x ∷ events_of steps
events_of (TakeLatch k p ∷ steps) = events_of steps
events_of (MissLatch k p ∷ steps) = events_of steps
events_of (FreeLatch k p ∷ steps) = events_of steps

-- ---- refused steps

-- the pass whose event it is
abbrev pub pass_of_event : Event → ℕ
pass_of_event (event.Lock k p) = k
pass_of_event (event.Block k p) = k
pass_of_event (event.Share k p) = k
pass_of_event (event.Back k p) = k
pass_of_event (event.Leave k p) = k
pass_of_event (event.Commit k e) = k
pass_of_event (event.Unlock k p) = k
pass_of_event (event.Learn k n) = k

-- the pass whose step it is
abbrev pub pass_of : RowStep → ℕ
pass_of (OfCore x) = pass_of_event x
pass_of (TakeLatch k p) = k
pass_of (MissLatch k p) = k
pass_of (FreeLatch k p) = k

-- what is in the way at a stripe: its writer, or so many readers
abbrev pub found_by : Keeper → List ℕ → Found
found_by (Home rows) counted = Readers (length counted)
found_by (Writer j) counted = Pass j

abbrev pub found_at : StripeState → Found
found_at t = found_by t.keeper t.counted

abbrev pub refusal_at : Mode → ℕ → Found → List Hold → Refusal
refusal_at mode p found held = record { stripe = p; mode = mode; found = found; held = held }

-- a reader is refused by a writer alone
abbrev pub refused_reader : Keeper → ℕ → List Hold → Option Refusal
refused_reader (Home rows) p held = None
refused_reader (Writer j) p held = Some (refusal_at Shared p (Pass j) held)

-- the refusal that an event is, where it is one
abbrev pub refusal_of_event : CoreState → Event → Option Refusal
refusal_of_event c (event.Block k p) = Some (refusal_at Exclusive p (found_at (stripe_at c.stripes p)) (pass_at c.passes k).held)
refusal_of_event c (event.Share k p) = refused_reader (stripe_at c.stripes p).keeper p (pass_at c.passes k).held
refusal_of_event c (event.Lock k p) = None
refusal_of_event c (event.Back k p) = None
refusal_of_event c (event.Leave k p) = None
refusal_of_event c (event.Commit k e) = None
refusal_of_event c (event.Unlock k p) = None
refusal_of_event c (event.Learn k n) = None

-- the refusal that a step is, where it is one. A reader that misses the latch will share the stripe no more.
abbrev pub refusal_of : RowState → RowStep → Option Refusal
refusal_of s (OfCore x) = refusal_of_event s.core x
refusal_of s (TakeLatch k p) = None
refusal_of s (MissLatch k p) = Some (refusal_at Shared p (Latch (slice_index s.latches p - 1)) (other_holds (pass_at s.core.passes k).held p))
refusal_of s (FreeLatch k p) = None

abbrev pub refusal_where : Bool → Option Refusal → List Refusal
refusal_where true (Some r) = r ∷ []
refusal_where true None = []
refusal_where false r = []

-- the refusals of one pass in a run, in order
abbrev pub refusals_in : SpecWithPlans → RowState → List RowStep → ℕ → List Refusal
refusals_in compiled s [] k = []
refusals_in compiled s (x ∷ steps) k = refusal_where (pass_of x == k) (refusal_of s x) ++ refusals_in compiled (after_step compiled s x) steps k

-- The refusal of the pass is that of a step of the run, which could be made at its moment: then the core's state had in its way what the
-- refusal says.
pub record HasMoment (compiled : SpecWithPlans) (s : RowState) (run : List RowStep) (k : ℕ) (r : Refusal) : Type 0 where
  pub before : List RowStep
  pub step : RowStep
  pub later : List RowStep
  pub is : run ≡ before ++ step ∷ later
  pub can : CanStep compiled (after_run compiled s before) step
  pub mine : pass_of step ≡ k
  pub refusal : refusal_of (after_run compiled s before) step ≡ Some r

abbrev pub last_of : List Refusal → Option Refusal
last_of [] = None
last_of (r ∷ []) = Some r
last_of (r ∷ (t ∷ refusals)) = last_of (t ∷ refusals)
