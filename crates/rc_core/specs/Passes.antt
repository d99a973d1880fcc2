-- The events as changes of one pass.
use Rattle.std.specs.Prelude.{◌≡◌, ℕ, suc, ◌<◌, ◌≤◌, ◌^◌, List, [], ◌∷◌, ◌++◌, ◌==◌, not, filter, map, length, max, Some, None, if◌then◌else◌}
use Rattle.rc_core.specs.Imports.{In, Spec, EdgeRow, on_stripes, Statement, Which, StripeLock, Mode, Shared, Exclusive, SpecWithPlans, plan_at, eval, LocksClass, IsOfClass, stripes_of, AllAreHeld, CallWithPlan, eval_replies, rows_after, with_plans, Step, Entry, StepsFit, placed}
use Rattle.rc_core.specs.declared.state.Hold.{Hold}
use Rattle.rc_core.specs.declared.state.PassState.{PassState}
use Rattle.rc_core.specs.declared.state.Keeper.{Keeper}
use Rattle.rc_core.specs.declared.state.Keeper.TheVariants.{Home, Writer}
use Rattle.rc_core.specs.State.{hold, stripes_in, locks_of, rows_held}

-- the stripe is above all that the pass holds
abbrev pub IsAbove : PassState → ℕ → Type 0
IsAbove u p = (q : ℕ) → In q (stripes_in u.held) → q < p

-- the stripe is above all that the pass holds, and the pass isn't turning back
pub record IsHigh (u : PassState) (p : ℕ) : Type 0 where
  pub above : IsAbove u p
  pub ahead : u.turning ≡ None

-- the holds of the other stripes
abbrev pub other_holds : List Hold → ℕ → List Hold
other_holds holds p = filter (λ h. not (h.stripe == p)) holds

-- the rows with which the stripe is held
abbrev pub rows_of_hold : List Hold → ℕ → List EdgeRow
rows_of_hold [] p = []
rows_of_hold (h ∷ holds) p = if h.stripe == p then h.rows else rows_of_hold holds p

-- it holds the stripe in the mode, with the rows that it had at home
abbrev pub took : Mode → PassState → ℕ → List EdgeRow → PassState
took mode u p rows = record u { held = u.held ++ hold p mode rows ∷ []; wish = None }

-- it writes the stripe
abbrev pub locked : PassState → ℕ → List EdgeRow → PassState
locked u p rows = took Exclusive u p rows

-- it finds the stripe taken, and wants it
abbrev pub blocked : PassState → ℕ → PassState
blocked u p = record u { wish = Some p }

-- it shares the stripe
abbrev pub shared : PassState → ℕ → List EdgeRow → PassState
shared u p rows = took Shared u p rows

-- it finds a writer there, and turns back at the stripe
abbrev pub turned : PassState → ℕ → PassState
turned u p = record u { turning = Some p; wish = Some p }

-- it is counted in at a stripe with this keeper
abbrev pub counted_in : Keeper → PassState → ℕ → PassState
counted_in (Home rows) u p = shared u p rows
counted_in (Writer j) u p = turned u p

-- it is counted out again
abbrev pub back : PassState → PassState
back u = record u { turning = None }

-- it holds the stripe no more
abbrev pub released : PassState → ℕ → PassState
released u p = record u { held = other_holds u.held p }

-- it learns that the history is so long
abbrev pub learned : PassState → ℕ → PassState
learned u n = record u { seen = max u.seen n }

-- ---- commit

abbrev pub calls_with_plans : List (List Statement) → List Step → List CallWithPlan
calls_with_plans plans steps = with_plans plans (map (λ s. s.call) steps)

-- the rows of the stripe among some rows
abbrev pub rows_at : Spec → List EdgeRow → ℕ → List EdgeRow
rows_at spec rows p = on_stripes spec (p ∷ []) rows

-- the rows of all that the pass holds, after the steps
abbrev pub rows_then : SpecWithPlans → PassState → List Step → List EdgeRow
rows_then compiled u steps = rows_after compiled.spec (calls_with_plans compiled.plans steps) (rows_held u)

-- a hold where these are the rows after: what is written has its own of them, what is shared stays
abbrev pub renewed_as : Mode → Spec → List EdgeRow → Hold → Hold
renewed_as Exclusive spec rows h = record h { rows = rows_at spec rows h.stripe }
renewed_as Shared spec rows h = h

abbrev pub renewed : Spec → List EdgeRow → Hold → Hold
renewed spec rows h = renewed_as h.mode spec rows h

abbrev pub committed : SpecWithPlans → PassState → ℕ → Entry → PassState
committed compiled u place e = record u {
  held = map (renewed compiled.spec (rows_then compiled u e.steps)) u.held;
  own = u.own ++ placed place e ∷ [];
  seen = suc place;
}

-- the stripe is of a class that the plan locks
abbrev pub IsOfClassLocked : Spec → List Statement → ℕ → Type 0
IsOfClassLocked spec plan p = (c : ℕ) × (choice : Which) × (mode : Mode) × LocksClass plan c choice mode × IsOfClass spec p c

-- the stripe of each of the locks is named
pub record AreNamed (locks named : List StripeLock) : Type 0 where
  pub each : (lock : StripeLock) → In lock locks → In lock.0 (stripes_of named)

-- one step names each stripe that is held; several need a class of each held stripe
abbrev pub HoldsNoMore : SpecWithPlans → PassState → List Step → Type 0
HoldsNoMore compiled u [] = Unit {0}
HoldsNoMore compiled u (s ∷ []) = AreNamed (locks_of u) (eval compiled.spec (plan_at compiled.plans s.call.op) s.call (rows_held u)).named
HoldsNoMore compiled u (s ∷ (t ∷ steps)) = (p : ℕ) → In p (stripes_of (locks_of u)) → (x : Step) × In x (s ∷ (t ∷ steps)) × IsOfClassLocked compiled.spec (plan_at compiled.plans x.call.op) p

-- the next entry of a pass, of these steps
abbrev pub next_of : PassState → List Step → Entry
next_of u steps = record { pass = u.number; nth = length u.own; steps = steps }

-- the entry is the pass's next, and evaluation over what it holds gives its replies
pub record MayCommit (compiled : SpecWithPlans) (u : PassState) (e : Entry) : Type 0 where
  pub pass : e.pass ≡ u.number
  pub nth : e.nth ≡ length u.own
  pub room : length u.own < 2 ^ 48
  pub some : 1 ≤ length e.steps
  pub few : length e.steps ≤ 16
  pub fit : StepsFit compiled.spec e.steps
  pub replies : eval_replies compiled.spec (calls_with_plans compiled.plans e.steps) (rows_held u) ≡ map (λ s. Some s.reply) e.steps
  pub held : AllAreHeld compiled.spec (calls_with_plans compiled.plans e.steps) (rows_held u) (locks_of u)
  pub no_more : HoldsNoMore compiled u e.steps
