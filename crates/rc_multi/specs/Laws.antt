-- The laws of groups, each named by the contract of a function.
use Rattle.std.specs.Prelude.{◌≡◌, ℕ, ◌<◌, ◌≤◌, ◌^◌, List, [], ◌∷◌, length, map, All}
use Rattle.rc_multi.specs.Imports.{AllByRecursion, nat_cmp, Within, In, IsRising, Pairs, Call, Reply, Spec, Fits, IsPlaced, stripe_total, HeldStripe, IsCompiled, SpecWithPlans, plan_at, stripes_of, CallWithPlan, with_plans, Step, StepsFit, PassState, HoldsNoMore, IsOfClassLocked, MayCommit, calls_with_plans, committed, next_of, AreAsTaken, locks_of, stripes_held}
use Rattle.rc_core.specs.State.{locks_of as locks_held}
use Rattle.rc_multi.specs.Group.{AreOfRelationFor, HasRunIn, HasServedAll, Suffice}
use Rattle.rc_multi.specs.GroupLocks.{HasOperation, group_locks}
use Rattle.rc_multi.specs.HeldStripes.{all_now, all_taken}

-- ---- the locks of a group

-- calls that fit have operations of the specification
abbrev pub CallsThatFitHaveOperations : Type 0
CallsThatFitHaveOperations = (spec : Spec) (calls : List Call) → AllByRecursion (Fits spec) calls → All (HasOperation spec) calls

-- whatever a plan of one of the calls may name is among the group's locks, in a mode that suffices
abbrev pub GroupLocksSuffice : Type 0
GroupLocksSuffice = (c : SpecWithPlans) → IsCompiled c.spec c.plans → (calls : List Call) → AllByRecursion (Fits c.spec) calls
    → Suffice c calls (group_locks c.spec (with_plans c.plans calls))

-- each is of a class that the plan of one of its calls locks
abbrev pub GroupLocksAreLocked : Type 0
GroupLocksAreLocked = (spec : Spec) → IsPlaced spec → (calls : List CallWithPlan) (p : ℕ) → In p (stripes_of (group_locks spec calls))
    → (x : CallWithPlan) × In x calls × IsOfClassLocked spec x.plan p

-- they rise
abbrev pub GroupLocksRise : Type 0
GroupLocksRise = (spec : Spec) → IsPlaced spec → (calls : List CallWithPlan) → IsRising nat_cmp (stripes_of (group_locks spec calls))

-- they are stripes of the specification
abbrev pub GroupLocksLieInside : Type 0
GroupLocksLieInside = (spec : Spec) → IsPlaced spec → (calls : List CallWithPlan) (p : ℕ) → In p (stripes_of (group_locks spec calls)) → p < stripe_total spec

-- ---- what a group leaves

-- The pass holds stripes, each once and as many as suffice for the steps' calls, which have served the steps over a relation of which they had
-- the fragments as taken.
pub record HasServedByPass (c : SpecWithPlans) (u : PassState) (held : List HeldStripe) (steps : List Step) : Type 0 where
  pub holds : u.held ≡ all_taken held
  pub rising : IsRising nat_cmp (stripes_held held)
  pub fit : StepsFit c.spec steps
  pub suffice : Suffice c (map (λ (s : Step). s.call) steps) (locks_of held)
  pub relation : List Pairs
  pub of_relation : AreOfRelationFor c.spec held relation (length steps)
  pub served : HasServedAll c.spec held steps relation

-- it may commit them as one entry, its next
abbrev pub GroupsMayCommit : Type 0
GroupsMayCommit = (c : SpecWithPlans) → IsCompiled c.spec c.plans → (u : PassState) (held : List HeldStripe) (steps : List Step) → HasServedByPass c u held steps
    → length u.own < 2 ^ 48 → 1 ≤ length steps → length steps ≤ 16 → HoldsNoMore c u steps → MayCommit c u (next_of u steps)

-- of several calls, it holds no more than they need where it holds the group's stripes
abbrev pub GroupsHoldNoMore : Type 0
GroupsHoldNoMore = (c : SpecWithPlans) → IsPlaced c.spec → (u : PassState) (steps : List Step) → 2 ≤ length steps
    → stripes_of (locks_held u) ≡ stripes_of (group_locks c.spec (calls_with_plans c.plans steps)) → HoldsNoMore c u steps

-- what is held now is what the commit leaves
abbrev pub GroupsLeaveWhatIsCommitted : Type 0
GroupsLeaveWhatIsCommitted = (c : SpecWithPlans) → IsCompiled c.spec c.plans → (u : PassState) (held : List HeldStripe) (steps : List Step) → HasServedByPass c u held steps
    → (place : ℕ) → all_now held ≡ (committed c u place (next_of u steps)).held

-- ---- what an open group keeps

-- what isn't kept of what is held has the rows as taken
abbrev pub AreLeftAtRest : List HeldStripe → List HeldStripe → Type 0
AreLeftAtRest held kept = (h : HeldStripe) → In h held → (In h kept → ⊥) → h.now ≡ h.taken

-- some plan of the calls locks the stripe's class
abbrev pub IsUsedBy : SpecWithPlans → List Call → ℕ → Type 0
IsUsedBy c calls stripe = (call : Call) × In call calls × IsOfClassLocked c.spec (plan_at c.plans call.op) stripe

-- kept are the stripes that the plans of the calls may use, each once
pub record KeepsUsed (c : SpecWithPlans) (calls : List Call) (held kept : List HeldStripe) : Type 0 where
  pub inside : (h : HeldStripe) → In h kept → In h held
  pub rising : IsRising nat_cmp (stripes_held kept)
  pub used : (h : HeldStripe) → In h kept → IsUsedBy c calls h.stripe
  pub each : (h : HeldStripe) → In h held → IsUsedBy c calls h.stripe → In h kept

-- kept are the stripes that a plan took, each once
pub record KeepsTaken (part held kept : List HeldStripe) : Type 0 where
  pub inside : (h : HeldStripe) → In h kept → In h held
  pub rising : IsRising nat_cmp (stripes_held kept)
  pub taken : Within (stripes_held kept) (stripes_held part)
  pub each : Within (stripes_held part) (stripes_held kept)

-- A group that made several calls keeps what their plans may use: that has served them, is no more than they need, and the rest may be given back.
abbrev pub GroupsKeepWhatTheyUse : Type 0
GroupsKeepWhatTheyUse = (c : SpecWithPlans) → IsCompiled c.spec c.plans → (u : PassState) (held kept : List HeldStripe) (steps : List Step)
    → StepsFit c.spec steps → IsRising nat_cmp (stripes_held held) → Suffice c (map (λ (s : Step). s.call) steps) (locks_of held)
    → (r : List Pairs) → AreOfRelationFor c.spec held r (length steps) → HasServedAll c.spec held steps r
    → KeepsUsed c (map (λ (s : Step). s.call) steps) held kept → u.held ≡ all_taken kept
    → HasServedByPass c u kept steps × (2 ≤ length steps → HoldsNoMore c u steps) × AreLeftAtRest held kept

-- A group that made one call keeps what its plan took: the pass may commit the call as one entry, what is kept is what the commit leaves, and the rest
-- may be given back.
abbrev pub OneCallKeepsWhatItTook : Type 0
OneCallKeepsWhatItTook = (c : SpecWithPlans) → IsCompiled c.spec c.plans → (u : PassState) (before after kept : List HeldStripe) (call : Call) (reply : Reply)
    → Fits c.spec call → IsRising nat_cmp (stripes_held before) → AreAsTaken before
    → (ran : HasRunIn c.spec (plan_at c.plans call.op) call before after reply) (r : List Pairs) → AreOfRelationFor c.spec before r 1
    → KeepsTaken ran.part after kept → u.held ≡ all_taken kept → length u.own < 2 ^ 48
    → MayCommit c u (next_of u (record { call = call; reply = reply } ∷ []))
    × ((place : ℕ) → all_now kept ≡ (committed c u place (next_of u (record { call = call; reply = reply } ∷ []))).held)
    × AreLeftAtRest after kept
