-- Open groups: stripes are declared and taken up front, calls are made one after another over what is held, and are committed as
-- one entry. (PLDI 2012, serializable transactions by two-phase locks.)
use Rattle.std.specs.Prelude.{◌≡◌, ℕ, ◌<◌, ◌≤◌, List, [], ◌∷◌, length, All}
use Rattle.rc_store.specs.Imports.{nat_cmp, In, IsRising, Call, Reply, StripeLock, PassState, rows_held, HeldStripe, SpecWithPlans, plan_at, eval, stripes_of, with_plans, Step, StepsFit, AreAsTaken, locks_of, stripes_held, HasRunTaking, HaveServed, Suffice, with_step, HasOperation, group_locks, IsUsedBy, HeldRows, HasSpare, IsPassOf, PassSeen, RowSeen, compiled_of, core_of, holds_taken, spec_of, HaveOneRelation, with_core}
use Rattle.rc_core.specs.State.{locks_of as core_locks}
use Rattle.rc_store.specs.declared.receipt.BeginBack.{BeginBack}
use Rattle.rc_store.specs.declared.receipt.GroupReceipt.{GroupReceipt}
use Rattle.rc_store.specs.declared.receipt.TryFault.{TryFault}
use Rattle.rc_store.specs.declared.receipt.TryFault.TheVariants.{Busy, Memory, Spent}
use Rattle.rc_store.specs.Busy.{IsLockBusy}
use Rattle.rc_store.specs.Lending.{held_stripes}
use Rattle.rc_store.specs.Prepared.{HasGoneOn}
use Rattle.rc_store.specs.Running.{calls_of, replies_of}
use Rattle.rc_store.specs.Store.{AreRepliesFor, HasMadeEntry, IsAsBefore, IsFree, StoreSeen}

-- The pass with which the group was opened, and as it is; the locks that were declared; what the plan of the last call took of them;
-- and the calls with their replies.
pub record OpenGroupSeen : Type 0 where
  pub begun : PassSeen
  pub pass : PassSeen
  pub locks : List StripeLock
  pub took : List StripeLock
  pub steps : List Step

abbrev pub open_group : PassSeen → PassSeen → List StripeLock → List StripeLock → List Step → OpenGroupSeen
open_group begun pass locks took steps = record { begun = begun; pass = pass; locks = locks; took = took; steps = steps }

-- ---- what holds between calls

-- The one call ran over stripes that had the rows as taken, and its plan took just these.
pub record HasRunAlone (c : SpecWithPlans) (step : Step) (held : List HeldStripe) (took : List StripeLock) : Type 0 where
  pub before : List HeldStripe
  pub rising : IsRising nat_cmp (stripes_held before)
  pub unchanged : AreAsTaken before
  pub taking : HasRunTaking c.spec (plan_at c.plans step.call.op) step.call before held took step.reply

-- before the first call nothing was changed, and of one alone it is known what its plan took
abbrev pub IsAlone : SpecWithPlans → List Step → List HeldStripe → List StripeLock → Type 0
IsAlone c [] held took = AreAsTaken held
IsAlone c (s ∷ []) held took = HasRunAlone c s held took
IsAlone c (s ∷ (t ∷ steps)) held took = Unit {0}

-- The pass was free when the group was opened, with fewer entries than the limit, and holds exactly what was declared, which suffices
-- for the calls; no step was refused since. The calls were served one after another, over the rows of one relation.
pub record IsOpenOn (store : StoreSeen) (group : OpenGroupSeen) : Type 0 where
  pub of_row : IsPassOf store.row group.pass
  pub idle : (group.begun.held ≡ []) × ((core_of group.begun).held ≡ [])
  pub left : length (core_of group.begun).own < store.limit
  pub since : HasGoneOn group.begun group.pass
  pub unrefused : group.pass.standing.refusals ≡ group.begun.standing.refusals
  pub room : HasSpare group.pass.kept
  pub agrees : holds_taken group.pass.held ≡ (core_of group.pass).held
  pub one : HaveOneRelation (spec_of store.row) (core_of group.pass).held
  pub locks : locks_of (held_stripes group.pass.held) ≡ group.locks
  pub rising : IsRising nat_cmp (stripes_of group.locks)
  pub fit : StepsFit (spec_of store.row) group.steps
  pub few : length group.steps ≤ 16
  pub suffice : Suffice (compiled_of store.row) (calls_of group.steps) group.locks
  pub served : HaveServed (spec_of store.row) (held_stripes group.pass.held) group.steps
  pub alone : IsAlone (compiled_of store.row) group.steps (held_stripes group.pass.held) group.took

-- ---- how it is opened

-- A free pass, and declarations of operations that there are. Nothing else is asked of them: there may be any number, and what one
-- has for values may be any list of columns with values.
pub record MayDeclare (store : StoreSeen) (pass : PassSeen) (declared : List Call) : Type 0 where
  pub free : IsFree store pass
  pub known : All (HasOperation (spec_of store.row)) declared

-- what is declared
abbrev pub declared_locks : RowSeen → List Call → List StripeLock
declared_locks row declared = group_locks (spec_of row) (with_plans (compiled_of row).plans declared)

-- the group was opened with the pass, over exactly what was declared
pub record HasOpened (store : StoreSeen) (declared : List Call) (pass : PassSeen) (group : OpenGroupSeen) : Type 0 where
  pub begun : group.begun ≡ pass
  pub none : group.steps ≡ []
  pub locks : group.locks ≡ declared_locks store.row declared
  pub runs : IsOpenOn store group

-- Something is in the way only of a declared lock, and memory isn't named where a step was refused. That a pass is spent is found first.
abbrev pub HasDeclaredCause : RowSeen → List Call → PassSeen → PassSeen → TryFault → Type 0
HasDeclaredCause row declared old new Memory = new.standing.refusals ≡ old.standing.refusals
HasDeclaredCause row declared old new (Busy stripe found) = IsLockBusy row (declared_locks row declared) old new stripe found
HasDeclaredCause row declared old new Spent = new ≡ old

-- it was not opened, and the pass came back as before
pub record IsNotOpened (store : StoreSeen) (declared : List Call) (pass : PassSeen) (back : BeginBack) : Type 0 where
  pub free : IsFree store back.pass
  pub before : IsAsBefore pass back.pass
  pub cause : HasDeclaredCause store.row declared pass back.pass back.fault

-- The pass holds what was declared, as it was, and else only its refused steps and the room for its entries changed.
pub record HasHeldDeclared (row : RowSeen) (declared : List Call) (old new : PassSeen) (locks : List StripeLock) : Type 0 where
  pub asked : locks ≡ declared_locks row declared
  pub since : HasGoneOn old new
  pub room : HasSpare new.kept
  pub agrees : holds_taken new.held ≡ (core_of new).held
  pub one : HaveOneRelation (spec_of row) (core_of new).held
  pub locks_are : locks_of (held_stripes new.held) ≡ locks
  pub rising : IsRising nat_cmp (stripes_of locks)
  pub unchanged : AreAsTaken (held_stripes new.held)
  pub unrefused : new.standing.refusals ≡ old.standing.refusals

-- ---- its calls

-- The call's plan ran over what the pass held and took these locks of it, and the call is one step more.
pub record HasGoneOver (row : RowSeen) (call : Call) (steps : List Step) (old new : PassSeen) (took : List StripeLock) (longer : List Step) : Type 0 where
  pub reply : Reply
  pub longer_is : longer ≡ with_step steps call reply
  pub taking : HasRunTaking (spec_of row) (plan_at (compiled_of row).plans call.op) call (held_stripes old.held) (held_stripes new.held) took reply

-- one call more was made, with a reply, and just what was held before is held, with the rows as taken
pub record HasCalledOn (store : StoreSeen) (call : Call) (old new : OpenGroupSeen) : Type 0 where
  pub reply : Reply
  pub steps : new.steps ≡ with_step old.steps call reply
  pub begun : new.begun ≡ old.begun
  pub locks : new.locks ≡ old.locks
  pub held : (core_of new.pass).held ≡ (core_of old.pass).held
  pub runs : IsOpenOn store new

-- ---- its commit

-- the steps' commit needs the stripe: of one call its plan took it, and else some call's plan locks its class
abbrev pub IsNeeded : SpecWithPlans → List Step → List StripeLock → ℕ → Type 0
IsNeeded c [] took p = IsUsedBy c [] p
IsNeeded c (s ∷ []) took p = In p (stripes_of took)
IsNeeded c (s ∷ (t ∷ steps)) took p = IsUsedBy c (calls_of (s ∷ (t ∷ steps))) p

-- kept are the stripes that are needed, each once
pub record KeepsNeeded (needed : ℕ → Type 0) (held kept : List HeldRows) : Type 0 where
  pub inside : (h : HeldRows) → In h kept → In h held
  pub each : (h : HeldRows) → In h held → needed h.stripe → In h kept
  pub only : (h : HeldRows) → In h kept → needed h.stripe
  pub rising : IsRising nat_cmp (stripes_held (held_stripes kept))

-- a pass that holds just these of what it held
abbrev pub holding : List HeldRows → PassSeen → PassSeen
holding kept pass = record pass { standing = with_core pass.standing (record (core_of pass) { held = holds_taken kept }); held = kept }

-- it gave back what isn't needed
pub record HasGivenBack (needed : ℕ → Type 0) (old new : PassSeen) : Type 0 where
  pub kept : List HeldRows
  pub keeps : KeepsNeeded needed old.held kept
  pub is : new ≡ holding kept old

-- what isn't needed has the rows as taken
abbrev pub AreUnchangedBut : (ℕ → Type 0) → List HeldRows → Type 0
AreUnchangedBut needed held = (h : HeldRows) → In h held → (needed h.stripe → ⊥) → h.fragment.now ≡ h.fragment.taken

-- The steps need the stripe: evaluation of one alone names it, on what is held, and of several some call's plan locks its class.
abbrev pub NeedStripe : SpecWithPlans → PassState → List Step → ℕ → Type 0
NeedStripe c u [] p = ⊥
NeedStripe c u (s ∷ []) p = In p (stripes_of (eval c.spec (plan_at c.plans s.call.op) s.call (rows_held u)).named)
NeedStripe c u (s ∷ (t ∷ steps)) p = IsUsedBy c (calls_of (s ∷ (t ∷ steps))) p

-- Of these locks it holds exactly those of stripes that the steps need, each in its mode, and nothing else.
pub record HoldsDeclared (c : SpecWithPlans) (u : PassState) (steps : List Step) (locks : List StripeLock) : Type 0 where
  pub inside : (lock : StripeLock) → In lock (core_locks u) → In lock locks × NeedStripe c u steps lock.0
  pub each : (lock : StripeLock) → In lock locks → NeedStripe c u steps lock.0 → In lock (core_locks u)

-- The entry of the steps was committed over exactly what they needed of these locks, which were declared, and the replies come with
-- the receipt where no entries are kept.
pub record HasMadeOpenGroup (store : StoreSeen) (steps : List Step) (locks : List StripeLock) (old new : PassSeen) (receipt : GroupReceipt) : Type 0 where
  pub entry : HasMadeEntry store steps old new receipt.place receipt.nth
  pub exact : HoldsDeclared (compiled_of store.row) entry.at_commit steps locks
  pub given : AreRepliesFor store.row.keeping (replies_of steps) receipt.replies
