-- How a store goes on that was closed: over texts, as a store is opened by them. (PLDI 2012, serializable transactions: its
-- calls go on with the one legal history.)
use Rattle.std.specs.Prelude.{◌≡◌, ℕ, ◌<◌, ◌≤◌, List, [], ◌∷◌, length}
use Rattle.rc_embed.specs.Imports.{AllByRecursion, In, SpecWithPlans, Extends, spec_of, ClosedSeen, HasResumed}
use Rattle.rc_embed.specs.declared.fault.OpenFault.TheVariants as opens
use Rattle.rc_embed.specs.declared.fault.ResumeFault.{ResumeFault}
use Rattle.rc_embed.specs.declared.fault.ResumeFault.TheVariants.{Refused, Sessions, Limit, Other}
use Rattle.rc_embed.specs.declared.opening.Options as asked
use Rattle.rc_embed.specs.Closing.{HasAllPasses}
use Rattle.rc_embed.specs.Opened.{AreInBounds, IsCompiledWith, IsMadeOf, IsRefusedWith, IsStoreOfTexts, OpenSeen}

-- What is asked for suffices for what a closed store had: for as many passes, and for as many calls as each of them had made.
pub record Suffices (closed : ClosedSeen) (options : asked.Options) : Type 0 where
  pub sessions : length closed.made ≤ options.passes
  pub limit : AllByRecursion (λ made. made ≤ options.limit) closed.made

-- some pass of it had made more calls
abbrev pub HasMadeMore : ClosedSeen → ℕ → Type 0
HasMadeMore closed limit = (made : ℕ) × In made closed.made × (limit < made)

-- The store goes on from the closed one, and is that of the texts: their specification is the closed store's, or that with
-- further operations behind its own. It begins with the history that was closed, has all of its passes, by number, and each of
-- them has made what the pass of its number had made.
pub record IsResumedWith (closed : ClosedSeen) (text shapes plans : List ℕ) (options : asked.Options) (opened : OpenSeen)
    : Type 0 where
  pub texts : IsStoreOfTexts text shapes plans options opened
  pub suffices : Suffices closed options
  pub further : Extends closed.compiled.spec (spec_of opened.store.row)
  pub resumed : HasResumed closed opened.store opened.passes
  pub all : HasAllPasses opened

-- a store of a specification with plans that goes on from the closed one
pub record IsResumedOf (closed : ClosedSeen) (compiled : SpecWithPlans) (options : asked.Options) (opened : OpenSeen)
    : Type 0 where
  pub made : IsMadeOf compiled options opened
  pub resumed : HasResumed closed opened.store opened.passes
  pub all : HasAllPasses opened

-- these are one store, and it is so
abbrev pub IsOneOf : ClosedSeen → SpecWithPlans → asked.Options → List OpenSeen → Type 0
IsOneOf closed compiled options stores = (opened : OpenSeen) × (stores ≡ opened ∷ []) × IsResumedOf closed compiled options opened

abbrev pub IsOneResumed : ClosedSeen → List ℕ → List ℕ → List ℕ → asked.Options → List OpenSeen → Type 0
IsOneResumed closed text shapes plans options stores =
    (opened : OpenSeen) × (stores ≡ opened ∷ []) × IsResumedWith closed text shapes plans options opened

-- The texts' specification, as a store has it, isn't the closed store's, nor that with further operations behind its own.
pub record IsOfAnother (closed : ClosedSeen) (text shapes plans : List ℕ) (options : asked.Options) : Type 0 where
  pub compiled : SpecWithPlans
  pub with_plans : IsCompiledWith text shapes plans options compiled
  pub other : Extends closed.compiled.spec compiled.spec → ⊥

-- Why a closed store doesn't go on: for options out of their ranges first, then for too few sessions, then because some pass had
-- made more calls than the limit, then for what opening a store by the texts is refused for, and then because the
-- specification is another one. Where memory is wanted, all before the texts was right.
abbrev pub IsUnresumedFor : ClosedSeen → List ℕ → List ℕ → List ℕ → asked.Options → ResumeFault → Type 0
IsUnresumedFor closed text shapes plans options (Refused fault) =
    IsRefusedWith text shapes plans options fault × (AreInBounds options → Suffices closed options)
IsUnresumedFor closed text shapes plans options Sessions = AreInBounds options × (options.passes < length closed.made)
IsUnresumedFor closed text shapes plans options Limit =
    AreInBounds options × (length closed.made ≤ options.passes) × HasMadeMore closed options.limit
IsUnresumedFor closed text shapes plans options Other =
    AreInBounds options × Suffices closed options × IsOfAnother closed text shapes plans options

-- why the options don't do for a closed store, where that is why
abbrev pub IsTooSmallFor : ClosedSeen → asked.Options → ResumeFault → Type 0
IsTooSmallFor closed options (Refused fault) = (fault ≡ opens.Options) × (AreInBounds options → ⊥)
IsTooSmallFor closed options Sessions = AreInBounds options × (options.passes < length closed.made)
IsTooSmallFor closed options Limit =
    AreInBounds options × (length closed.made ≤ options.passes) × HasMadeMore closed options.limit
IsTooSmallFor closed options Other = ⊥
