-- What a store prints of its plans, given back.
use Rattle.std.specs.Prelude.{◌≡◌, ℕ, ◌<◌, List, [], length}
use Rattle.rc_text_laws.specs.Imports.{plan_at, OpsHaveSets, plans_alone, compiled_of, spec_of, OpenFault, Line, Memory, Options, Plan, PlanLine, Rule, ShapeLine, TooLong, IsRefusedWith, IsStoreOfTexts, OpenSeen}
use Rattle.rc_embed.specs.declared.opening.Options as asked
use Rattle.rc_text_laws.specs.PlansRead.{OpsAreShort}

-- the plans of a store, as they are printed, with the line `end` behind them
abbrev pub plans_printed : OpenSeen → List ℕ
plans_printed opened = plans_alone (spec_of opened.store.row) (compiled_of opened.store.row).plans

-- the columns of their Probes are sets, as `OpenStore::plans` tells, and none has more than 256 statements
pub record CanBeGivenBack (opened : OpenSeen) : Type 0 where
  pub sets : OpsHaveSets (spec_of opened.store.row) (compiled_of opened.store.row).plans
  pub short : OpsAreShort (spec_of opened.store.row) (compiled_of opened.store.row).plans

-- the fault is none of plans
abbrev pub IsNotOfPlans : OpenFault → Type 0
IsNotOfPlans Memory = Unit {0}
IsNotOfPlans Options = Unit {0}
IsNotOfPlans TooLong = Unit {0}
IsNotOfPlans (Line rule line) = Unit {0}
IsNotOfPlans (Rule spec refusal) = Unit {0}
IsNotOfPlans (ShapeLine rule line) = Unit {0}
IsNotOfPlans (PlanLine rule line) = ⊥
IsNotOfPlans (Plan spec op refusal) = ⊥

-- The plans that a store prints all of whose operations are declared, whichever it was opened with, are not refused where a store of the same text and options
-- is opened with them.
abbrev pub PrintedPlansAreNotRefused : Type 0
PrintedPlansAreNotRefused = (text plans : List ℕ) (options : asked.Options) (opened : OpenSeen)
    → IsStoreOfTexts text [] plans options opened → CanBeGivenBack opened
    → (fault : OpenFault) → IsRefusedWith text [] (plans_printed opened) options fault → IsNotOfPlans fault

-- And the store that is opened has the same plans.
abbrev pub PrintedPlansAreTheStores : Type 0
PrintedPlansAreTheStores = (text plans : List ℕ) (options : asked.Options) (opened : OpenSeen)
    → IsStoreOfTexts text [] plans options opened → CanBeGivenBack opened
    → (again : OpenSeen) → IsStoreOfTexts text [] (plans_printed opened) options again
    → (op : ℕ) → op < length (spec_of opened.store.row).ops
    → plan_at (compiled_of again.store.row).plans op ≡ plan_at (compiled_of opened.store.row).plans op
