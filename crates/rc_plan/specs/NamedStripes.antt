-- Which stripes plans lock, and which the Locks of a run have named. (PLDI 2012, well-locked query plans.)
use Rattle.std.specs.Prelude.{◌≡◌, ℕ, List}
use Rattle.rc_plan.specs.Imports.{Within, In, Pairs, cols_of, Mode, Spec, class_at, physical_stripe, StripeLock}
use Rattle.rc_plan.specs.declared.statement.Statement.{Statement}
use Rattle.rc_plan.specs.declared.statement.Statement.TheVariants.{Lock}
use Rattle.rc_plan.specs.declared.statement.Which.{Which}
use Rattle.rc_plan.specs.declared.statement.Which.TheVariants as which
use Rattle.rc_plan.specs.PlanRules.{IsLocked, Progress}
use Rattle.rc_plan.specs.StripeLocks.{IsOfClass, stripes_of}

-- ---- by statements

-- a Lock of the plan takes stripes of the class in the mode
abbrev pub LocksClass : List Statement → ℕ → Which → Mode → Type 0
LocksClass plan c choice mode = In (Lock c choice mode) plan

-- The lock of a stripe is one that the plan asks for at the arguments: the stripe is of a class that the plan locks in the mode, and it is theirs
-- where the plan locks the stripes of the bindings and the arguments have the columns that choose one.
pub record IsNamedBy (spec : Spec) (args : Pairs) (plan : List Statement) (lock : StripeLock) : Type 0 where
  pub class : ℕ
  pub choice : Which
  pub locks : LocksClass plan class choice lock.1
  pub of_class : IsOfClass spec lock.0 class
  pub by_arguments : choice ≡ which.Keyed → Within (class_at spec class).cols (cols_of args) → lock.0 ≡ physical_stripe spec class args

-- ---- by what is known of a run

-- each stripe named is one of a class that is locked
abbrev pub AreOfLocked : Spec → Progress → List StripeLock → Type 0
AreOfLocked spec p locks = (stripe : ℕ) → In stripe (stripes_of locks) → (c : ℕ) × IsLocked p c × IsOfClass spec stripe c

-- what a Lock of an insert has named: the stripe of its tuple, or all stripes of the class
abbrev pub HasNamed : Spec → Pairs → List ℕ → ℕ → Which → Type 0
HasNamed spec t stripes c which.Keyed = In (physical_stripe spec c t) stripes
HasNamed spec t stripes c which.All = (u : Pairs) → In (physical_stripe spec c u) stripes
