-- What a command has to do with the source, how much of it is taken, and whether the command makes a run.
use Rattle.std.specs.Prelude.{◌≡◌, ℕ, ◌≤◌, List, drop, Option, Some, None}
use Rattle.rc_spec.specs.declared.spec.Spec.{Spec}
use Rattle.rc_plan.specs.declared.statement.Statement.{Statement}
use Rattle.rc_command.specs.declared.command.Command.{Command}
use Rattle.rc_command.specs.declared.command.Command.TheVariants.{OfText, Big}
use Rattle.rc_work.specs.declared.also.Also.{Also}
use Rattle.rc_work.specs.declared.also.Also.TheVariants.{Nothing}
use Rattle.rc_answer.specs.Answers.{MakesCalls, also_of, ArePlansFor}
use Rattle.rc_answer.specs.Plans.{ArePlanned}
use Rattle.rc_answer.specs.declared.status.Status.{Status}
use Rattle.rc_answer.specs.declared.status.Status.TheVariants.{Done, Bad, Usage, Refused, SourceFailed, SinkFailed, OutOfMemory}

-- words that are no command read nothing, and neither does a command without a text
abbrev pub ReadsNothing : Option Command → Type 0
ReadsNothing None = Unit {0}
ReadsNothing (Some (OfText command)) = ⊥
ReadsNothing (Some (Big seed calls)) = Unit {0}

-- the command makes calls on a store
abbrev pub MakesRun : Option Command → Type 0
MakesRun None = ⊥
MakesRun (Some (OfText command)) = MakesCalls command
MakesRun (Some (Big seed calls)) = Unit {0}

-- and groups may stand among them or not
abbrev pub also_asked : Option Command → Also
also_asked None = Nothing
also_asked (Some (OfText command)) = also_of command
also_asked (Some (Big seed calls)) = Nothing

-- the status of a text that was read to its end, or as far as texts are read
abbrev pub HasRead : Status → Type 0
HasRead Done = Unit {0}
HasRead Bad = Unit {0}
HasRead Usage = ⊥
HasRead Refused = Unit {0}
HasRead SourceFailed = ⊥
HasRead SinkFailed = Unit {0}
HasRead OutOfMemory = ⊥

-- some first bytes are gone, at most so many, and the others are left
abbrev pub LeavesAllBut : ℕ → List ℕ → Option (List ℕ) → Type 0
LeavesAllBut most input left = (taken : ℕ) × (taken ≤ most) × (left ≡ Some (drop taken input))

-- of what kind the plans of its store are
abbrev pub ArePlansAsked : Option Command → Spec → List (List Statement) → Type 0
ArePlansAsked None spec plans = ArePlanned spec plans
ArePlansAsked (Some (OfText command)) spec plans = ArePlansFor command spec plans
ArePlansAsked (Some (Big seed calls)) spec plans = ArePlanned spec plans
