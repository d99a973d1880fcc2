-- How the code's answers give what the definitions give. Want of memory says nothing.
use Rattle.std.specs.Prelude.{◌≡◌, ℕ, List, Result, Ok, Err}
use Rattle.rc_handplan.specs.Imports.{content_from, IsLineStart, rest_place, Rest}
use Rattle.rc_handplan.specs.declared.hand.Hand.{Hand}
use Rattle.rc_handplan.specs.declared.refusal.HandRule.{HandRule}
use Rattle.rc_handplan.specs.declared.refusal.HandRefusal.{HandRefusal}
use Rattle.rc_handplan.specs.declared.refusal.HandRefusal.TheVariants as refusals
use Rattle.rc_handplan.specs.declared.refusal.LineFault.{LineFault}
use Rattle.rc_handplan.specs.declared.refusal.LineFault.TheVariants as faults
use Rattle.rc_handplan.specs.HandGrammar.{Broken, HandReading}

-- a line is not read, for the rule that it breaks
abbrev pub FailsLine : {X : Type 0} → LineFault → Result X HandRule → Type 0
FailsLine faults.Memory gives = Unit {0}
FailsLine (faults.Broken rule) gives = gives ≡ Err rule

-- what a line gives is told
abbrev pub Gives : {X : Type 0} → Result X LineFault → Result X HandRule → Type 0
Gives (Ok x) gives = gives ≡ Ok x
Gives (Err fault) gives = FailsLine fault gives

-- a line is read into the plans, which are then `hands`
abbrev pub TakesLine : {X : Type 0} → Result X LineFault → List Hand → Result (List Hand) HandRule → Type 0
TakesLine (Ok done) hands gives = gives ≡ Ok hands
TakesLine (Err fault) hands gives = FailsLine fault gives

-- the refusal of the plans for the fault of a line
abbrev pub refusal_at : LineFault → ℕ → HandRefusal
refusal_at faults.Memory line = refusals.Memory
refusal_at (faults.Broken rule) line = refusals.Line rule line

-- plans are refused for the first broken rule and its line
abbrev pub Refuses : {Y : Type 0} → HandRefusal → Result Y Broken → Type 0
Refuses refusals.Memory gives = Unit {0}
Refuses (refusals.Line rule line) gives = gives ≡ Err (record { rule = rule; line = line })

-- Plans are read, and at a place behind their lines begins the rest of the text: its content lines are those that are left.
pub record HasReadPlans (text : List ℕ) (rest : Rest) (hands : List Hand) (behind : Rest)
    (gives : Result HandReading Broken) : Type 0 where
  pub reading : HandReading
  pub gives_it : gives ≡ Ok reading
  pub hands_are : reading.hands ≡ hands
  pub version : behind.version ≡ rest.version
  pub start : IsLineStart (rest_place text behind)
  pub others : content_from (rest_place text behind) ≡ reading.others
