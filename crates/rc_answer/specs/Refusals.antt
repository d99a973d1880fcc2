-- What refusing a text writes.
use Rattle.std.specs.Prelude.{◌≡◌, ℕ, ◌<◌, List, length, Option, Result, Err}
use Rattle.rc_answer.specs.Imports.{ReadRefusal, HandFault, HandRefusal, AcceptFault}
use Rattle.rc_reader.specs.declared.refusal.ReadRefusal.TheVariants as refusals
use Rattle.rc_handplan.specs.declared.compiling.HandFault.TheVariants as plan_faults
use Rattle.rc_handplan.specs.declared.refusal.HandRefusal.TheVariants as hand_refusals
use Rattle.rc_place.specs.declared.acceptance.AcceptFault.TheVariants as faults
use Rattle.rc_answer.specs.declared.status.Status.{Status}
use Rattle.rc_answer.specs.declared.status.Stop.{Stop}
use Rattle.rc_answer.specs.declared.status.Stop.TheVariants.{Memory}
use Rattle.rc_answer.specs.Answers.{IsHandRefusal, IsPlanRefusal, IsRefusal, IsRuleRefusal}
use Rattle.rc_answer.specs.Writes.{Writes}

-- the refusal of a text for a line rule; want of memory writes nothing
abbrev pub WritesRefusal : Option (List ℕ) → Option (List ℕ) → ReadRefusal → Result Status Stop → Type 0
WritesRefusal old new refusals.Memory result = (result ≡ Err Memory) × (new ≡ old)
WritesRefusal old new (refusals.Line rule line) result = Writes (IsRefusal (record { rule = rule; line = line })) old new result

-- the refusal of a specification that isn't accepted; want of memory writes nothing
abbrev pub WritesRuleRefusal : Option (List ℕ) → Option (List ℕ) → AcceptFault → Result Status Stop → Type 0
WritesRuleRefusal old new faults.Memory result = (result ≡ Err Memory) × (new ≡ old)
WritesRuleRefusal old new (faults.Refused spec refusal) result = Writes (IsRuleRefusal spec refusal) old new result

-- the refusal of plans for a rule of their lines; want of memory writes nothing
abbrev pub WritesHandRefusal : Option (List ℕ) → Option (List ℕ) → HandRefusal → Result Status Stop → Type 0
WritesHandRefusal old new hand_refusals.Memory result = (result ≡ Err Memory) × (new ≡ old)
WritesHandRefusal old new (hand_refusals.Line rule line) result = Writes (IsHandRefusal (record { rule = rule; line = line })) old new result

-- a refused plan is one of an operation
abbrev pub IsOfAnOperation : HandFault → Type 0
IsOfAnOperation plan_faults.Memory = Unit {0}
IsOfAnOperation (plan_faults.Refused spec op refusal) = op < length spec.ops

-- the refusal of a plan that breaks a rule; want of memory writes nothing
abbrev pub WritesPlanRefusal : Option (List ℕ) → Option (List ℕ) → HandFault → Result Status Stop → Type 0
WritesPlanRefusal old new plan_faults.Memory result = (result ≡ Err Memory) × (new ≡ old)
WritesPlanRefusal old new (plan_faults.Refused spec op refusal) result = Writes (IsPlanRefusal spec op refusal) old new result
