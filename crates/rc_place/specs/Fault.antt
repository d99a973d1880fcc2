-- What a fault of acceptance says.
use Rattle.rc_spec.specs.declared.refusal.Refusal.{Refusal}
use Rattle.rc_spec.specs.declared.spec.Spec.{Spec}
use Rattle.rc_place.specs.declared.acceptance.AcceptFault.{AcceptFault}
use Rattle.rc_place.specs.declared.acceptance.AcceptFault.TheVariants.{Memory, Refused}

-- a fact of the specification that was handed back and of the refusal, if the fault is one
abbrev pub IfHandedBack : (Spec → Refusal → Type 0) → AcceptFault → Type 0
IfHandedBack P Memory = Unit {0}
IfHandedBack P (Refused spec refusal) = P spec refusal
