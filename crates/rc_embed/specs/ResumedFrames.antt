-- Frames by which closed stores go on, and how a store is closed for callers in other languages.
use Rattle.std.specs.Prelude.{◌≡◌, ◌⊎◌, ◌∷◌, ℕ, List, [], Option, Some}
use Rattle.rc_store.specs.Closed.{ClosedSeen, HasClosed}
use Rattle.rc_embed.specs.declared.fault.ResumeFault.{ResumeFault}
use Rattle.rc_embed.specs.declared.fault.ResumeFault.TheVariants.{Refused, Sessions, Limit, Other}
use Rattle.rc_embed.specs.declared.open_frame.OpenFrame.{OpenFrame}
use Rattle.rc_embed.specs.Closing.{HasAllPasses}
use Rattle.rc_embed.specs.Codes as codes
use Rattle.rc_embed.specs.OpenFrames.{BreaksRule, HasItem, HasRefusal, fault_text, open_code, options_asked}
use Rattle.rc_embed.specs.Opened.{OpenSeen}
use Rattle.rc_embed.specs.Resuming.{IsResumedWith, IsUnresumedFor}

-- the code of a fault
abbrev pub resume_code : ResumeFault → ℕ
resume_code (Refused fault) = open_code fault
resume_code Sessions = codes.sessions
resume_code Limit = codes.limit
resume_code Other = codes.other

-- the refusal of a text, where one is refused
abbrev pub resume_text : ResumeFault → List ℕ
resume_text (Refused fault) = fault_text fault
resume_text Sessions = []
resume_text Limit = []
resume_text Other = []

-- the item that breaks a rule, or the operation whose plan does, is one of the specification's
abbrev pub HasItemOf : ResumeFault → Type 0
HasItemOf (Refused fault) = HasItem fault
HasItemOf Sessions = Unit {0}
HasItemOf Limit = Unit {0}
HasItemOf Other = Unit {0}

-- a text has the fault, and its refusal is told
abbrev pub BreaksRuleOf : ResumeFault → Type 0
BreaksRuleOf (Refused fault) = BreaksRule fault
BreaksRuleOf Sessions = ⊥
BreaksRuleOf Limit = ⊥
BreaksRuleOf Other = ⊥

-- the code and the frame tell the fault; or memory was wanted for the refusal of a text, and none is told
abbrev pub TellsResumeFault : ResumeFault → OpenFrame → ℕ → Type 0
TellsResumeFault fault frame code =
    ((code ≡ resume_code fault) × HasRefusal (resume_text fault) frame)
    ⊎ ((code ≡ codes.memory) × BreaksRuleOf fault × (frame.length ≡ 0))

-- the store goes on from the closed one, by the texts and as the frame asks
abbrev pub IsResumedBy : ClosedSeen → List ℕ → List ℕ → List ℕ → OpenFrame → OpenSeen → Type 0
IsResumedBy closed text shapes plans frame opened = IsResumedWith closed text shapes plans (options_asked frame) opened

-- the closed store doesn't go on, for a cause, which the code and the frame tell
pub record IsUnresumedBy (closed : ClosedSeen) (text shapes plans : List ℕ) (before after : OpenFrame) (code : ℕ)
    : Type 0 where
  pub fault : ResumeFault
  pub cause : IsUnresumedFor closed text shapes plans (options_asked before) fault
  pub code_is : code ≡ resume_code fault
  pub told : HasRefusal (resume_text fault) after

-- so it is of the closed store at a place: one store goes on from it, or it doesn't
abbrev pub HaveResumedFrom : Option ClosedSeen → List ℕ → List ℕ → List ℕ → OpenFrame → List OpenSeen → Type 0
HaveResumedFrom place text shapes plans frame stores =
    (closed : ClosedSeen) → place ≡ Some closed
    → (opened : OpenSeen) × (stores ≡ opened ∷ []) × IsResumedBy closed text shapes plans frame opened

abbrev pub IsUnresumedFrom : Option ClosedSeen → List ℕ → List ℕ → List ℕ → OpenFrame → OpenFrame → ℕ → Type 0
IsUnresumedFrom place text shapes plans before after code =
    (closed : ClosedSeen) → place ≡ Some closed → IsUnresumedBy closed text shapes plans before after code

-- the place has what the store left
abbrev pub HasClosedInto : OpenSeen → Option ClosedSeen → Type 0
HasClosedInto opened place = (closed : ClosedSeen) × (place ≡ Some closed) × HasClosed opened.store opened.passes closed

-- Why a store isn't closed: some session isn't given back; or all are, and memory was wanted, or somebody holds yet what it
-- shared with them.
abbrev pub IsUnclosedFor : OpenSeen → ℕ → Type 0
IsUnclosedFor opened code =
    ((code ≡ codes.outside) × (HasAllPasses opened → ⊥)) ⊎ (((code ≡ codes.memory) ⊎ (code ≡ codes.shared)) × HasAllPasses opened)
