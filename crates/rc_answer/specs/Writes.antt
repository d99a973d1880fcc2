-- What a sink holds once a text of some kind is written, or a part of it.
use Rattle.std.specs.Prelude.{◌≡◌, ℕ, ◌≤◌, List, Option, Result, Ok, Err, ◌⊎◌, IsErrOf, OnOk}
use Rattle.rc_answer.specs.Imports.{Adds, AddsPrefix, Rose}
use Rattle.rc_answer.specs.declared.status.Status.{Status}
use Rattle.rc_answer.specs.declared.status.Stop.{Stop}
use Rattle.rc_answer.specs.declared.status.Stop.TheVariants.{Memory, Sink}

-- a whole text with this status
abbrev pub WritesWhole : (List ℕ → Status → Type 0) → Option (List ℕ) → Option (List ℕ) → Status → Type 0
WritesWhole A old new status = (text : List ℕ) × A text status × Adds old text new

-- a prefix of a text
abbrev pub WritesPart : (List ℕ → Status → Type 0) → Option (List ℕ) → Option (List ℕ) → Type 0
WritesPart A old new = (text : List ℕ) × (status : Status) × A text status × AddsPrefix old text new

-- a writer's answer: want of memory leaves nothing or a prefix, and a fault of the sink leaves a prefix
abbrev pub Writes : (List ℕ → Status → Type 0) → Option (List ℕ) → Option (List ℕ) → Result Status Stop → Type 0
Writes A old new (Ok status) = WritesWhole A old new status
Writes A old new (Err Memory) = (new ≡ old) ⊎ WritesPart A old new
Writes A old new (Err Sink) = WritesPart A old new

-- what a writer's answer says of the count of the sink's faults: a fault of the sink was counted; where the answer tells none,
-- also where it tells want of memory, none was; and no count is lost
pub record CountsFaults {A : Type 0} (old new : ℕ) (answer : Result A Stop) : Type 0 where
  pub failed : IsErrOf answer Sink → Rose old new
  pub quiet : OnOk answer (new ≡ old)
  pub memory : IsErrOf answer Memory → new ≡ old
  pub count : old ≤ new
