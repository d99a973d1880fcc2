-- How the code's answers give what the definitions give, where calls may bring their own operation.
use Rattle.std.specs.Prelude.{◌≡◌, ℕ, ◌≤◌, Bool, false, List, length, Result, Ok, Err}
use Rattle.rc_work.specs.Imports.{FailsLine, LineFault, LineRule, IsInRange, Spec}
use Rattle.rc_work.specs.declared.shapes.OpenDraft.{OpenDraft}
use Rattle.rc_work.specs.OpenGrammar.{after_open}

-- a line was taken, and what was read is then `new`
abbrev pub TakesOpenLine : {X : Type 0} → Result X LineFault → OpenDraft → Result OpenDraft LineRule → Type 0
TakesOpenLine (Ok done) new gives = gives ≡ Ok new
TakesOpenLine (Err fault) new gives = FailsLine fault gives

-- a line is read, and never ends the reading
pub record ReadsOpenLine (later : Bool) (spec : Spec) (read : OpenDraft) (bytes : List ℕ) (ended : Bool) (next : OpenDraft) : Type 0 where
  pub goes_on : ended ≡ false
  pub gives : after_open later spec read bytes ≡ Ok next

-- a line is refused
abbrev pub fails_open_line : Bool → Spec → OpenDraft → List ℕ → LineFault → Type 0
fails_open_line later spec read bytes fault = FailsLine fault (after_open later spec read bytes)

-- lines may be read
pub record CanReadOpen (spec : Spec) (read : OpenDraft) : Type 0 where
  pub range : IsInRange spec
  pub few : length read.shapes ≤ 32
