-- How a command ends, by its status: what the sink then holds.
use Rattle.std.specs.Prelude.{◌≡◌, ℕ, List, Option, Result, Ok, Err, ◌⊎◌}
use Rattle.rc_io.specs.Bytes.{Adds, AddsPrefix}
use Rattle.rc_answer.specs.declared.status.Status.{Status}
use Rattle.rc_answer.specs.declared.status.Status.TheVariants.{Done, Bad, Usage, Refused, SourceFailed, SinkFailed, OutOfMemory}
use Rattle.rc_answer.specs.Writes.{WritesPart, WritesWhole}
use Rattle.rc_top.specs.Answer.{usage_text}
use Rattle.rc_answer.specs.Big.{big_text}
use Rattle.rc_answer.specs.Statuses.{stop_status}
use Rattle.rc_answer.specs.declared.status.Stop.{Stop}

-- a command's end by its status
abbrev pub Ends : (List ℕ → Status → Type 0) → Option (List ℕ) → Option (List ℕ) → Status → Type 0
Ends A old new Done = WritesWhole A old new Done
Ends A old new Bad = WritesWhole A old new Bad
Ends A old new Usage = WritesWhole A old new Usage
Ends A old new Refused = WritesWhole A old new Refused
Ends A old new SourceFailed = new ≡ old
Ends A old new SinkFailed = WritesPart A old new
Ends A old new OutOfMemory = (new ≡ old) ⊎ WritesPart A old new

-- the status of a writer's answer
abbrev pub status_of : Result Status Stop → Status
status_of (Ok status) = status
status_of (Err stop) = stop_status stop

-- the end of words that are no command
abbrev pub EndsUsage : Option (List ℕ) → Option (List ℕ) → Status → Type 0
EndsUsage old new Done = ⊥
EndsUsage old new Bad = ⊥
EndsUsage old new Usage = Adds old usage_text new
EndsUsage old new Refused = ⊥
EndsUsage old new SourceFailed = ⊥
EndsUsage old new SinkFailed = AddsPrefix old usage_text new
EndsUsage old new OutOfMemory = new ≡ old

-- the end of a generated workload: its one text, or a part of it, maybe nothing
abbrev pub EndsBig : ℕ → ℕ → Option (List ℕ) → Option (List ℕ) → Status → Type 0
EndsBig seed calls old new Done = Adds old (big_text seed calls) new
EndsBig seed calls old new Bad = ⊥
EndsBig seed calls old new Usage = ⊥
EndsBig seed calls old new Refused = ⊥
EndsBig seed calls old new SourceFailed = ⊥
EndsBig seed calls old new SinkFailed = AddsPrefix old (big_text seed calls) new
EndsBig seed calls old new OutOfMemory = AddsPrefix old (big_text seed calls) new
