-- How the code's answers give what the definitions give. Want of memory says nothing.
use Rattle.std.specs.Prelude.{◌≡◌, ℕ, ◌+◌, Bool, false, List, Result, Ok, Err}
use Rattle.rc_work.specs.Imports.{ContentLine, IsLineStart, content_from, FailsLine, Refuses, rest_place, Broken, Rest, LineRule, S1, S2, S3, S4, S5, S6, S7, S8, W1, W2, W3, W4, W5, ReadRefusal, LineFault, Spec}
use Rattle.rc_reader.specs.declared.refusal.ReadRefusal.TheVariants as refusals
use Rattle.rc_work.specs.declared.also.Also.{Also}
use Rattle.rc_work.specs.declared.also.Also.TheVariants.{Nothing, Groups}
use Rattle.rc_work.specs.declared.draft.Draft.{Draft}
use Rattle.rc_work.specs.declared.work.Work.{Work}
use Rattle.rc_work.specs.WorkGrammar.{after_bytes}
use Rattle.rc_work.specs.PartGrammar.{DraftPart, WorkPart}

-- a line, or a part of it, gave what it gives
abbrev pub Gives : {X : Type 0} → Result X LineFault → Result X LineRule → Type 0
Gives (Ok found) gives = gives ≡ Ok found
Gives (Err fault) gives = FailsLine fault gives

-- a line was taken into the draft, which is then `new`
abbrev pub TakesLine : {X : Type 0} → Result X LineFault → Draft → Result Draft LineRule → Type 0
TakesLine (Ok done) new gives = gives ≡ Ok new
TakesLine (Err fault) new gives = FailsLine fault gives

-- a line is read from a draft to the next, and never ends the reading
pub record ReadsLine (also : Also) (spec : Spec) (draft : Draft) (bytes : List ℕ) (ended : Bool) (next : Draft) : Type 0 where
  pub goes_on : ended ≡ false
  pub gives : after_bytes also spec draft bytes ≡ Ok next

-- the same, and ends the reading where it is `end`
pub record ReadsPartLine (also : Also) (spec : Spec) (draft : Draft) (bytes : List ℕ) (ended : Bool) (next : Draft) : Type 0 where
  pub ends : ended ≡ next.ended
  pub gives : after_bytes also spec draft bytes ≡ Ok next

-- a line is refused behind a draft
abbrev pub fails_line : Also → Spec → Draft → List ℕ → LineFault → Type 0
fails_line also spec draft bytes fault = FailsLine fault (after_bytes also spec draft bytes)

-- a rule that lines of a workload may break: W5 where groups are read
abbrev pub IsWorkRule : Also → LineRule → Type 0
IsWorkRule also S1 = Unit {0}
IsWorkRule also S2 = Unit {0}
IsWorkRule also S3 = ⊥
IsWorkRule also S4 = ⊥
IsWorkRule also S5 = Unit {0}
IsWorkRule also S6 = Unit {0}
IsWorkRule also S7 = Unit {0}
IsWorkRule also S8 = Unit {0}
IsWorkRule also W1 = Unit {0}
IsWorkRule also W2 = Unit {0}
IsWorkRule also W3 = Unit {0}
IsWorkRule also W4 = ⊥
IsWorkRule Nothing W5 = ⊥
IsWorkRule Groups W5 = Unit {0}

-- a refusal of a workload: want of memory, or one of its rules
abbrev pub IsWorkRefusal : Also → ReadRefusal → Type 0
IsWorkRefusal also refusals.Memory = Unit {0}
IsWorkRefusal also (refusals.Line rule line) = IsWorkRule also rule

-- ---- reading up to `end`

-- the rest of a text of this version begins behind the line, with these content lines
pub record IsRestBehind (text : List ℕ) (version : ℕ) (rest : Rest) (last : ContentLine) (others : List ContentLine) : Type 0 where
  pub at : rest.at ≡ last.next
  pub line : rest.line ≡ last.number + 1
  pub version_is : rest.version ≡ version
  pub start : IsLineStart (rest_place text rest)
  pub others_are : content_from (rest_place text rest) ≡ others

-- what reading a draft up to `end` answers
abbrev pub ReadsDraftPart : List ℕ → ℕ → Result (Draft × Rest) ReadRefusal → Result DraftPart Broken → Type 0
ReadsDraftPart text version (Ok read) gives =
    (part : DraftPart) × (gives ≡ Ok part) × (part.draft ≡ read.0) × IsRestBehind text version read.1 part.last part.others
ReadsDraftPart text version (Err refusal) gives = Refuses refusal gives

-- what reading a workload up to `end` answers
abbrev pub ReadsPart : List ℕ → ℕ → Result (Work × Rest) ReadRefusal → Result WorkPart Broken → Type 0
ReadsPart text version (Ok read) gives =
    (part : WorkPart) × (gives ≡ Ok part) × (part.work ≡ read.0) × IsRestBehind text version read.1 part.last part.others
ReadsPart text version (Err refusal) gives = Refuses refusal gives
