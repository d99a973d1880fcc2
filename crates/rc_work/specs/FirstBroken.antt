-- What it is that a line is the first to break a rule, and that a workload is read, whole or up to its `end`, over the whole
-- list of lines.
use Rattle.std.specs.Prelude.{◌≡◌, ℕ, List, [], ◌∷◌, Result, MatchResult}
use Rattle.rc_text.specs.Language as language
use Rattle.rc_work.specs.Imports.{Language, ContentLine, TextPlace, content_from, past_end_of, Spec, Broken, LineRule, S1}
use Rattle.rc_work.specs.declared.also.Also.{Also}
use Rattle.rc_work.specs.declared.draft.Draft.{Draft}
use Rattle.rc_work.specs.declared.work.Work.{Work}
use Rattle.rc_work.specs.WorkGrammar.{broken_at, threads_of, draft_language, draft_of}
use Rattle.rc_work.specs.Ranking.{work_of}
use Rattle.rc_work.specs.PartGrammar.{WorkPart, part_language, work_part}

-- the language of the lines behind the header, of which the draft's workload is read
abbrev pub work_language : Also → Spec → Language Draft Draft Work LineRule
work_language also spec = draft_language also spec (work_of spec)

-- lines that break no rule, from this draft to the next
abbrev pub AreTaken : Also → Spec → Draft → List ContentLine → Draft → Type 0
AreTaken also spec draft lines next = language.AreTaken (work_language also spec) draft lines next

-- what the lines behind the header mean
abbrev pub LinesMean : Also → ℕ → Spec → Draft → List ContentLine → Result Work Broken → Type 0
LinesMean also past_end spec draft lines gives = language.LinesMean (work_language also spec) past_end draft lines gives

-- what all lines mean: the first is the header
abbrev pub ContentMeans : Also → ℕ → Spec → List ContentLine → Result Work Broken → Type 0
ContentMeans also past_end spec [] gives = broken_at S1 past_end ≡ gives
ContentMeans also past_end spec (line ∷ others) gives =
    MatchResult (threads_of line.bytes) (λ threads. LinesMean also past_end spec (draft_of threads) others gives)
    (λ rule. broken_at rule line.number ≡ gives)

-- what the content lines from a place on mean, behind a specification
abbrev pub WorkMeans : Also → Spec → TextPlace → Result Work Broken → Type 0
WorkMeans also spec place gives = ContentMeans also (past_end_of place.text) spec (content_from place) gives

-- ---- up to `end`

-- the language of the lines behind the header up to `end`, of which the draft's workload is read
abbrev pub work_part_language : Also → Spec → Language Draft Draft WorkPart LineRule
work_part_language also spec = part_language also spec (work_part spec)

-- what all lines mean up to `end`, whatever stands behind it: the first is the header
abbrev pub PartContentMeans : Also → ℕ → Spec → List ContentLine → Result WorkPart Broken → Type 0
PartContentMeans also past_end spec [] gives = broken_at S1 past_end ≡ gives
PartContentMeans also past_end spec (line ∷ others) gives =
    MatchResult (threads_of line.bytes) (λ threads. language.LinesMean (work_part_language also spec) past_end (draft_of threads) others gives)
    (λ rule. broken_at rule line.number ≡ gives)

-- what the content lines from a place on mean up to the `end` of a workload, behind a specification
abbrev pub PartMeans : Also → Spec → TextPlace → Result WorkPart Broken → Type 0
PartMeans also spec place gives = PartContentMeans also (past_end_of place.text) spec (content_from place) gives
