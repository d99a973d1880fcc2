-- What a line is, by its first word.
use Rattle.std.specs.Prelude.{◌≡◌, ℕ, Bool, true, false, ◌==◌, ◌||◌, if◌then◌else◌, List, length, Some, None, Ok, Err, codes}
use Rattle.rc_handplan.specs.Imports.{bytes_eq, WordText, plain_text, quoted_text, Found, next_word_of}
use Rattle.rc_handplan.specs.declared.hand.Hand.{Hand}
use Rattle.rc_handplan.specs.declared.starts.Closing.{Closing}
use Rattle.rc_handplan.specs.declared.starts.Closing.TheVariants as closings
use Rattle.rc_handplan.specs.declared.starts.LineStart.{LineStart}
use Rattle.rc_handplan.specs.declared.starts.LineStart.TheVariants as starts

abbrev pub start_of_word : List ℕ → LineStart
start_of_word word =
    if bytes_eq word (codes "plan") then starts.Plan
    else if bytes_eq word (codes "work") then starts.Work
    else if bytes_eq word (codes "end") then starts.End
    else starts.Other

abbrev pub start_by : WordText → LineStart
start_by (plain_text word) = start_of_word word
start_by (quoted_text text) = starts.Other

abbrev pub start_of : Found → LineStart
start_of (Ok None) = starts.Other
start_of (Ok (Some found)) = start_by found.0
start_of (Err fault) = starts.Other

-- a line that begins with `plan`, with `work` or with `end`, or another
abbrev pub line_start : List ℕ → LineStart
line_start bytes = start_of (next_word_of bytes)

abbrev pub BeginsPlan : List ℕ → Type 0
BeginsPlan bytes = line_start bytes ≡ starts.Plan

abbrev pub BeginsWork : List ℕ → Type 0
BeginsWork bytes = line_start bytes ≡ starts.Work

abbrev pub BeginsEnd : List ℕ → Type 0
BeginsEnd bytes = line_start bytes ≡ starts.End

-- a line that closes plans
abbrev pub Closes : Closing → List ℕ → Type 0
Closes closings.Work bytes = BeginsWork bytes
Closes closings.End bytes = BeginsEnd bytes

abbrev pub BeginsOtherwise : List ℕ → Type 0
BeginsOtherwise bytes = line_start bytes ≡ starts.Other

-- the word that closes plans
abbrev pub is_work : Closing → Bool
is_work closings.Work = true
is_work closings.End = false

abbrev pub is_end : Closing → Bool
is_end closings.Work = false
is_end closings.End = true

-- The lines of these plans end before such a line: one that begins with the word that closes them, or, where there is no
-- plan yet, any that doesn't begin with `plan`.
abbrev pub ends_plans : Closing → List Hand → LineStart → Bool
ends_plans closing hands starts.Plan = false
ends_plans closing hands starts.Work = is_work closing || (length hands == 0)
ends_plans closing hands starts.End = is_end closing || (length hands == 0)
ends_plans closing hands starts.Other = length hands == 0
