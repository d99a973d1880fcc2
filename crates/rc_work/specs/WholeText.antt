-- What a whole text gives: a specification, and the workload behind it.
use Rattle.std.specs.Prelude.{ℕ, ◌+◌, List, Result, Ok, Err}
use Rattle.rc_work.specs.Imports.{TextPlace, Spec, Broken, Reading, spec_reading}
use Rattle.rc_work.specs.declared.also.Also.{Also}
use Rattle.rc_work.specs.declared.work.Work.{Work}
use Rattle.rc_work.specs.Ranking.{work_reading}

-- behind the specification: the line after its `end`
abbrev pub place_after : List ℕ → Reading → TextPlace
place_after text reading = record { text = text; at = reading.last.next; line = reading.last.number + 1 }

-- a specification and a workload
pub record Whole : Type 0 where
  pub spec : Spec
  pub work : Work

abbrev pub whole_by : Spec → Result Work Broken → Result Whole Broken
whole_by spec (Err broken) = Err broken
whole_by spec (Ok work) = Ok (record { spec = spec; work = work })

abbrev pub text_reading_by : Also → List ℕ → Result Reading Broken → Result Whole Broken
text_reading_by also text (Err broken) = Err broken
text_reading_by also text (Ok reading) = whole_by reading.spec (work_reading also reading.spec (place_after text reading))

-- what a text gives: a specification with the workload behind it, or the first broken line rule with its line
abbrev pub text_reading : Also → List ℕ → Result Whole Broken
text_reading also text = text_reading_by also text (spec_reading text)
