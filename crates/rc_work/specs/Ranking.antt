-- The workload that a draft gives: a text is its rank among the texts of the whole workload.
use Rattle.std.specs.Prelude.{ℕ, List, [], ◌∷◌, map, unwrap_or, Result, Ok, Err}
use Rattle.rc_work.specs.Imports.{flat_map, TextPlace, content_from, past_end_of, Call, Spec, texts_of, rank_of, Broken}
use Rattle.rc_work.specs.declared.raw.RawValue.{RawValue}
use Rattle.rc_work.specs.declared.raw.RawValue.TheVariants as raw
use Rattle.rc_work.specs.declared.also.Also.{Also}
use Rattle.rc_work.specs.declared.raw.RawCall.{RawCall}
use Rattle.rc_work.specs.declared.raw.RawTurn.{RawTurn}
use Rattle.rc_work.specs.declared.draft.Draft.{Draft}
use Rattle.rc_work.specs.declared.work.Turn.{Turn}
use Rattle.rc_work.specs.declared.work.Work.{Work}
use Rattle.rc_work.specs.CallColumns.{call_of}
use Rattle.rc_work.specs.WorkGrammar.{reading_all}

abbrev pub texts_in_value : RawValue → List (List ℕ)
texts_in_value (raw.Number number) = []
texts_in_value (raw.Text text) = text ∷ []

abbrev pub texts_in_call : RawCall → List (List ℕ)
texts_in_call call = flat_map texts_in_value call.values

abbrev pub texts_in_turn : RawTurn → List (List ℕ)
texts_in_turn turn = flat_map texts_in_call turn.calls

abbrev pub texts_in_round : List RawTurn → List (List ℕ)
texts_in_round round = flat_map texts_in_turn round

-- the texts of all values, in written order
abbrev pub texts_in : List (List RawTurn) → List (List ℕ)
texts_in rounds = flat_map texts_in_round rounds

-- a number, or the rank of a text among the texts
abbrev pub ranked_value : List (List ℕ) → RawValue → ℕ
ranked_value texts (raw.Number number) = number
ranked_value texts (raw.Text text) = unwrap_or (rank_of texts text) 0

abbrev pub ranked_call : Spec → List (List ℕ) → RawCall → Call
ranked_call spec texts call = call_of spec call.op (map (ranked_value texts) call.values)

abbrev pub ranked_turn : Spec → List (List ℕ) → RawTurn → Turn
ranked_turn spec texts turn = record { thread = turn.thread; calls = map (ranked_call spec texts) turn.calls }

abbrev pub ranked_round : Spec → List (List ℕ) → List RawTurn → List Turn
ranked_round spec texts round = map (ranked_turn spec texts) round

abbrev pub ranked_rounds : Spec → List (List ℕ) → List (List RawTurn) → List (List Turn)
ranked_rounds spec texts rounds = map (ranked_round spec texts) rounds

abbrev pub work_with : Spec → List (List ℕ) → Draft → Work
work_with spec texts draft = record { threads = draft.threads; rounds = ranked_rounds spec texts draft.rounds; ranks = texts }

-- the workload of a draft
abbrev pub work_of : Spec → Draft → Work
work_of spec draft = work_with spec (texts_of (texts_in draft.rounds)) draft

abbrev pub work_by : Spec → Result Draft Broken → Result Work Broken
work_by spec (Ok draft) = Ok (work_of spec draft)
work_by spec (Err broken) = Err broken

-- The workload that the content lines from a place on give, behind a specification; or the first broken line rule with
-- its line.
abbrev pub work_reading : Also → Spec → TextPlace → Result Work Broken
work_reading also spec place = work_by spec (reading_all also (past_end_of place.text) spec (content_from place))
