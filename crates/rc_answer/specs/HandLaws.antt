-- What `hand` answers to a text without plans.
use Rattle.std.proofs.Common.{◌≡◌, ◌↔◌, ℕ, List, [], ◌∷◌, ◌++◌, Result, Ok, Err, inl, inr, refl, sym, subst}
use Rattle.rc_answer.specs.Imports.{content_from, past_end_of, Spec, AreChosen, BeginNoPlan, nothing_is_read, HandReading, hands_reading, Hand, Broken, Reading, spec_reading, Nothing, Work, work_reading, place_after}
use Rattle.rc_handplan.specs.HandGrammar as hand_lines
use Rattle.rc_handplan.specs.declared.starts.Closing.TheVariants as closings
use Rattle.rc_command.specs.declared.command.TextCommand.TheVariants as commands
use Rattle.rc_answer.specs.declared.status.Status.{Status}
use Rattle.rc_answer.specs.Answers.{Answers, AnswersByHand, AnswersHands, AnswersRules, AnswersRun, AnswersWork, AnswersWorkBy}
use Rattle.rc_answer.specs.Plans.{ArePlanned}
use Rattle.rc_answer.specs.RanLaws.{report_by}

-- the first content line behind a specification begins no plan, if there is one
abbrev pub HasNoPlans : List ℕ → Result Reading Broken → Type 0
HasNoPlans input (Err broken) = Unit {0}
HasNoPlans input (Ok reading) = BeginNoPlan (content_from (place_after input reading))

-- of a text without plans `hand` writes what `run` may write, and nothing else
abbrev pub WithoutPlansHandIsRun : Type 0
WithoutPlansHandIsRun = (input : List ℕ) → HasNoPlans input (spec_reading input) → (text : List ℕ) (status : Status)
    → Answers commands.Hand input text status ↔ Answers commands.Run input text status

none_refused : (front others : List Hand) (hand : Hand) → [] ≡ front ++ hand ∷ others → ⊥
none_refused [] others hand e = absurd cc
none_refused (first ∷ front) others hand e = absurd cc

module _ (spec : Spec) (text : List ℕ) (status : Status) where
  to_planned : (found : Result Work Broken) → AnswersWorkBy (AreChosen spec []) spec found text status → AnswersWork spec found text status
  to_planned (Err broken) is = is
  to_planned (Ok work) is =
      report_by (AreChosen spec []) (ArePlanned spec) spec spec work text status refl (λ plans chosen. record { count = chosen.count; each = chosen.each }) is

  to_chosen : (found : Result Work Broken) → AnswersWork spec found text status → AnswersWorkBy (AreChosen spec []) spec found text status
  to_chosen (Err broken) is = is
  to_chosen (Ok work) is =
      report_by (ArePlanned spec) (AreChosen spec []) spec spec work text status refl (λ plans planned. record { count = planned.count; each = planned.each }) is

  rules_wider : (A B : List ℕ → Status → Type 0) → (A text status → B text status) → AnswersRules spec A text status → AnswersRules spec B text status
  rules_wider A B wider (inl (accepted, is)) = inl (accepted, wider is)
  rules_wider A B wider (inr refused) = inr refused

module _ (input : List ℕ) (text : List ℕ) (status : Status) where
  abbrev none : Reading → HandReading
  none reading = record { hands = []; others = content_from (place_after input reading) }

  nothing_read : (reading : Reading) → BeginNoPlan (content_from (place_after input reading))
      → hands_reading reading.spec (place_after input reading) ≡ Ok (none reading)
  nothing_read reading begins = nothing_is_read closings.Work reading.spec (place_after input reading) begins

  of_none : (reading : Reading) → AnswersHands (past_end_of input) reading.spec (Ok (none reading)) text status
      → AnswersWork reading.spec (work_reading Nothing reading.spec (place_after input reading)) text status
  of_none reading (inl (keep, is)) = to_planned reading.spec text status (work_reading Nothing reading.spec (place_after input reading)) is
  of_none reading (inr (op, refusal, first, is)) = absurd (none_refused first.front first.others first.hand first.whole)

  to_none : (reading : Reading) → AnswersWork reading.spec (work_reading Nothing reading.spec (place_after input reading)) text status
      → AnswersHands (past_end_of input) reading.spec (Ok (none reading)) text status
  to_none reading is =
      inl ((λ hand m. absurd m), to_chosen reading.spec text status (work_reading Nothing reading.spec (place_after input reading)) is)

  by_reading : (found : Result Reading Broken) → HasNoPlans input found → AnswersByHand input found text status ↔ AnswersRun Nothing input found text status
  by_reading (Err broken) begins = (λ is. is, λ is. is)
  by_reading (Ok reading) begins =
      let read = nothing_read reading begins in
      let place = place_after input reading in (
        rules_wider reading.spec text status (AnswersHands (past_end_of input) reading.spec (hands_reading reading.spec place))
            (AnswersWork reading.spec (work_reading Nothing reading.spec place))
            (λ is. of_none reading
            (subst (λ (r : Result HandReading hand_lines.Broken). AnswersHands (past_end_of input) reading.spec r text status) read is)),
        rules_wider reading.spec text status (AnswersWork reading.spec (work_reading Nothing reading.spec place))
            (AnswersHands (past_end_of input) reading.spec (hands_reading reading.spec place))
            (λ is. subst (λ (r : Result HandReading hand_lines.Broken). AnswersHands (past_end_of input) reading.spec r text status) (sym read)
            (to_none reading is)),
      )

pub without_plans_hand_is_run : WithoutPlansHandIsRun
without_plans_hand_is_run input begins text status = by_reading input text status (spec_reading input) begins
