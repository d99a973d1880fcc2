-- What is written of a text with plans that are written for operations, and what its run leaves.
use Rattle.std.proofs.Common.{◌≡◌, ◌<◌, ℕ, inl, List, ◌∷◌, Option, Some, None, Result, Ok, Err, length, refl, subst, sym}
use Rattle.rc_answer.proofs.Imports.{IfOk, IfSome, In, append_in_right, ContentLine, TextPlace, content_from, past_end_of, Adds, IsAccepted, Spec, SpecWithPlans, HasReadPlans, AllKeepRules, AreChosen, IsRefusedFor, HandReading, hands_reading, AreHands, HandFault, Hand, IsRead, ReadsAs, rest_place, Broken, Reading, spec_reading, Rest, ReadRefusal, Nothing, Work, work_reading, AnswersByHand, AnswersChosen, AnswersHands, AnswersWorkBy, IsReportBy, work_in_lines, IsOfItsStore, IsRunBy, run_text, HasChosenText, report_by, IsOfAnOperation, WritesRefusal, Writes, Outcome, Ran, Status, Stop}
use Rattle.rc_handplan.specs.HandGrammar as hand_lines
use Rattle.rc_handplan.specs.declared.compiling.HandFault.TheVariants as plan_faults
use Rattle.rc_reader.specs.declared.refusal.ReadRefusal.TheVariants as refusals
use Rattle.rc_answer.proofs.AnswerLemmas.{read_place, writes_wider}
use Rattle.rc_answer.proofs.RanLemmas.{ran_by}

-- what holds of each run that there may be
pub each_ran : (P Q : Ran → Type 0) (o : Result Outcome Stop) → ((ran : Ran) → P ran → Q ran) → IfOk o (λ x. IfSome x.ran P) → IfOk o (λ x. IfSome x.ran Q)
each_ran P Q (Err stop) wider held = tt
each_ran P Q (Ok outcome) wider held = go outcome.ran held
  where
    go : (ran : Option Ran) → IfSome ran P → IfSome ran Q
    go None held = tt
    go (Some ran) held = wider ran held

-- the refused plan is that of an operation
pub of_operations : (spec : Spec) (hands : List Hand) (fault : HandFault) → AreHands spec hands → IsRefusedFor spec hands fault → IsOfAnOperation fault
of_operations spec hands plan_faults.Memory are refused = tt
of_operations spec hands (plan_faults.Refused accepted op refusal) are (same, first) =
    let there : In first.hand hands =
    subst (In first.hand) (sym first.whole) (append_in_right first.hand first.front (first.hand ∷ first.others) (inl refl)) in
    subst (λ (s : Spec). op < length s.ops) (sym same) (subst (λ (n : ℕ). n < length spec.ops) first.op_is (are.ops first.hand there))

-- ---- behind the plans

module _ (accepted here : Spec) (hands : List Hand) (made : SpecWithPlans) (work : Work) (text : List ℕ) (behind : Rest) (same : made.spec ≡ accepted)
    (chosen : AreChosen accepted hands made.plans) (keep : AllKeepRules accepted hands) (here_is : here ≡ accepted)
    (read : work_reading Nothing here (rest_place text behind) ≡ Ok work) where
  work_read : work_in_lines (past_end_of text) accepted (content_from (rest_place text behind)) ≡ Ok work
  work_read = subst (λ (s : Spec). work_reading Nothing s (rest_place text behind) ≡ Ok work) here_is read

  -- the report of a run by the plans answers the workload
  pub chosen_answers : (old new : Option (List ℕ)) (r : Result Status Stop) → Writes (IsReportBy (λ plans. plans ≡ made.plans) made.spec work) old new r
      → Writes (AnswersChosen (past_end_of text) accepted hands (content_from (rest_place text behind))) old new r
  chosen_answers old new r written =
      writes_wider (IsReportBy (λ plans. plans ≡ made.plans) made.spec work) (AnswersChosen (past_end_of text) accepted hands (content_from (rest_place text behind))) old new r
      (λ out status is. inl (
        keep,
        subst (λ (found : Result Work Broken). AnswersWorkBy (AreChosen accepted hands) accepted found out status) (sym work_read)
            (report_by (λ plans. plans ≡ made.plans) (AreChosen accepted hands) made.spec accepted work out status same
            (λ plans e. subst (AreChosen accepted hands) (sym e) chosen) is),
      ))
      written

  -- and the run is one of the workload by these plans
  pub chosen_text : (old new : Option (List ℕ)) (r : Result Ran Stop) → IfOk r (IsRunBy (λ plans. plans ≡ made.plans) made.spec work) → IfOk r IsOfItsStore
      → IfOk r (λ ran. Adds old (run_text work.ranks ran) new)
      → IfOk r (HasChosenText (past_end_of text) accepted hands (content_from (rest_place text behind)) old new)
  chosen_text old new (Err stop) run store written = tt
  chosen_text old new (Ok ran) run store written = record {
    keep = keep;
    work = work;
    work_read = work_read;
    run = ran_by (AreChosen accepted hands) accepted made work same chosen ran run;
    store = store;
    written = written;
  }

-- ---- the plans

module _ (spec : Spec) (text : List ℕ) (rest behind : Rest) (hands : List Hand) (h : HasReadPlans text rest hands behind (hands_reading spec (rest_place text rest))) where
  pub hands_answers : (old new : Option (List ℕ)) (r : Result Status Stop)
      → Writes (AnswersChosen (past_end_of text) spec hands (content_from (rest_place text behind))) old new r
      → Writes (AnswersHands (past_end_of text) spec (hands_reading spec (rest_place text rest))) old new r
  hands_answers old new r written =
      subst (λ (found : Result HandReading hand_lines.Broken). Writes (AnswersHands (past_end_of text) spec found) old new r) (sym h.gives_it)
      (subst (λ (z : List Hand × List ContentLine). Writes (AnswersChosen (past_end_of text) spec z.0 z.1) old new r) (λ i. (sym h.hands_are i, h.others i)) written)

-- ---- the specification

module _ (input : List ℕ) (reading : Reading) (spec : Spec) (rest : Rest) (read : spec_reading input ≡ Ok reading) (is : IsRead input spec rest reading) (accepted : IsAccepted spec) where
  -- what is written of the plans and the workload behind an accepted specification is what may be written of all
  pub by_hand_answers : (old new : Option (List ℕ)) (r : Result Status Stop)
      → Writes (AnswersHands (past_end_of input) spec (hands_reading spec (rest_place input rest))) old new r
      → Writes (AnswersByHand input (spec_reading input)) old new r
  by_hand_answers old new r written =
      writes_wider (AnswersHands (past_end_of input) spec (hands_reading spec (rest_place input rest))) (AnswersByHand input (spec_reading input)) old new r
      (λ out status h. subst (λ (found : Result Reading Broken). AnswersByHand input found out status) (sym read)
      (inl (
        subst (λ (s : Spec). IsAccepted s) (sym is.value) accepted,
        subst (λ (z : Spec × TextPlace). AnswersHands (past_end_of input) z.0 (hands_reading z.0 z.1) out status)
            (λ i. (sym is.value i, sym (read_place input reading spec rest is) i)) h,
      )))
      written

-- the refusal of a specification is that of `hand`
pub hand_refusal_answers : (input : List ℕ) (refusal : ReadRefusal) (old new : Option (List ℕ)) (r : Result Status Stop)
    → ReadsAs (Err refusal) (spec_reading input) → WritesRefusal old new refusal r → Writes (AnswersByHand input (spec_reading input)) old new r
hand_refusal_answers input refusals.Memory old new r made (is_memory, same) =
    subst (Writes (AnswersByHand input (spec_reading input)) old new) (sym is_memory) (inl same)
hand_refusal_answers input (refusals.Line rule line) old new r made written =
    subst (λ (read : Result Reading Broken). Writes (AnswersByHand input read) old new r) (sym made) written
