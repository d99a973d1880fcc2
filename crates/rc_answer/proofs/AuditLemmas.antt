-- A verdict that was written.
use Rattle.std.proofs.Common.{◌≡◌, ℕ, List, [], ◌∷◌, Option, Result, refl, subst}
use Rattle.rc_answer.proofs.Imports.{IsErr, Adds, AddsPrefix, ContentLine, printed_lines, Spec, SpecWithPlans, Work, Form, Verdict, IsVerdict, IsJudgement, IsVerdictText, verdict_status, verdict_text, ArePlanned, Writes, WritesWhole, Status, Stop}
use Rattle.rc_answer.proofs.AnswerLemmas.{writes_wider}
use Rattle.rc_answer.proofs.PlanLemmas.{part_writes}

module _ (verdict : Verdict) (line : List ℕ) (old new : Option (List ℕ)) where
  -- a part of its line
  pub verdict_begun : (r : Result Status Stop) → IsErr r → printed_lines (line ∷ []) ≡ verdict_text verdict → AddsPrefix old (printed_lines (line ∷ [])) new
      → Writes (IsVerdictText verdict) old new r
  verdict_begun r stopped is part =
      part_writes (IsVerdictText verdict) old new r stopped
      (verdict_text verdict, verdict_status verdict, (refl, refl), subst (λ (t : List ℕ). AddsPrefix old t new) is part)

  -- all of it
  pub verdict_written : (status : Status) → printed_lines (line ∷ []) ≡ verdict_text verdict → status ≡ verdict_status verdict
      → Adds old (printed_lines (line ∷ [])) new → WritesWhole (IsVerdictText verdict) old new status
  verdict_written status is status_is all = (verdict_text verdict, (refl, status_is), subst (λ (t : List ℕ). Adds old t new) is all)

-- what is written of a verdict by the planned plans is the judgement
pub judgement_written : (form : Form) (accepted : Spec) (made : SpecWithPlans) (work : Work) (past_end : ℕ) (lines : List ContentLine) (verdict : Verdict)
    (old new : Option (List ℕ)) (r : Result Status Stop) → made.spec ≡ accepted → ArePlanned accepted made.plans
    → IsVerdict form made work past_end lines verdict → Writes (IsVerdictText verdict) old new r → Writes (IsJudgement form accepted work past_end lines) old new r
judgement_written form accepted made work past_end lines verdict old new r same planned is written =
    writes_wider (IsVerdictText verdict) (IsJudgement form accepted work past_end lines) old new r
    (λ text status h. record {
      plans = made.plans;
      planned = planned;
      verdict = verdict;
      is = subst (λ (s : Spec). IsVerdict form (record { spec = s; plans = made.plans }) work past_end lines verdict) same is;
      written = h;
    })
    written
