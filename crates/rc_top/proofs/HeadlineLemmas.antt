-- A text that was read and answered has the headline.
use Rattle.std.proofs.Common.{◌≡◌, ◌↔◌, ◌≤◌, ◌^◌, ℕ, List, Option, Some, None, length, refl, sym, subst}
use Rattle.rc_top.proofs.Imports.{IfSome, IsSome, Form, Outcome, Ran, Status, Done, Bad, Usage, Refused, SourceFailed, SinkFailed, OutOfMemory, Answers, MakesCalls, also_of, audit_for, AuditHeadline, CheckHeadline, HandHeadline, Headline, OpenHeadline, audit_headline, check_headline, hand_headline, headline, open_headline, HasTextOf, WritesWhole, TextCommand, Check, Run, Group, Hand, Open, IsAnswer, Ends}
use Rattle.rc_audit.specs.declared.form.Form.TheVariants as forms
use Rattle.rc_top.proofs.EndLemmas.{IsWritten}

-- what was written is a whole text
whole : (A : List ℕ → Status → Type 0) (old new : Option (List ℕ)) (status : Status) → IsWritten status → Ends A old new status → WritesWhole A old new status
whole A old new Done written ends = ends
whole A old new Bad written ends = ends
whole A old new Usage written ends = ends
whole A old new Refused written ends = ends
whole A old new SourceFailed written ends = absurd written
whole A old new SinkFailed written ends = absurd written
whole A old new OutOfMemory written ends = absurd written

-- a judge makes no calls of a workload
no_calls : (form : Form) → MakesCalls (audit_for form) → ⊥
no_calls forms.Run calls = calls
no_calls forms.Group calls = calls
no_calls forms.Journal calls = calls

no_run : (o : Option Ran) → (IsSome o → ⊥) → o ≡ None
no_run None h = refl
no_run (Some r) h = absurd (h refl)

module _ (command : TextCommand) (input : List ℕ) (old new : Option (List ℕ)) (outcome : Outcome)
    (short : length input ≤ 2 ^ 24) (written : IsWritten outcome.status)
    (ends : Ends (IsAnswer command input) old new outcome.status) (has : IsSome outcome.ran ↔ MakesCalls command × (outcome.status ≡ Done)) where
  answers : WritesWhole (Answers command input) old new outcome.status
  answers =
      let (text, is, adds) = whole (IsAnswer command input) old new outcome.status written ends in
      (text, is.read short, adds)

  pub run_headline : command ≡ Run → IfSome outcome.ran (HasTextOf command input old new) → Headline (also_of Run) input old new outcome
  run_headline is ran =
      headline (also_of Run) input old new outcome (λ some. (has.0 some).1, λ done. has.1 (subst MakesCalls (sym is) tt, done))
      (subst (λ (k : TextCommand). IfSome outcome.ran (HasTextOf k input old new)) is ran)
      (subst (λ (k : TextCommand). WritesWhole (Answers k input) old new outcome.status) is answers)

  pub group_headline : command ≡ Group → IfSome outcome.ran (HasTextOf command input old new) → Headline (also_of Group) input old new outcome
  group_headline is ran =
      headline (also_of Group) input old new outcome (λ some. (has.0 some).1, λ done. has.1 (subst MakesCalls (sym is) tt, done))
      (subst (λ (k : TextCommand). IfSome outcome.ran (HasTextOf k input old new)) is ran)
      (subst (λ (k : TextCommand). WritesWhole (Answers k input) old new outcome.status) is answers)

  pub by_hand_headline : command ≡ Hand → IfSome outcome.ran (HasTextOf command input old new) → HandHeadline input old new outcome
  by_hand_headline is ran =
      hand_headline input old new outcome (λ some. (has.0 some).1, λ done. has.1 (subst MakesCalls (sym is) tt, done))
      (subst (λ (k : TextCommand). IfSome outcome.ran (HasTextOf k input old new)) is ran)
      (subst (λ (k : TextCommand). WritesWhole (Answers k input) old new outcome.status) is answers)

  pub opened_headline : command ≡ Open → IfSome outcome.ran (HasTextOf command input old new) → OpenHeadline input old new outcome
  opened_headline is ran =
      open_headline input old new outcome (λ some. (has.0 some).1, λ done. has.1 (subst MakesCalls (sym is) tt, done))
      (subst (λ (k : TextCommand). IfSome outcome.ran (HasTextOf k input old new)) is ran)
      (subst (λ (k : TextCommand). WritesWhole (Answers k input) old new outcome.status) is answers)

  pub checked_headline : command ≡ Check → CheckHeadline input old new outcome
  checked_headline is =
      check_headline old new outcome (no_run outcome.ran (λ some. subst MakesCalls is (has.0 some).0)) input
      (subst (λ (k : TextCommand). WritesWhole (Answers k input) old new outcome.status) is answers)

  pub judged_headline : (form : Form) → command ≡ audit_for form → AuditHeadline form input old new outcome
  judged_headline form is =
      audit_headline old new outcome (no_run outcome.ran (λ some. no_calls form (subst MakesCalls is (has.0 some).0))) form input
      (subst (λ (k : TextCommand). WritesWhole (Answers k input) old new outcome.status) is answers)
