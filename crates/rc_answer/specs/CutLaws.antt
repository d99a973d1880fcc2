-- What `run` and `group` answer to a text that is cut.
use Rattle.std.proofs.Common.{◌≡◌, ℕ, ◌≤◌, List, Result, Ok, Err, inl, inr, take}
use Rattle.rc_answer.specs.Imports.{Spec, Broken, Reading, spec_reading, Also, Work, IsLastLetter, cut_texts_are_refused, work_reading, Whole, place_after, text_reading, text_reading_by, whole_by, TextCommand, Check, Plan, Run, Group, Audit, AuditGroup, AuditGroup, AuditJournal, Open, Dot, DotPlan}
use Rattle.rc_command.specs.declared.command.TextCommand.TheVariants.{Hand}
use Rattle.rc_answer.specs.declared.status.Status.{Status}
use Rattle.rc_answer.specs.declared.status.Status.TheVariants.{Refused}
use Rattle.rc_answer.specs.Answers.{Answers, AnswersRules, AnswersRun, AnswersWork, also_of}

-- a text that gives no specification with a workload is refused
module _ (also : Also) (text out : List ℕ) (status : Status) (broken : Broken) where
  no_work : (spec : Spec) (reading : Result Work Broken) → whole_by spec reading ≡ Err broken → AnswersRules spec (AnswersWork spec reading) out status → status ≡ Refused
  no_work spec (Ok work) e is = absurd cc
  no_work spec (Err other) e (inl (accepted, refusal)) = refusal.1
  no_work spec (Err other) e (inr (refusal, first, is)) = is.1

  no_text : (reading : Result Reading Broken) → text_reading_by also text reading ≡ Err broken → AnswersRun also text reading out status → status ≡ Refused
  no_text (Err other) e is = is.1
  no_text (Ok reading) e is = no_work reading.spec (work_reading also reading.spec (place_after text reading)) e is

cut_is_refused : (also : Also) (text : List ℕ) (whole : Whole) (at n : ℕ) → text_reading also text ≡ Ok whole → IsLastLetter text at → n ≤ at
    → (out : List ℕ) (status : Status) → AnswersRun also (take n text) (spec_reading (take n text)) out status → status ≡ Refused
cut_is_refused also text whole at n is letter before out status answers =
    let refused = cut_texts_are_refused also text whole at n is letter before in
    no_text also (take n text) out status refused.0 (spec_reading (take n text)) refused.1 answers

-- it makes the calls of a workload that stands directly behind the specification
abbrev pub HasWorkBehind : TextCommand → Type 0
HasWorkBehind Check = ⊥
HasWorkBehind Plan = ⊥
HasWorkBehind Run = Unit {0}
HasWorkBehind Group = Unit {0}
HasWorkBehind Audit = ⊥
HasWorkBehind AuditGroup = ⊥
HasWorkBehind AuditJournal = ⊥
HasWorkBehind Hand = ⊥
HasWorkBehind Open = ⊥
HasWorkBehind Dot = ⊥
HasWorkBehind (DotPlan op) = ⊥

-- Where a text gives a specification and a workload, `run` or `group`, whichever reads it so, refuses each prefix of it that ends
-- before the `d` of its last content line.
abbrev pub CutRunsAreRefused : Type 0
CutRunsAreRefused = (command : TextCommand) → HasWorkBehind command
    → (text : List ℕ) (whole : Whole) (at n : ℕ) → text_reading (also_of command) text ≡ Ok whole → IsLastLetter text at → n ≤ at
    → (out : List ℕ) (status : Status) → Answers command (take n text) out status → status ≡ Refused

pub cut_runs_are_refused : CutRunsAreRefused
cut_runs_are_refused Check calls text whole at n is letter before out status answers = absurd calls
cut_runs_are_refused Plan calls text whole at n is letter before out status answers = absurd calls
cut_runs_are_refused Run calls text whole at n is letter before out status answers = cut_is_refused (also_of Run) text whole at n is letter before out status answers
cut_runs_are_refused Group calls text whole at n is letter before out status answers = cut_is_refused (also_of Group) text whole at n is letter before out status answers
cut_runs_are_refused Audit calls text whole at n is letter before out status answers = absurd calls
cut_runs_are_refused AuditGroup calls text whole at n is letter before out status answers = absurd calls
cut_runs_are_refused AuditJournal calls text whole at n is letter before out status answers = absurd calls
cut_runs_are_refused Hand calls text whole at n is letter before out status answers = absurd calls
cut_runs_are_refused Open calls text whole at n is letter before out status answers = absurd calls
cut_runs_are_refused Dot calls text whole at n is letter before out status answers = absurd calls
cut_runs_are_refused (DotPlan op) calls text whole at n is letter before out status answers = absurd calls
