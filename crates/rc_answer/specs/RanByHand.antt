-- What the run of a text with written plans leaves, by the parts of the text.
use Rattle.std.specs.Prelude.{◌≡◌, ℕ, List, Option, Ok}
use Rattle.rc_answer.specs.Imports.{ContentLine, TextPlace, Adds, Spec, AllKeepRules, AreChosen, HandReading, hands_reading, Hand, Work}
use Rattle.rc_answer.specs.declared.outcome.Ran.{Ran}
use Rattle.rc_answer.specs.Answers.{work_in_lines}
use Rattle.rc_answer.specs.Ran.{IsOfItsStore, IsRunBy, run_text}

-- a run of the workload that these lines give, by plans of which these are written
pub record HasChosenText (past_end : ℕ) (spec : Spec) (hands : List Hand) (lines : List ContentLine) (old new : Option (List ℕ)) (ran : Ran) : Type 0 where
  pub keep : AllKeepRules spec hands
  pub work : Work
  pub work_read : work_in_lines past_end spec lines ≡ Ok work
  pub run : IsRunBy (AreChosen spec hands) spec work ran
  pub store : IsOfItsStore ran
  pub written : Adds old (run_text work.ranks ran) new

-- a run of the plans and the workload that stand from a place on
pub record HasHandsText (past_end : ℕ) (spec : Spec) (place : TextPlace) (old new : Option (List ℕ)) (ran : Ran) : Type 0 where
  pub plans : HandReading
  pub plans_read : hands_reading spec place ≡ Ok plans
  pub text : HasChosenText past_end spec plans.hands plans.others old new ran
