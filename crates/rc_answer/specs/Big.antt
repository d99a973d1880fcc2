-- What a generated workload may have written, and what its run leaves.
use Rattle.std.specs.Prelude.{◌≡◌, ℕ, List, Option}
use Rattle.rc_answer.specs.Imports.{Adds, one_thread_summary, summary, generated, generated_calls, sample_graph, summary_text}
use Rattle.rc_answer.specs.declared.outcome.Ran.{Ran}
use Rattle.rc_answer.specs.declared.status.Status.{Status}
use Rattle.rc_answer.specs.declared.status.Status.TheVariants.{Done}
use Rattle.rc_answer.specs.Ran.{IsOfItsStore, IsRunOf, entries_in}

-- the summary of the generated calls, made by one thread in order
unfoldable pub big_text : ℕ → ℕ → List ℕ
big_text seed calls = summary_text (one_thread_summary sample_graph (generated_calls seed calls))

-- whatever the schedule is, this text and no other
abbrev pub IsBigText : ℕ → ℕ → List ℕ → Status → Type 0
IsBigText seed calls text status = (text ≡ big_text seed calls) × (status ≡ Done)

-- the summary of the journal and of the rows that a run left
unfoldable pub ran_text : Ran → List ℕ
ran_text ran = summary_text (summary (entries_in ran.closed.journal) ran.last)

-- a run of the generated workload was made, and the summary of its own journal and rows was written
pub record HasSummaryText (seed calls : ℕ) (old new : Option (List ℕ)) (ran : Ran) : Type 0 where
  pub run : IsRunOf sample_graph (generated seed calls) ran
  pub store : IsOfItsStore ran
  pub written : Adds old (ran_text ran) new
