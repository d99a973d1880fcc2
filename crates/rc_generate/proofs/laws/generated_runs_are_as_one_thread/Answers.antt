use Rattle.rc_generate.specs.GeneratedLaws as laws
use Rattle.rc_generate.proofs.laws.generated_runs_are_as_one_thread.Goals as goal

pub returns : goal.returns
returns c = record {
  steps = laws.generated_as_one_thread;
  summary = laws.generated_summary_is_one_threads;
  replies = laws.generated_replies_are_the_same;
}
