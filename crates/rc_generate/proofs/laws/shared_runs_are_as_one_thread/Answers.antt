use Rattle.rc_generate.specs.SharedRunsLaws as laws
use Rattle.rc_generate.proofs.laws.shared_runs_are_as_one_thread.Goals as goal

pub returns : goal.returns
returns c = record { steps = laws.shared_runs_are_as_one_thread; replies = laws.shared_runs_have_same_replies }
