use Rattle.rc_generate.specs.SummaryLaws as laws
use Rattle.rc_generate.proofs.shard_laws.summaries_are_one_threads.Goals as goal

pub returns : goal.returns
returns c = laws.summaries_are_one_threads
