use Rattle.rc_generate.specs.SummaryLaws as laws
use Rattle.rc_generate.proofs.shard_laws.summaries_add_up.Goals as goal

pub returns : goal.returns
returns c = laws.summaries_add_up
