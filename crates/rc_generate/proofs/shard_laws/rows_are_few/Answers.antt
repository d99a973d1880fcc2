use Rattle.rc_generate.specs.SummaryLaws as laws
use Rattle.rc_generate.proofs.shard_laws.rows_are_few.Goals as goal

pub returns : goal.returns
returns c = laws.rows_are_few
