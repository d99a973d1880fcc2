use Rattle.rc_generate.specs.ShardLaws as laws
use Rattle.rc_generate.proofs.shard_laws.same_in_every_schedule.Goals as goal

pub returns : goal.returns
returns c = laws.same_in_every_schedule
