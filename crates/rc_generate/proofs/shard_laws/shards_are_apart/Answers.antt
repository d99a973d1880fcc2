use Rattle.rc_generate.specs.ShardLaws as laws
use Rattle.rc_generate.proofs.shard_laws.shards_are_apart.Goals as goal

pub returns : goal.returns
returns c = laws.shards_are_apart
