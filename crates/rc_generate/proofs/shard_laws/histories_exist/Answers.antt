use Rattle.rc_generate.specs.ExistenceLaws as laws
use Rattle.rc_generate.proofs.shard_laws.histories_exist.Goals as goal

pub returns : goal.returns
returns c = laws.histories_exist
