use Rattle.rc_fd.specs.FollowsLaws as laws
use Rattle.rc_fd.proofs.laws.follows_columns.Goals as goal

pub returns : goal.returns
returns c = laws.follows_columns
