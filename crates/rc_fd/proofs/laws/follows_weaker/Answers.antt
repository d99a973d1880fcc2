use Rattle.rc_fd.specs.FollowsLaws as laws
use Rattle.rc_fd.proofs.laws.follows_weaker.Goals as goal

pub returns : goal.returns
returns c = laws.follows_weaker
