use Rattle.rc_fd.specs.ClosedLaws as laws
use Rattle.rc_fd.proofs.laws.follows_closed.Goals as goal

pub returns : goal.returns
returns c = laws.follows_closed
