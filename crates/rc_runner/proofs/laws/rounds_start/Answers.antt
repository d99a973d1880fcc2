use Rattle.rc_runner.specs.RoundLaws as laws
use Rattle.rc_runner.proofs.laws.rounds_start.Goals as goal

pub returns : goal.returns
returns c = laws.rounds_start
