use Rattle.rc_runner.specs.RoundLaws as laws
use Rattle.rc_runner.proofs.laws.a_round_goes_on.Goals as goal

pub returns : goal.returns
returns c = laws.a_round_goes_on
