use Rattle.rc_runner.specs.CloseLaws as laws
use Rattle.rc_runner.proofs.laws.rounds_run.Goals as goal

pub returns : goal.returns
returns c = laws.rounds_run
