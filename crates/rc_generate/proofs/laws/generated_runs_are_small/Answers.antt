use Rattle.rc_generate.specs.GeneratedLaws as laws
use Rattle.rc_generate.proofs.laws.generated_runs_are_small.Goals as goal

pub returns : goal.returns
returns c = laws.generated_runs_are_small
