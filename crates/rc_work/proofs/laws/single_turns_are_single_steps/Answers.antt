use Rattle.rc_work.specs.RunsLaws as laws
use Rattle.rc_work.proofs.laws.single_turns_are_single_steps.Goals as goal

pub returns : goal.returns
returns c = laws.single_turns_are_single_steps
