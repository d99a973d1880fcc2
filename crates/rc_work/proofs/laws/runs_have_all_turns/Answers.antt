use Rattle.rc_work.specs.RunLengthLaws as laws
use Rattle.rc_work.proofs.laws.runs_have_all_turns.Goals as goal

pub returns : goal.returns
returns c = laws.runs_have_all_turns
