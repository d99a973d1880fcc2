use Rattle.rc_work.specs.RunsLaws as laws
use Rattle.rc_work.proofs.laws.runs_make_turns.Goals as goal

pub returns : goal.returns
returns c = laws.runs_make_turns
