use Rattle.rc_answer.specs.CutLaws as laws
use Rattle.rc_answer.proofs.laws.cut_runs_are_refused.Goals as goal

pub returns : goal.returns
returns c = laws.cut_runs_are_refused
