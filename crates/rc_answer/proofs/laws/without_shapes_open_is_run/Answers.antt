use Rattle.rc_answer.specs.OpenLaws as laws
use Rattle.rc_answer.proofs.laws.without_shapes_open_is_run.Goals as goal

pub returns : goal.returns
returns c = laws.without_shapes_open_is_run
