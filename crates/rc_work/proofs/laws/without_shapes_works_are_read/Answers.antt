use Rattle.rc_work.specs.OpenRunLaws as laws
use Rattle.rc_work.proofs.laws.without_shapes_works_are_read.Goals as goal

pub returns : goal.returns
returns c = laws.without_shapes_works_are_read
