use Rattle.rc_work.specs.ShapesGrammarLaws.{shapes_mean}
use Rattle.rc_work.proofs.reading_laws.first_broken_shape_line.Goals as goal

pub returns : goal.returns
returns c = shapes_mean
