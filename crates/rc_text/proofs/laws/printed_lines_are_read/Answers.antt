use Rattle.rc_text.specs.LinesLaws.{content-printed}
use Rattle.rc_text.proofs.laws.printed_lines_are_read.Goals as goal

pub returns : goal.returns
returns c = content-printed 0 1
