use Rattle.rc_work.specs.ReadingLaws.{work_means}
use Rattle.rc_work.proofs.reading_laws.first_broken_work_line.Goals as goal

pub returns : goal.returns
returns c = work_means
