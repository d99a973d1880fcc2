use Rattle.rc_work.specs.PartReadingLaws.{part_means}
use Rattle.rc_work.proofs.reading_laws.first_broken_part_line.Goals as goal

pub returns : goal.returns
returns c = part_means
