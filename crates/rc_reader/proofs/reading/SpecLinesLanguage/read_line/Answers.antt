use Rattle.rc_reader.proofs.ReadingLemmas.{still_in_range}
use Rattle.rc_reader.proofs.reading.SpecLinesLanguage.read_line.Goals as goal

pub returns-clause-can : goal.returns-clause-can
returns-clause-can c = still_in_range c.args.self.now.version c.args.spec.now c.read_line.new.spec c.args.bytes.now c.read_line.result c.requires c.read_line.ensures
