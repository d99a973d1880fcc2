use Rattle.rc_work.proofs.Imports.{sym, length-parts}
use Rattle.rc_work.proofs.report.Report.part_count.Goals as goal

pub returns : goal.returns
returns c = sym (length-parts c.args.self.now.spec.now c.args.self.now.ranks.now c.args.self.now.entries.now c.args.self.now.rows.now)
