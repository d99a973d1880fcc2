use Rattle.rc_audit.proofs.JudgeLemmas.{passed_begins}
use Rattle.rc_audit.proofs.laws.passed_lines_begin.Goals as goal

pub returns : goal.returns
returns c = passed_begins
