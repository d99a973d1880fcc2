use Rattle.rc_audit.specs.VerdictLaws as laws
use Rattle.rc_audit.proofs.laws.one_verdict.Goals as goal

pub returns : goal.returns
returns c = laws.one_verdict
