use Rattle.rc_spec.specs.AcceptanceLaws.{accepted_from_checks, checks_from_accepted}
use Rattle.rc_spec.proofs.laws.checks_are_rules.Goals as goal

pub returns : goal.returns
returns c = λ spec. (accepted_from_checks spec, checks_from_accepted spec)
