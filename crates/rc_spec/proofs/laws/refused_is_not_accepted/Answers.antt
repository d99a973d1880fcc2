use Rattle.rc_spec.specs.AcceptanceLaws.{refused_not_accepted, first_broken_item, one_first_broken}
use Rattle.rc_spec.proofs.laws.refused_is_not_accepted.Goals as goal

pub returns-clause-refuses : goal.returns-clause-refuses
returns-clause-refuses c = refused_not_accepted

pub returns-clause-known : goal.returns-clause-known
returns-clause-known c = first_broken_item

pub returns-clause-one : goal.returns-clause-one
returns-clause-one c = one_first_broken
