use Rattle.rc_spec.specs.PlacementLaws.{placed_total, physical_stripe_below}
use Rattle.rc_spec.proofs.laws.stripes_are_few.Goals as goal

pub returns-clause-total : goal.returns-clause-total
returns-clause-total c = placed_total

pub returns-clause-below : goal.returns-clause-below
returns-clause-below c = physical_stripe_below
