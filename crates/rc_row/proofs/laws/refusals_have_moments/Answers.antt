use Rattle.rc_row.specs.ShownLaws.{refusals_have_their_moments}
use Rattle.rc_row.proofs.laws.refusals_have_moments.Goals as goal

pub returns : goal.returns
returns c = refusals_have_their_moments
