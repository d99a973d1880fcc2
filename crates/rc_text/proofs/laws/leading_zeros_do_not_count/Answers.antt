use Rattle.rc_text.specs.NumbersLaws.{u64_of-zero}
use Rattle.rc_text.proofs.laws.leading_zeros_do_not_count.Goals as goal

pub returns : goal.returns
returns c = u64_of-zero
