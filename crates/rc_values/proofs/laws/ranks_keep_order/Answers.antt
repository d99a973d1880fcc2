use Rattle.rc_values.specs.RanksLaws.{below-rank_of, same-rank_of}
use Rattle.rc_values.proofs.laws.ranks_keep_order.Goals as goal

pub returns : goal.returns
returns c = record { order = below-rank_of; same = same-rank_of }
