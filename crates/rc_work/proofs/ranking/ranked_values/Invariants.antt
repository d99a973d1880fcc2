use Rattle.std.proofs.Common.{◌≡◌, map, take}
use Rattle.rc_work.specs.Ranking.{ranked_value}
use Rattle.rc_work.proofs.ranking.ranked_values.Given as goal

abbrev pub invariant-loop-value : goal.invariant-loop-value
invariant-loop-value l = l.vals.items ≡ map (ranked_value l.ranks) (take l.value-index l.values)
