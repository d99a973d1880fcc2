use Rattle.rc_maps.proofs.Imports.{rules, IsPartitionPoint-from_clause, begins_by, begun_before_first, behind_first, own_place, place_within}
use Rattle.rc_maps.proofs.blocks.place.Goals as goal

pub returns-clause-own : goal.returns-clause-own
returns-clause-own g c =
    let key = c.args.key.now in
    let blocks = c.args.blocks.now in
    own_place key blocks c.partition_point.result c.requires c.partition_point.ensures.bound
    (IsPartitionPoint-from_clause (λ b. begins_by b key) (behind_first blocks) c.partition_point.result c.partition_point.ensures.partitioned
    (begun_before_first key blocks c.requires) (λ a r q k. search rules))

pub returns-clause-within : goal.returns-clause-within
returns-clause-within g c = place_within c.args.blocks.now c.partition_point.result c.requires c.partition_point.ensures.bound
