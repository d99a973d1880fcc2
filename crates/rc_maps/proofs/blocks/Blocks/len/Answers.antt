use Rattle.std.proofs.Common.{of_calls, rules, sym, tests, ◌∙◌}
use Rattle.rc_maps.proofs.Imports.{YieldsList-from_map, YieldsList-from_slice, YieldsList-at, fits_by_from_yields_list, sum_by_from_yields_List, len_all, len_sum, row_count, rows_fit}
use Rattle.rc_maps.proofs.blocks.Blocks.len.Goals as goal

pub sum-requires : goal.sum-requires
sum-requires g c =
    let blocks = c.self.inside.blocks.items in
    record {
      can = search of_calls;
      finite = search of_calls;
      fits =
          fits_by_from_yields_list row_count blocks c.map.result _
          (YieldsList-from_map _ row_count (YieldsList-at c.map.ensures.source (YieldsList-from_slice blocks (c.iter.ensures.rest ∙ c.deref.ensures.value))) c.map.ensures.closure (λ x r q k. search (rules, tests)))
          (rows_fit blocks c.self.invariant);
    }

pub returns : goal.returns
returns g c =
    let blocks = c.self.inside.blocks.items in
    sum_by_from_yields_List row_count blocks c.map.result c.sum.result c.sum.ensures.ran
    (YieldsList-from_map _ row_count (YieldsList-at c.map.ensures.source (YieldsList-from_slice blocks (c.iter.ensures.rest ∙ c.deref.ensures.value))) c.map.ensures.closure (λ x r q k. search (rules, tests)))
    ∙ sym (len_all blocks c.args.self.now c.self.view_is c.self.invariant.keyed ∙ len_sum blocks)
