use Rattle.std.proofs.Common.{ap, sym, ◌∙◌}
use Rattle.std.specs.List.{flat_map}
use Rattle.rc_spec.specs.RowListsLaws.{rows_joined}
use Rattle.rc_spec.proofs.row_list.RowList.values.Goals as goal

pub returns : goal.returns
returns c =
    c.as_slice.ensures
    ∙ sym (rows_joined 0 c.self.inside.ends c.self.inside.values.items c.self.invariant)
    ∙ ap (flat_map (λ row. row)) c.self.view_is
