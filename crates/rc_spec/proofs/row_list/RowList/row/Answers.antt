use Rattle.std.proofs.Common.{◌<◌, ◌-◌, [], get_or, length, take, drop, sym, ap, ◌∙◌, arith}
use Rattle.rc_spec.specs.RowListsLaws.{end_within, ends_rise, length-rows_from, row_at}
use Rattle.rc_spec.proofs.row_list.RowList.row.Goals as goal
use Rattle.rc_spec.proofs.row_list.RowList.row.Goals.{After-self}

below : (c : After-self) → c.args.at < length c.self.inside.ends
below c =
    let few = ap length c.self.view_is in
    let count = length-rows_from 0 c.self.inside.ends c.self.inside.values.items in
    let l = c.requires in
    omega (arith, few, count, l)

pub start_of-requires : goal.start_of-requires
start_of-requires c =
    let l = below (goal.at.start_of-requires c).After-self in
    omega (arith, l)

pub end_of-requires : goal.end_of-requires
end_of-requires c = below (goal.at.end_of-requires c).After-self

pub part-requires-clause-order : goal.part-requires-clause-order
part-requires-clause-order c =
    let rise = ends_rise 0 c.self.inside.ends (length c.self.inside.values.items) c.args.at c.self.invariant (below (goal.at.part-requires-clause-order c).After-self) in
    let s = c.start_of.ensures in
    let e = c.end_of.ensures in
    omega (arith, rise, s, e)

pub part-requires-clause-within : goal.part-requires-clause-within
part-requires-clause-within c =
    let within = end_within 0 c.self.inside.ends (length c.self.inside.values.items) c.args.at c.self.invariant (below (goal.at.part-requires-clause-within c).After-self) in
    let len = ap length c.as_slice.ensures in
    let e = c.end_of.ensures in
    omega (arith, within, len, e)

pub returns : goal.returns
returns c =
    c.part.ensures
    ∙ ap (λ l. take (c.end_of.result - c.start_of.result) (drop c.start_of.result l)) c.as_slice.ensures
    ∙ ap (λ n. take (n - c.start_of.result) (drop c.start_of.result c.self.inside.values.items)) c.end_of.ensures
    ∙ ap (λ n. take (get_or c.self.inside.ends c.args.at 0 - n) (drop n c.self.inside.values.items)) c.start_of.ensures
    ∙ sym (row_at 0 c.self.inside.ends c.self.inside.values.items c.args.at (below (goal.at.returns c).After-self))
    ∙ ap (λ rows. get_or rows c.args.at []) c.self.view_is
