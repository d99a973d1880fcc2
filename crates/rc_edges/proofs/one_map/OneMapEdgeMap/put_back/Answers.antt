use Rattle.std.proofs.Common.{◌≡◌, [], ap, subst, ◌∙◌}
use Rattle.std.specs.FinMap as fin
use Rattle.rc_edges.proofs.Imports.{Values, Counted, HasAsMany, rows_in, get_none, rows_at, Inside, alone, in_list, in_place, no_place, own_kept, own_get, set_own}
use Rattle.rc_edges.proofs.one_map.OneMapEdgeMap.put_back.Goals as goal
use Rattle.rc_edges.proofs.one_map.OneMapEdgeMap.put_back.Goals.{in-Several, in-One+in-Some}

pub unreachable-requires : goal.unreachable-requires
unreachable-requires c =
    let none = no_place c.args.self.now c.self.inside.place c.in-One.one c.self.view_is c.in-One.is c.in_default.is in
    subst (λ o. HasAsMany o c.args.extra.now) (get_none c.args.self.now c.args.key.now [] 0 none tt tt) c.requires

pub put_back-requires-in-One : goal.put_back-requires-in-One
put_back-requires-in-One c =
    let m = c.args.self.now in
    let i : Values × Counted = (c.in-Some.field-0-0, c.in-Some.entry) in
    let all : rows_in (alone i) ≡ m = in_place m c.self.inside.place c.in-One.one i c.self.view_is c.in-One.is c.in-Some.is in
    subst (λ o. HasAsMany o c.args.extra.now)
    (own_get m i all c.args.key.now (own_kept m i all c.args.key.now c.args.extra.now c.requires)) c.requires

pub returns-clause-now : goal.returns-clause-now
returns-clause-now c =
    let m = c.args.self.now in
    let key : Values = c.args.key.now in
    elim c.match-self.branch [
      | in-Several w ↦
          ap (λ (z : Inside). rows_at z.place) w.self-inside-is ∙ w.put_back.ensures.now
          ∙ ap (λ z. fin.insert z key (c.args.extra.now, c.args.count))
          (in_list m c.self.inside.place w.in-Several.list c.self.view_is w.in-Several.is)
      | in-One+in-Some w ↦
          let i : Values × Counted = (w.in-Some.field-0-0, w.in-Some.entry) in
          let all : rows_in (alone i) ≡ m = in_place m c.self.inside.place w.in-One.one i c.self.view_is w.in-One.is w.in-Some.is in
          ap (λ (z : Inside). rows_at z.place) w.self-inside-is
          ∙ set_own m i all key w.put_back-in-One.new.self (own_kept m i all key c.args.extra.now c.requires)
          ∙ ap (fin.insert m key) w.put_back-in-One.ensures
    ]
