use Rattle.std.proofs.Common.{[], sym, ap, ◌∙◌}
use Rattle.rc_edges.proofs.Imports.{Values, Counted, get_none, swept_filled, swept_none, rows_at, Inside, in_place, no_place, is_own, is_other, own_get, other_none, swept_own}
use Rattle.rc_edges.proofs.one_map.OneMapEdgeMap.sweep.Goals as goal
use Rattle.rc_edges.proofs.one_map.OneMapEdgeMap.sweep.Goals.{else-eq-via-then-eq+else-is_tombstone, else-eq-via-else-eq}

pub returns-in_default-one-clause-now : goal.returns-in_default-one-clause-now
returns-in_default-one-clause-now c =
    let none = no_place c.args.self.now c.self.inside.place c.in-One.one c.self.view_is c.in-One.is c.in_default-one.is in
    ap rows_at (sym c.in-One.is) ∙ c.self.view_is
    ∙ swept_none c.args.self.now c.args.key.now (get_none c.args.self.now c.args.key.now [] 0 none tt tt)

pub returns-then-is_tombstone-clause-now : goal.returns-then-is_tombstone-clause-now
returns-then-is_tombstone-clause-now c =
    let i : Values × Counted = (c.in-Some-one.own, c.in-Some-one.entry) in
    let all = in_place c.args.self.now c.self.inside.place c.in-One.one i c.self.view_is c.in-One.is c.in-Some-one.is in
    let h = is_own i.0 c.args.key.now c.values.result.now c.eq.result c.values.ensures c.eq.ensures c.if-eq.true in
    swept_own c.args.self.now i all c.args.key.now h (sym c.is_tombstone.ensures ∙ c.if-is_tombstone.true)

pub returns-else-eq-clause-now : goal.returns-else-eq-clause-now
returns-else-eq-clause-now c =
    let m = c.args.self.now in
    let key : Values = c.args.key.now in
    let i : Values × Counted = (c.in-Some-one.own, c.in-Some-one.entry) in
    let all = in_place m c.self.inside.place c.in-One.one i c.self.view_is c.in-One.is c.in-Some-one.is in
    elim c.else-eq.branch [
      | else-eq-via-then-eq+else-is_tombstone w ↦
          let h = is_own i.0 key c.values.result.now c.eq.result c.values.ensures c.eq.ensures w.if-eq.true in
          ap (λ (z : Inside). rows_at z.place) w.self-inside-is ∙ all
          ∙ swept_filled m key i.1 (own_get m i all key h) (sym w.is_tombstone.ensures ∙ w.if-is_tombstone.false)
      | else-eq-via-else-eq w ↦
          let n = is_other i.0 key c.values.result.now c.eq.result c.values.ensures c.eq.ensures w.if-eq.false in
          ap (λ (z : Inside). rows_at z.place) w.self-inside-is ∙ all ∙ swept_none m key (other_none m i all key n)
    ]
