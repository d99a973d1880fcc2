use Rattle.std.proofs.Common.{◌≡◌, [], IsSome, sym, ap, subst, ◌∙◌}
use Rattle.rc_edges.proofs.Imports.{false≢true, Values, Counted, count_at, count_of, once_less, one_less, written, rows_in, found_none, counts, rows_at, Inside, alone, in_list, in_place, no_place, own_there, own_found, own_get, set_own}
use Rattle.std.specs.FinMap as fin
use Rattle.rc_edges.proofs.one_map.OneMapEdgeMap.sub.Goals as goal
use Rattle.rc_edges.proofs.one_map.OneMapEdgeMap.sub.Goals.{in-Several, in-One+in-Some}

pub unreachable-requires : goal.unreachable-requires
unreachable-requires c =
    let none = no_place c.args.self.now c.self.inside.place c.in-One.one c.self.view_is c.in-One.is c.in_default.is in
    false≢true (subst IsSome (found_none c.args.self.now c.args.key.now [] 0 none tt tt) c.requires)

pub lower-requires : goal.lower-requires
lower-requires c =
    let m = c.args.self.now in
    let i : Values × Counted = (c.in-Some.field-0-0, c.in-Some.entry) in
    let all : rows_in (alone i) ≡ m = in_place m c.self.inside.place c.in-One.one i c.self.view_is c.in-One.is c.in-Some.is in
    counts i.1 (subst IsSome (own_found m i all c.args.key.now (own_there m i all c.args.key.now c.requires)) c.requires)

pub returns-clause-now : goal.returns-clause-now
returns-clause-now c =
    let m = c.args.self.now in
    let key : Values = c.args.key.now in
    elim c.match-self.branch [
      | in-Several w ↦
          ap (λ (z : Inside). rows_at z.place) w.self-inside-is ∙ w.sub.ensures.now
          ∙ ap (λ z. once_less z key) (in_list m c.self.inside.place w.in-Several.list c.self.view_is w.in-Several.is)
      | in-One+in-Some w ↦
          let i : Values × Counted = (w.in-Some.field-0-0, w.in-Some.entry) in
          let all : rows_in (alone i) ≡ m = in_place m c.self.inside.place w.in-One.one i c.self.view_is w.in-One.is w.in-Some.is in
          let h : key ≡ i.0 = own_there m i all key c.requires in
          ap (λ (z : Inside). rows_at z.place) w.self-inside-is ∙ set_own m i all key w.lower.new.self h
          ∙ ap (fin.insert m key) w.lower.ensures.now ∙ ap (λ o. written m key (one_less o)) (sym (own_get m i all key h))
    ]

pub returns-clause-before : goal.returns-clause-before
returns-clause-before c =
    let m = c.args.self.now in
    let key : Values = c.args.key.now in
    elim c.match-self.branch [
      | in-Several w ↦
          w.result-is ∙ w.sub.ensures.before
          ∙ ap (λ z. count_at z key) (in_list m c.self.inside.place w.in-Several.list c.self.view_is w.in-Several.is)
      | in-One+in-Some w ↦
          let i : Values × Counted = (w.in-Some.field-0-0, w.in-Some.entry) in
          let all : rows_in (alone i) ≡ m = in_place m c.self.inside.place w.in-One.one i c.self.view_is w.in-One.is w.in-Some.is in
          w.result-is ∙ w.lower.ensures.before ∙ ap count_of (sym (own_get m i all key (own_there m i all key c.requires)))
    ]
