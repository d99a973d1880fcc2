use Rattle.std.proofs.Common.{◌≡◌, ◌<◌, ap, arith, length, rules, subst, sym, tests, ◌∙◌}
use Rattle.rc_fragment.proofs.Imports.{YieldsList-from_range, serves_from_Range, option_map_id, find_from_yields_List, Spec, is_below}
use Rattle.rc_fragment.proofs.shape.first_below.Goals as goal
use Rattle.rc_fragment.proofs.shape.first_below.Goals.{After-list}

count : (c : After-list) → length c.list.result.now ≡ length c.args.accepted.now.edges
count c = ap length (c.list.ensures ∙ ap (λ (s : Spec). s.edges) c.spec.ensures.value)

pub find-requires : goal.find-requires
find-requires c = record {
  can = tt;
  finite = tt;
  callable = serves_from_Range (λ x q k. search (rules, tests)) (λ lower low high. let known = subst (λ n. lower < n) (count (goal.at.find-requires c).After-list) high in search (rules, known, c.requires));
}

pub returns : goal.returns
returns c =
    let edges = length c.args.accepted.now.edges in
    sym (option_map_id c.find.result)
    ∙ find_from_yields_List (is_below c.args.accepted.now c.args.number) _ _ c.find.result c.find.ensures.ran
    (YieldsList-from_range 0 edges edges (λ i. record { start = 0; end = count (goal.at.returns c).After-list i }) (omega arith)) (λ x b q k. search (rules, tests))
