use Rattle.std.proofs.Common.{◌≡◌, ◌≤◌, ◌+◌, [], length, arith, ap, sym, subst, ◌∙◌, refl}
use Rattle.rc_route.proofs.Imports.{In, get_or_in, Edge, edge_at, at_found, IsPathFromRoot, cost, path_at}
use Rattle.rc_route.proofs.BestLemmas.{path_edges, path_few}
use Rattle.rc_route.proofs.search.cost_by.Goals as goal

pub bounds-paths-edge : goal.bounds-paths-edge
bounds-paths-edge c =
    let known = (c.edge.ensures.known c.requires.sealed.in_range).from in
    omega (arith, known, c.requires.count)

pub cost_of-requires-clause-known : goal.cost_of-requires-clause-known
cost_of-requires-clause-known c = λ e m.
    let known = (c.edge.ensures.known c.requires.sealed.in_range).from in
    let begin : IsPathFromRoot c.args.spec.now c.index-paths-edge.result =
    c.requires.paths c.index-paths-edge.result (subst (λ p. In p c.args.paths.now) (sym c.index-paths-edge.is) (get_or_in c.args.paths.now _ c.index-paths-edge.result (omega (arith, known, c.requires.count)))) in
    path_edges c.args.spec.now c.index-paths-edge.result begin e (subst (In e) c.list.ensures m)

pub cost_of-requires-clause-short : goal.cost_of-requires-clause-short
cost_of-requires-clause-short c =
    let known = (c.edge.ensures.known c.requires.sealed.in_range).from in
    let begin : IsPathFromRoot c.args.spec.now c.index-paths-edge.result =
    c.requires.paths c.index-paths-edge.result (subst (λ p. In p c.args.paths.now) (sym c.index-paths-edge.is) (get_or_in c.args.paths.now _ c.index-paths-edge.result (omega (arith, known, c.requires.count)))) in
    let few : length c.index-paths-edge.result ≤ 16 = path_few c.args.spec.now c.requires.sealed c.index-paths-edge.result begin in omega (arith, ap length c.list.ensures)

pub returns-clause-value : goal.returns-clause-value
returns-clause-value c =
    let spec = c.args.spec.now in
    let known = (c.edge.ensures.known c.requires.sealed.in_range).from in
    let of = ap (λ (e : Edge). e.from) c.edge.ensures.value in
    let path = at_found c.args.paths.now c.args.paths.now _ [] c.index-paths-edge.result refl (omega (arith, known, c.requires.count)) c.index-paths-edge.is in
    let here : c.list.result.now ≡ path_at c.args.paths.now (edge_at spec c.args.edge).from = c.list.ensures ∙ sym path ∙ ap (path_at c.args.paths.now) of in
    ap (λ z. z + c.edge_cost.result) (c.cost_of.ensures.value ∙ ap (cost spec c.args.pattern) here) ∙ ap (λ z. cost spec c.args.pattern (path_at c.args.paths.now (edge_at spec c.args.edge).from) + z) c.edge_cost.ensures.value
