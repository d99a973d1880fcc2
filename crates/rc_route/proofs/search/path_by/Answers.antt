use Rattle.std.proofs.Common.{◌≡◌, [], ◌∷◌, ◌++◌, arith, ap, sym, ◌∙◌, refl}
use Rattle.rc_route.proofs.Imports.{Edge, edge_at, at_found, path_at}
use Rattle.rc_route.proofs.search.path_by.Goals as goal

pub bounds-paths-edge : goal.bounds-paths-edge
bounds-paths-edge c =
    let known = (c.edge.ensures.known c.requires.range).from in
    omega (arith, known, c.requires.count)

pub returns : goal.returns
returns c =
    let spec = c.args.spec.now in
    let known = (c.edge.ensures.known c.requires.range).from in
    let of = ap (λ (e : Edge). e.from) c.edge.ensures.value in
    let path = at_found c.args.paths.now c.args.paths.now _ [] c.index-paths-edge.result refl (omega (arith, known, c.requires.count)) c.index-paths-edge.is in
    let here : c.in_ok-path.path ≡ path_at c.args.paths.now (edge_at spec c.args.edge).from = c.in_ok-path.ensures ∙ sym path ∙ ap (path_at c.args.paths.now) of in
    c.in_ok-push.ensures.ok ∙ ap (λ z. z ++ c.args.edge ∷ []) here
