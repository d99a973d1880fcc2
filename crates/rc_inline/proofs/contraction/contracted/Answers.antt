use Rattle.std.proofs.Common.{◌∙◌, ◌<◌, ◌==◌, ap, arith, filter, length, map, not, subst, sym}
use Rattle.rc_inline.proofs.Imports.{remove, with_items_is, edge_at, edge_among, edge_at_found, renumbered_place, rejoined}
use Rattle.rc_inline.proofs.contraction.contracted.Goals as goal

pub remove-requires : goal.remove-requires
remove-requires c =
    let gone =
    edge_at_found c.args.spec c.into_vec-edges.result.items c.args.edge c.remove-gone.result c.into_vec-edges.ensures
    c.requires.known c.remove-gone.ensures.value in
    let known = edge_among c.args.spec c.args.edge c.requires.range c.requires.known in
    let within = known.from in
    let count = ap length c.into_vec-nodes.ensures in
    let held = c.into_vec-nodes.result.ok.0 in
    subst (λ e. e.from < c.into_vec-nodes.result.len) gone (omega (arith, within, count, held))

pub returns : goal.returns
returns c =
    let gone =
    sym (edge_at_found c.args.spec c.into_vec-edges.result.items c.args.edge c.remove-gone.result c.into_vec-edges.ensures
    c.requires.known c.remove-gone.ensures.value) in
    let nodes = c.from_vec.ensures ∙ c.remove.ensures.items ∙ (λ i. remove (c.into_vec-nodes.ensures i) (gone i).from) in
    let edges =
    c.from_vec-2.ensures
    ∙ with_items_is c.remove-gone.new.self c.rejoin_all.new.edges (c.rejoin_all.auto.edges ∙ c.deref_mut.ensures.len)
    ∙ c.rejoin_all.ensures
    ∙ (λ i. map (rejoined (gone i)) (c.deref_mut.ensures.value i))
    ∙ ap (map (rejoined (edge_at c.args.spec c.args.edge))) (c.remove-gone.ensures.items ∙ ap (λ es. remove es c.args.edge) c.into_vec-edges.ensures) in
    let places =
    c.from_vec-3.ensures
    ∙ with_items_is c.without-places.result c.renumber_places.new.places (c.renumber_places.auto.places ∙ c.deref_mut-2.ensures.len)
    ∙ c.renumber_places.ensures
    ∙ ap (map (renumbered_place c.args.edge)) (c.deref_mut-2.ensures.value ∙ c.without-places.ensures ∙ ap (filter (λ place. not (place.edge == c.args.edge))) c.into_vec.ensures) in
    λ i. record {
      columns = c.args.spec.columns;
      deps = c.args.spec.deps;
      nodes = nodes i;
      edges = edges i;
      classes = c.args.spec.classes;
      places = places i;
      ops = c.args.spec.ops;
      most_rows = c.args.spec.most_rows;
    }
