use Rattle.std.proofs.Common.{◌≡◌, ◌<◌, ℕ, length, sym, ap, subst, ◌∙◌, arith}
use Rattle.rc_instance.proofs.Imports.{List, length-map-range_with_len, Pairs, join, EdgeRow, tuples_of_edge, edge_table, shape_of, EdgeShape, rows_of_fragments}
use Rattle.rc_instance.proofs.RepresentLemmas.{first_joined_more, join_of_edge}
use Rattle.rc_instance.proofs.represent.joined_rows.Goals as goal

pub loop-edge-preserved : goal.loop-edge-preserved
loop-edge-preserved c =
    let ws : List EdgeRow = rows_of_fragments c.args.fragments.now in
    let n : ℕ = c.loop-edge.edge in
    let old : List Pairs = c.loop-edge.joined in
    let joined : c.in_ok-joined.joined ≡ join old c.in_ok-rows.rows = c.in_ok-joined.ensures ∙ (λ j. join (c.list-in-loop-edge.ensures j) (c.list-in-loop-edge-2.ensures j)) in
    joined ∙ join_of_edge old c.in_ok-rows.rows ws n c.in_ok-rows.ensures ∙ ap (λ z. join z (tuples_of_edge n ws)) c.loop-edge.invariant ∙ sym (first_joined_more ws n)

pub rows_of_edge-requires : goal.rows_of_edge-requires
rows_of_edge-requires c f m =
    let table : List EdgeShape = edge_table c.args.spec.now in
    let n : length table ≡ length c.args.spec.now.edges = length-map-range_with_len (shape_of c.args.spec.now) 0 (length c.args.spec.now.edges) in
    let e : length c.list.result.now ≡ length c.args.spec.now.edges = ap length c.list.ensures in
    let l : c.loop-edge.edge < length table = omega (arith, n, e, c.loop-edge-test.true, c.requires.range.edges) in
    subst (λ (z : List EdgeShape). c.loop-edge.edge < length z) (sym (c.requires.table f m)) l
