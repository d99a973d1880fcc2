use Rattle.std.proofs.Common.{◌≡◌, ◌==◌, true, false, filter, length, map, not, sym, ap, ◌∙◌, arith}
use Rattle.rc_machine.proofs.Imports.{range_with_len, append-nil, inter, Spec, has_column, place_in, classes_of, filter_next}
use Rattle.rc_machine.proofs.ClassLemmas.{placed_more}
use Rattle.rc_machine.proofs.places.place_classes_with.Goals.{After-list-all}
use Rattle.rc_machine.proofs.places.place_classes_with.Goals as goal

-- so many edges the specification has
edges_are : (c : After-list-all) → length c.list-all.result.now ≡ length c.args.compiled.now.spec.edges
edges_are c = ap length c.list-all.ensures ∙ ap (λ (s : Spec). length s.edges) (c.spec.ensures.value ∙ c.accepted.ensures.value)

pub edge-requires : goal.edge-requires
edge-requires c = let all = edges_are (goal.at.edge-requires c).After-list-all in omega (arith, all, c.loop-edge-test.true)

pub loop-edge-preserved-then-is_empty : goal.loop-edge-preserved-then-is_empty
loop-edge-preserved-then-is_empty c =
    let spec = c.args.compiled.now.spec in
    let tuple = c.args.tuple.now in
    let keep = has_column spec c.args.cols in
    let edge = c.loop-edge.edge in
    let skipped : keep edge ≡ false = ap not (ap (λ cols. length (inter cols c.args.cols) == 0) (sym c.edge.ensures.target) ∙ ap (λ cols. length cols == 0) (sym c.inter.ensures.value) ∙ sym c.is_empty.ensures ∙ c.if-is_empty.true) in
    record {
      first = c.loop-edge.invariant.first ∙ ap (λ edges. map (place_in spec tuple) (classes_of spec edges)) (sym (filter_next keep edge false skipped ∙ append-nil (filter keep (range_with_len 0 edge))));
      stripes = c.loop-edge.invariant.stripes;
    }

pub loop-edge-preserved : goal.loop-edge-preserved
loop-edge-preserved c =
    let spec = c.args.compiled.now.spec in
    let tuple = c.args.tuple.now in
    let keep = has_column spec c.args.cols in
    let edge = c.loop-edge.edge in
    let kept : keep edge ≡ true = ap not (ap (λ cols. length (inter cols c.args.cols) == 0) (sym c.edge.ensures.target) ∙ ap (λ cols. length cols == 0) (sym c.inter.ensures.value) ∙ sym c.is_empty.ensures ∙ c.if-is_empty.false) in
    record {
      first = placed_more spec tuple (filter keep (range_with_len 0 edge)) edge c.loop-edge.places.items c.place_class.new.places.items c.loop-edge.invariant.first c.in_ok-place_class.ensures.places
          ∙ ap (λ edges. map (place_in spec tuple) (classes_of spec edges)) (sym (filter_next keep edge true kept));
      stripes = c.in_ok-place_class.ensures.stripes;
    }
