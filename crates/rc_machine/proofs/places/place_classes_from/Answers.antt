use Rattle.std.proofs.Common.{◌<◌, ◌∷◌, get_or, length, map, subst, sym, ap, ◌∙◌, arith}
use Rattle.rc_machine.proofs.Imports.{Vec, take_all, Within, cols_of, edge_numbers, class_at, classes_from, others, classes_of, place_in, AreStripesOf, ClassStripe}
use Rattle.rc_machine.proofs.ClassLemmas.{class_is_known, class_is_within, class_listed, other_more, same_more}
use Rattle.rc_machine.proofs.ReadLemmas.{class_known}
use Rattle.rc_machine.proofs.StripeLemmas.{class_within}
use Rattle.rc_machine.proofs.places.place_classes_from.Goals.{then-class-first+in_ok-push_place-2, else-class-first}
use Rattle.rc_machine.proofs.places.place_classes_from.Goals as goal

pub push_place-requires-clause-known : goal.push_place-requires-clause-known
push_place-requires-clause-known c =
    let spec = c.args.compiled.now.spec in subst (λ z. z < length spec.classes) (sym c.edge.ensures.class) (class_known spec c.requires.sealed c.args.edge c.requires.known)

pub push_place-requires-clause-within : goal.push_place-requires-clause-within
push_place-requires-clause-within c =
    let spec = c.args.compiled.now.spec in
    subst (λ z. Within (class_at spec z).cols (cols_of c.args.tuple.now)) (sym c.edge.ensures.class) (class_within spec c.requires.sealed c.args.tuple.now c.requires.whole c.args.edge c.requires.known)

pub push_place-requires-then-class-first-clause-known : goal.push_place-requires-then-class-first-clause-known
push_place-requires-then-class-first-clause-known c =
    let spec = c.args.compiled.now.spec in
    let classes = c.edge_classes-class-items in
    class_is_known spec c.requires.sealed c.args.tuple.now (edge_numbers spec) (λ e m. m) (get_or classes.result.now c.loop-class.class-index 0)
    (class_listed spec classes.result.now c.loop-class.class-index classes.ensures c.loop-class-test.true)

pub push_place-requires-then-class-first-clause-within : goal.push_place-requires-then-class-first-clause-within
push_place-requires-then-class-first-clause-within c =
    let spec = c.args.compiled.now.spec in
    let classes = c.edge_classes-class-items in
    class_is_within spec c.requires.sealed c.args.tuple.now (edge_numbers spec) (λ e m. m) c.requires.whole (get_or classes.result.now c.loop-class.class-index 0)
    (class_listed spec classes.result.now c.loop-class.class-index classes.ensures c.loop-class-test.true)

pub loop-class-preserved : goal.loop-class-preserved
loop-class-preserved c =
    let spec = c.args.compiled.now.spec in
    let t = c.args.tuple.now in
    let first = c.edge.result.now.class in
    let all = classes_of spec (edge_numbers spec) in
    let classes = c.edge_classes-class-items in
    let i = c.loop-class.class-index in
    elim c.if-class-first.branch [
      | then-class-first+in_ok-push_place-2 w ↦ record {
        placed = ap (λ (v : Vec ClassStripe). v.items) w.places-is ∙ w.in_ok-push_place-2.ensures.places
            ∙ other_more spec t first all classes.result.now i classes.ensures c.loop-class-test.true w.if-class-first.true c.loop-class.places.items c.loop-class.invariant.placed;
        stripes = subst (λ (v : Vec ClassStripe). AreStripesOf spec t v.items) (sym w.stripes-is) w.in_ok-push_place-2.ensures.stripes;
      }
      | else-class-first w ↦ record {
        placed = ap (λ (v : Vec ClassStripe). v.items) w.places-is ∙ same_more spec t first all classes.result.now i classes.ensures c.loop-class-test.true w.if-class-first.false c.loop-class.places.items c.loop-class.invariant.placed;
        stripes = subst (λ (v : Vec ClassStripe). AreStripesOf spec t v.items) (sym w.stripes-is) c.loop-class.invariant.stripes;
      }
    ]

pub returns : goal.returns
returns c =
    let spec = c.args.compiled.now.spec in
    let t = c.args.tuple.now in
    let all = classes_of spec (edge_numbers spec) in
    let end = c.loop-class.auto.class-index-end in
    let test = c.loop-class-test.false in
    let count = ap length c.edge_classes-class-items.ensures in
    c.loop-class.invariant.placed
    ∙ ap (λ rest. map (place_in spec t) (c.edge.result.now.class ∷ others c.edge.result.now.class rest)) (take_all c.loop-class.class-index all (omega (arith, end, test, count)))
    ∙ ap (λ k. map (place_in spec t) (k ∷ others k all)) c.edge.ensures.class
    ∙ ap (map (place_in spec t)) (sym (classes_from spec c.args.edge (edge_numbers spec)))
