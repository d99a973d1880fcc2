use Rattle.rc_machine.proofs.Imports.{get_or, edge_numbers}
use Rattle.rc_machine.proofs.ClassLemmas.{class_is_known, class_is_within, class_listed}
use Rattle.rc_machine.proofs.places.place_classes.Goals as goal

pub push_place-requires-clause-known : goal.push_place-requires-clause-known
push_place-requires-clause-known c =
    let spec = c.args.compiled.now.spec in
    let classes = c.edge_classes-class-items in
    class_is_known spec c.requires.sealed c.args.tuple.now (edge_numbers spec) (λ e m. m) (get_or classes.result.now c.loop-class.class-index 0)
    (class_listed spec classes.result.now c.loop-class.class-index classes.ensures c.loop-class-test.true)

pub push_place-requires-clause-within : goal.push_place-requires-clause-within
push_place-requires-clause-within c =
    let spec = c.args.compiled.now.spec in
    let classes = c.edge_classes-class-items in
    class_is_within spec c.requires.sealed c.args.tuple.now (edge_numbers spec) (λ e m. m) c.requires.whole (get_or classes.result.now c.loop-class.class-index 0)
    (class_listed spec classes.result.now c.loop-class.class-index classes.ensures c.loop-class-test.true)
