use Rattle.std.proofs.Common.{◌≡◌, ◌<◌, ◌∙◌, ◌++◌, ◌∷◌, [], ℕ, List, arith, ap, subst, get_or}
use Rattle.rc_query.proofs.Imports.{In, get_or_in, union, inter, minus, in_inter, in_minus, class_of, Read, locks, which_where, due, later, class_below, IsReadMade, reads_more, left_more, inter_due, minus_later}
use Rattle.rc_query.proofs.statements.push_locks_and_reads.Goals as goal

pub classes_up_to-due-requires : goal.classes_up_to-due-requires
classes_up_to-due-requires c =
    let edge = get_or c.args.route.now c.loop-edge.edge-index 0 in
    let below : class_of c.args.spec.now edge < 16 =
    class_below c.args.spec.now edge c.requires.range c.requires.placed (c.requires.edges edge (get_or_in c.args.route.now c.loop-edge.edge-index 0 c.loop-edge-test.true)) in
    omega (arith, below, c.class_of.ensures)

pub push_locks-requires : goal.push_locks-requires
push_locks-requires c = λ k m.
    c.requires.classes k (c.loop-edge.invariant.within k (in_inter c.loop-edge.left c.classes_up_to-due.result k (subst (In k) c.inter.ensures.value m)).0)

pub read_mode_where-requires : goal.read_mode_where-requires
read_mode_where-requires c = c.requires.edges (get_or c.args.route.now c.loop-edge.edge-index 0) (get_or_in c.args.route.now c.loop-edge.edge-index 0 c.loop-edge-test.true)

pub target_columns-requires-clause-known : goal.target_columns-requires-clause-known
target_columns-requires-clause-known c = c.requires.edges (get_or c.args.route.now c.loop-edge.edge-index 0) (get_or_in c.args.route.now c.loop-edge.edge-index 0 c.loop-edge-test.true)

pub loop-edge-preserved : goal.loop-edge-preserved
loop-edge-preserved c =
    let spec = c.args.spec.now in
    let edge : ℕ = get_or c.args.route.now c.loop-edge.edge-index 0 in
    let columns : List ℕ = c.loop-edge.columns in
    let left : List ℕ = c.loop-edge.left in
    let due_set : c.inter.result ≡ due spec edge left =
    c.inter.ensures.value ∙ ap (inter left) c.classes_up_to-due.ensures ∙ inter_due spec edge c.class_of.result left c.class_of.ensures in
    let later_set : c.minus-left.result ≡ later spec edge left =
    c.minus-left.ensures.value ∙ ap (minus left) c.classes_up_to-due.ensures ∙ minus_later spec edge c.class_of.result left c.class_of.ensures in
    let locked : c.push_locks.new.plan ≡ c.loop-edge.plan ++ locks c.args.mode (which_where spec columns) (due spec edge left) =
    c.in_ok-push_locks.ensures ∙ ap (λ z. c.loop-edge.plan ++ locks c.args.mode (which_where spec columns) z) due_set in
    let made : IsReadMade spec c.args.mode columns left edge c.loop-edge.plan c.push.new.self c.union-columns.result c.minus-left.result = record {
      bound = c.union-columns.ensures.value ∙ ap (union columns) c.target_columns.ensures;
      left = later_set;
      plan = c.in_ok-push.ensures.ok ∙ ap (λ z. z ++ Read edge c.read_mode_where.result ∷ []) locked
          ∙ ap (λ z. (c.loop-edge.plan ++ locks c.args.mode (which_where spec columns) (due spec edge left)) ++ Read edge z ∷ []) c.read_mode_where.ensures;
    } in
    record {
      plan = reads_more spec c.args.mode columns left c.args.route.now c.loop-edge.edge-index c.loop-edge.plan c.push.new.self c.union-columns.result c.minus-left.result c.loop-edge-test.true made
          ∙ c.loop-edge.invariant.plan;
      left = left_more spec left c.args.route.now c.loop-edge.edge-index c.minus-left.result c.loop-edge-test.true later_set ∙ c.loop-edge.invariant.left;
      within = λ k m. c.loop-edge.invariant.within k (in_minus left c.classes_up_to-due.result k (subst (In k) c.minus-left.ensures.value m)).0;
    }
