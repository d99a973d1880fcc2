use Rattle.std.proofs.Common.{◌<◌, ◌∙◌, List, ap, drop, length, subst, sym, take}
use Rattle.rc_plan.proofs.Imports.{list_all, list_any, false≢true, take-append-drop, Within, In, append_in_left, class_at, class_of_known, MayBeLate, is_given_lock, is_lock_of, given_columns, pattern_columns, Statement}
use Rattle.rc_plan.proofs.access.is_locked_first.Goals as goal
use Rattle.rc_plan.proofs.access.is_locked_first.Goals.{else-are_given_locks, then-are_given_locks}

pub are_given_locks-requires : goal.are_given_locks-requires
are_given_locks-requires c x m =
    let plan = c.args.plan.now in
    let locks = c.args.path.locks in
    let here = subst (λ (xs : List Statement). In x xs) c.split_at.ensures.front m in
    c.requires.known x (subst (λ (xs : List Statement). In x xs) (take-append-drop locks plan) (append_in_left x (take locks plan) (drop locks plan) here))

pub is_striped-requires-clause-class : goal.is_striped-requires-clause-class
is_striped-requires-clause-class c =
    subst (λ z. z < length c.args.spec.now.classes) (sym c.class_of-class.ensures)
    (class_of_known c.args.spec.now c.args.path.edge c.requires.sealed.in_range (c.requires.sealed.accepted.placed.p1 c.args.path.edge c.requires.edge))

pub returns-then-not-is_striped : goal.returns-then-not-is_striped
returns-then-not-is_striped c = (
  (λ e. absurd (false≢true e)),
  (λ locks. absurd (false≢true (sym c.if-not-is_striped.true
      ∙ c.is_striped.ensures.1 (subst (λ k. Within (class_at c.args.spec.now k).cols (pattern_columns c.args.op.now)) (sym c.class_of-class.ensures) locks.striped)))),
)

pub returns-then-has_lock_of : goal.returns-then-has_lock_of
returns-then-has_lock_of c =
    let spec = c.args.spec.now in
    let plan = c.args.plan.now in
    let given = given_columns spec c.args.op.now in
    let late = ap (take c.args.path.late) c.split_at.ensures.back in
    elim c.if-are_given_locks.branch [
      | then-are_given_locks w ↦ (
        (λ e. record {
          edge = c.requires.edge;
          within = c.requires.within;
          first = ap (λ cols. list_all (is_given_lock spec cols) (take c.args.path.locks plan)) (sym c.given_columns-given.ensures)
              ∙ ap (list_all (is_given_lock spec c.given_columns-given.result)) (sym c.split_at.ensures.front) ∙ sym c.are_given_locks.ensures ∙ w.if-are_given_locks.true;
          late = subst (MayBeLate c.args.op.now.kind c.args.path.edge) late (c.may_be_late.ensures.0 e);
          others = c.requires.others;
          last = c.requires.last;
          locked = ap (λ k. list_any (is_lock_of k) (take c.args.path.locks plan)) (sym c.class_of-class.ensures)
              ∙ ap (list_any (is_lock_of c.class_of-class.result)) (sym c.split_at.ensures.front) ∙ sym w.has_lock_of.ensures ∙ sym w.value-is ∙ c.if-has_lock_of.true;
          striped = subst (λ k. Within (class_at spec k).cols (pattern_columns c.args.op.now)) c.class_of-class.ensures (c.is_striped.ensures.0 c.if-not-is_striped.false);
        }),
        (λ locks. c.may_be_late.ensures.1 (subst (MayBeLate c.args.op.now.kind c.args.path.edge) (sym late) locks.late)),
      )
      | else-are_given_locks w ↦ absurd (false≢true (sym w.if-are_given_locks.false ∙ sym w.value-is ∙ c.if-has_lock_of.true))
    ]
