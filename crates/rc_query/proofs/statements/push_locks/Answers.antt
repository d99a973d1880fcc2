use Rattle.std.proofs.Common.{◌≡◌, ◌∙◌, ap, sym, Some, ◌++◌, ◌∷◌, [], take}
use Rattle.rc_query.proofs.Imports.{slice_get, slice_get_in, Lock, locks, which_where, locks_more}
use Rattle.rc_query.proofs.statements.push_locks.Goals as goal

pub which_where-which-requires : goal.which_where-which-requires
which_where-which-requires c = c.requires c.unwrap-class.result (slice_get_in c.args.classes c.loop-place.place c.unwrap-class.result (sym c.nth.ensures.value ∙ c.unwrap-class.ensures))

pub loop-place-preserved : goal.loop-place-preserved
loop-place-preserved c =
    let found : slice_get c.args.classes c.loop-place.place ≡ Some c.unwrap-class.result = sym c.nth.ensures.value ∙ c.unwrap-class.ensures in
    c.in_ok-push.ensures.ok
    ∙ ap (λ l. l ++ Lock c.unwrap-class.result c.which_where-which.result c.args.mode ∷ []) c.loop-place.invariant
    ∙ ap (λ w. (c.args.plan.now ++ locks c.args.mode (which_where c.args.spec.now c.args.columns) (take c.loop-place.place c.args.classes)) ++ Lock c.unwrap-class.result w c.args.mode ∷ []) c.which_where-which.ensures
    ∙ locks_more c.args.mode (which_where c.args.spec.now c.args.columns) c.args.plan.now c.args.classes c.loop-place.place c.unwrap-class.result found
