use Rattle.std.proofs.Common.{◌≡◌, ◌∙◌, ap, sym, Some, ◌++◌, ◌∷◌, [], take}
use Rattle.rc_mutate.proofs.Imports.{slice_get, slice_get_in, Exclusive, Lock, locks, update_which, locks_more}
use Rattle.rc_mutate.proofs.update.push_update_locks.Goals as goal

pub update_which-which-requires : goal.update_which-which-requires
update_which-which-requires c = c.requires c.unwrap-class.result (slice_get_in c.args.classes c.loop-place.place c.unwrap-class.result (sym c.nth.ensures.value ∙ c.unwrap-class.ensures))

pub loop-place-preserved : goal.loop-place-preserved
loop-place-preserved c =
    let found : slice_get c.args.classes c.loop-place.place ≡ Some c.unwrap-class.result = sym c.nth.ensures.value ∙ c.unwrap-class.ensures in
    c.in_ok-push.ensures.ok
    ∙ ap (λ l. l ++ Lock c.unwrap-class.result c.update_which-which.result Exclusive ∷ []) c.loop-place.invariant
    ∙ ap (λ w. (c.args.plan.now ++ locks Exclusive (update_which c.args.spec.now c.args.pattern c.args.probes.now) (take c.loop-place.place c.args.classes)) ++ Lock c.unwrap-class.result w Exclusive ∷ []) c.update_which-which.ensures
    ∙ locks_more Exclusive (update_which c.args.spec.now c.args.pattern c.args.probes.now) c.args.plan.now c.args.classes c.loop-place.place c.unwrap-class.result found
