use Rattle.std.proofs.Common.{◌≡◌, ◌∙◌, ap, sym, Some, ◌++◌, ◌∷◌, []}
use Rattle.rc_mutate.proofs.Imports.{slice_get, Exclusive, Lock, locks_more}
use Rattle.rc_plan.specs.declared.statement.Which.TheVariants as which
use Rattle.rc_mutate.proofs.remove.push_keyed_locks.Goals as goal

pub loop-place-preserved : goal.loop-place-preserved
loop-place-preserved c =
    let found : slice_get c.args.classes c.loop-place.place ≡ Some c.unwrap-class.result = sym c.nth.ensures.value ∙ c.unwrap-class.ensures in
    c.in_ok-push.ensures.ok ∙ ap (λ l. l ++ Lock c.unwrap-class.result which.Keyed Exclusive ∷ []) c.loop-place.invariant
    ∙ locks_more Exclusive (λ k. which.Keyed) c.args.plan.now c.args.classes c.loop-place.place c.unwrap-class.result found
