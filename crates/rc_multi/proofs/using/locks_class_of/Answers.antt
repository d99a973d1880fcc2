use Rattle.std.proofs.Common.{◌≡◌, Some, sym, subst, ◌∙◌}
use Rattle.rc_multi.proofs.Imports.{IsOfClass, ClassLock, class_lock}
use Rattle.rc_multi.proofs.using.locks_class_of.Goals as goal

pub returns-in-Some : goal.returns-in-Some
returns-in-Some c =
    let is : class_lock c.args.statement.now ≡ Some c.in-Some.lock = sym c.class_lock.ensures ∙ c.in-Some.is in (
      (λ t. (c.in-Some.lock, is, c.is_of_class.ensures.0 t)),
      (λ w.
          let same : Some w.0 ≡ Some c.in-Some.lock = sym w.1 ∙ is in
          let one : w.0 ≡ c.in-Some.lock = cc in
          c.is_of_class.ensures.1 (subst (λ (l : ClassLock). IsOfClass c.args.compiled.now.spec c.args.stripe l.class) one w.2)),
    )
