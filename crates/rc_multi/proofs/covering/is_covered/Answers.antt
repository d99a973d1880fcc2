use Rattle.std.proofs.Common.{◌≡◌, Some, sym, subst, ◌∙◌}
use Rattle.rc_multi.proofs.Imports.{ClassLock, IsCovered, class_lock}
use Rattle.rc_multi.proofs.covering.is_covered.Goals as goal

pub returns-in-Some : goal.returns-in-Some
returns-in-Some c =
    let is : class_lock c.args.statement.now ≡ Some c.in-Some.lock = sym c.class_lock.ensures ∙ c.in-Some.is in (
      (λ t lock e.
          let same : Some c.in-Some.lock ≡ Some lock = sym is ∙ e in
          let one : c.in-Some.lock ≡ lock = cc in
          subst (λ (l : ClassLock). IsCovered c.args.compiled.now.spec c.args.call.now.args l c.args.locks.now) one (c.is_lock_covered.ensures.0 t)),
      (λ each. c.is_lock_covered.ensures.1 (each c.in-Some.lock is)),
    )
