use Rattle.std.proofs.Common.{◌≡◌, ◌∙◌, ap, sym, subst, Bool, Some}
use Rattle.rc_multi.proofs.Imports.{is_within, Spec, class_at, MayTake, chooses, may_be_any}
use Rattle.rc_multi.proofs.CoverLemmas.{any_covered, own_covered}
use Rattle.rc_multi.proofs.covering.is_lock_covered.Goals.{After-may_be_any}
use Rattle.rc_multi.proofs.covering.is_lock_covered.Goals as goal

-- what the test answers
tested : (c : After-may_be_any) → c.may_be_any.result ≡ may_be_any (chooses c.args.compiled.now.spec c.args.call.now.args c.args.lock.class) c.args.lock.choice
tested c =
    c.may_be_any.ensures
    ∙ ap (λ (b : Bool). may_be_any b c.args.lock.choice) (c.within-chosen.ensures.found
    ∙ (λ i. is_within ((c.class-class.ensures.value ∙ ap (λ (spec : Spec). class_at spec c.args.lock.class) (c.spec.ensures.value ∙ c.accepted.ensures.value)) i).cols (c.cols.ensures.cols i)))

pub returns-then-may_be_any : goal.returns-then-may_be_any
returns-then-may_be_any c =
    let at = (goal.at.returns-then-may_be_any c).After-may_be_any in
    let law = any_covered c.args.compiled.now.spec c.args.call.now.args c.args.lock c.args.locks.now (sym (tested at) ∙ c.if-may_be_any.true) in
    (λ t. law.0 (c.is_band_covered.ensures.0 t), λ h. c.is_band_covered.ensures.1 (law.1 h))

pub returns-else-may_be_any : goal.returns-else-may_be_any
returns-else-may_be_any c =
    let at = (goal.at.returns-else-may_be_any c).After-may_be_any in
    let law = own_covered c.args.compiled.now.spec c.args.call.now.args c.args.lock c.args.locks.now c.accepted.ensures.sealed.accepted.placed c.requires (sym (tested at) ∙ c.if-may_be_any.false) in
    let same = c.own_stripe.ensures in (
      (λ t. law.0 (subst (λ s. MayTake (Some c.args.locks.now) s c.args.lock.mode) same (c.is_held.ensures.0 t))),
      (λ h. c.is_held.ensures.1 (subst (λ s. MayTake (Some c.args.locks.now) s c.args.lock.mode) (sym same) (law.1 h))),
    )
