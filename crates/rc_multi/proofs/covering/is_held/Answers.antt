use Rattle.std.proofs.Common.{◌≡◌, ℕ, refl, rules, subst, tests}
use Rattle.rc_multi.proofs.Imports.{YieldsList-from_slice, In, StripeLock, Suffices}
use Rattle.rc_multi.proofs.AnswerLemmas.{any_said}
use Rattle.rc_multi.proofs.covering.is_held.Goals as goal

pub returns : goal.returns
returns c =
    let some = any_said (λ (l : StripeLock). (l.0 ≡ c.args.stripe) × Suffices l.1 c.args.mode) _ _ c.any.result c.any.ensures.ran
    (YieldsList-from_slice c.args.locks.now c.iter.ensures.rest) (λ x b q k. search (rules, tests)) in (
      (λ t. let w = some.0 t in (w.0.1, subst (λ (n : ℕ). In (n, w.0.1) c.args.locks.now) w.2.0 w.1, w.2.1)),
      (λ h. some.1 ((c.args.stripe, h.0), h.1, (refl, h.2))),
    )
