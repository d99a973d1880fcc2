use Rattle.std.proofs.Common.{◌∙◌, ap, subst, sym}
use Rattle.rc_inline.proofs.Imports.{IfOk-weaker, IsWellNamed, first_inlinable, placed_together, embedded_is, together_inlinable, together_named}
use Rattle.rc_inline.proofs.placing.embed.Goals as goal

pub returns-clause-value : goal.returns-clause-value
returns-clause-value c =
    IfOk-weaker c.place_together.result _ _ (λ r is. is ∙ ap placed_together c.in_ok-inline.ensures.value ∙ embedded_is c.args.accepted) c.place_together.ensures

pub returns-clause-done : goal.returns-clause-done
returns-clause-done c =
    IfOk-weaker c.place_together.result _ _
    (λ r is. ap first_inlinable is ∙ together_inlinable c.in_ok-inline.field-0 ∙ c.in_ok-inline.ensures.done) c.place_together.ensures

pub returns-clause-named : goal.returns-clause-named
returns-clause-named c =
    IfOk-weaker c.place_together.result _ _
    (λ r is named. subst IsWellNamed (sym is) (together_named c.in_ok-inline.field-0 (c.in_ok-inline.ensures.named named))) c.place_together.ensures
