use Rattle.std.proofs.Common.{◌∙◌, ap, subst}
use Rattle.rc_embed.proofs.Imports.{IsCompiled, SpecWithPlans, compiled_of, StoreSeen}
use Rattle.rc_embed.proofs.shared.Shared.is_compiled.Goals as goal

pub returns : goal.returns
returns c =
    subst (λ (x : SpecWithPlans). IsCompiled x.spec x.plans)
    (c.compiled.ensures ∙ ap (λ (s : StoreSeen). compiled_of s.row) c.self.view_is)
    (record { sealed = c.accepted.ensures.sealed; planned = c.accepted.ensures.planned })
