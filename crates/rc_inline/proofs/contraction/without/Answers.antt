use Rattle.rc_inline.proofs.Imports.{rules, filter_same}
use Rattle.rc_inline.proofs.contraction.without.Goals as goal

pub returns : goal.returns
returns c = filter_same _ _ _ (λ x b f' k. search rules) _ _ c.retain.ensures.filtered
