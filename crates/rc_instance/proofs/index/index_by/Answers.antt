use Rattle.std.proofs.Common.{ap, refl, [], None, ◌∙◌}
use Rattle.rc_instance.specs.Index.{found_at, tuples_in}
use Rattle.rc_instance.proofs.IndexLemmas.{found}
use Rattle.rc_instance.proofs.index.index_by.Goals as goal

pub loop-tuple-init : goal.loop-tuple-init
loop-tuple-init c key = ap (λ es. found_at es key) c.with_hasher-index.ensures.empty ∙ ap tuples_in (found key None [] refl)
