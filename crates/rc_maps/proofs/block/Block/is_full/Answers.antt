use Rattle.std.proofs.Common.{sym, ◌∙◌}
use Rattle.std.proofs.lemmas.Bool.{eq-eqb, eqb-true}
use Rattle.rc_maps.proofs.block.Block.is_full.Goals as goal

pub returns : goal.returns
returns g c = (
  λ t. sym c.kept.ensures ∙ eqb-true c.kept.result 128 t,
  λ h. eq-eqb c.kept.result 128 (c.kept.ensures ∙ h),
)
