use Rattle.std.proofs.Common.{◌∙◌, ap, arith, set}
use Rattle.rc_inline.proofs.Imports.{get_or_default, map_over_more, renumbered_place}
use Rattle.rc_inline.proofs.contraction.renumber_places.Goals as goal

pub loop-place-preserved : goal.loop-place-preserved
loop-place-preserved c =
    let all = c.loop-place.places in
    let at = c.loop-place.place-index in
    ap (set all at) c.renumber_place.ensures
    ∙ map_over_more (renumbered_place c.args.gone) c.args.places.now all at _ c.loop-place-test.true c.loop-place.invariant
    (get_or_default all at _ _ (omega (arith, c.loop-place-test.true, c.loop-place.auto.places)))
