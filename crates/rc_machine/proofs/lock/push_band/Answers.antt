use Rattle.std.proofs.Common.{◌+◌, ◌∷◌, ◌++◌, [], sym, ap, ◌∙◌}
use Rattle.rc_machine.proofs.Imports.{append_assoc, range_with_len, range_with_len_more}
use Rattle.rc_machine.proofs.lock.push_band.Goals as goal

pub loop-place-preserved : goal.loop-place-preserved
loop-place-preserved c =
    c.in_ok-push.ensures.items ∙ ap (λ z. z ++ (c.band_start-start.result + c.loop-place.place) ∷ []) c.loop-place.invariant
    ∙ append_assoc c.args.stripes.now.items (range_with_len c.band_start-start.result c.loop-place.place) ((c.band_start-start.result + c.loop-place.place) ∷ [])
    ∙ ap (λ z. c.args.stripes.now.items ++ z) (sym (range_with_len_more c.band_start-start.result c.loop-place.place))
