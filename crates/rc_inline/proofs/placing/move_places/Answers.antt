use Rattle.std.proofs.Common.{◌∙◌, ◌<◌, ap, arith, get_or, length, set, subst, sym}
use Rattle.rc_inline.proofs.Imports.{get_or_default, map_over_more, get_or_in, Place, moved}
use Rattle.rc_inline.proofs.CoPlacedLemmas.{at_rest}
use Rattle.rc_inline.proofs.placing.move_places.Goals as goal

pub move_place-requires-clause-known : goal.move_place-requires-clause-known
move_place-requires-clause-known c =
    let all = c.args.places.now in
    let at = c.loop-place.place-index in
    let none : Place = record { edge = 0; class = 0 } in
    let same = ap (λ (places : _). get_or places at none) c.loop-place.invariant ∙ at_rest (moved c.args.classes.now) all at none in
    subst (λ (place : Place). place.class < length c.args.classes.now) (sym same)
    (c.requires.known (get_or all at none) (get_or_in all at none c.loop-place-test.true))

pub loop-place-preserved : goal.loop-place-preserved
loop-place-preserved c =
    let all = c.loop-place.places in
    let at = c.loop-place.place-index in
    ap (set all at) c.move_place.ensures
    ∙ map_over_more (moved c.args.classes.now) c.args.places.now all at _ c.loop-place-test.true c.loop-place.invariant
    (get_or_default all at _ _ (omega (arith, c.loop-place-test.true, c.loop-place.auto.places)))
