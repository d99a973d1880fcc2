use Rattle.std.proofs.Common.{◌∙◌, ◌<◌, ap, length, subst, sym}
use Rattle.rc_tuple.specs.RisingSet.{In}
use Rattle.rc_inline.proofs.placing.co_placed.Goals as goal

pub move_places-requires-clause-known : goal.move_places-requires-clause-known
move_places-requires-clause-known c place m =
    subst (λ n. place.class < n) (sym (ap length c.list.ensures))
    (c.requires.known_places place (subst (In place) (c.deref_mut.ensures.value ∙ c.into_vec-places.ensures) m)).class
