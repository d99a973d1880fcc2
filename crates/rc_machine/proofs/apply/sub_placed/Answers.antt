use Rattle.rc_machine.proofs.Imports.{get_or, arith, get_or_default, Holding, lowered_all, HasTuple, changes_of_class, ClassStripe}
use Rattle.rc_machine.proofs.PlaceLemmas.{all_are_changed, next_can, next_has_room, no_place, none_changed, one_changed_more}
use Rattle.rc_machine.proofs.apply.sub_placed.Goals as goal

pub make_room-requires-clause-exclusive : goal.make_room-requires-clause-exclusive
make_room-requires-clause-exclusive g c p m = (c.requires.can p m).exclusive

pub loop-place-init : goal.loop-place-init
loop-place-init g c = record {
  rows = none_changed lowered_all HasTuple c.args.tuple.now c.args.places.now (g.H.Holder.seen c.args.holder.now) (g.H.Holder.seen c.make_room.new.holder) c.requires.places.apart c.requires.can
      c.in_ok-make_room.ensures.held c.in_ok-make_room.ensures.room c.in_ok-make_room.ensures.lent;
  sound = c.in_ok-make_room.ensures.sound;
}

pub sub_tuple-requires-clause-exclusive : goal.sub_tuple-requires-clause-exclusive
sub_tuple-requires-clause-exclusive g c =
    let places = c.args.places.now in
    let n = c.loop-place.place-index in
    let place : ClassStripe = get_or places n no_place in
    (next_can lowered_all HasTuple c.args.tuple.now places (g.H.Holder.seen c.args.holder.now) n (g.H.Holder.seen c.loop-place.holder) place c.loop-place-test.true (get_or_default places n no_place place c.loop-place-test.true)
    c.loop-place.invariant.rows).exclusive

pub sub_tuple-requires-clause-owned : goal.sub_tuple-requires-clause-owned
sub_tuple-requires-clause-owned g c =
    let places = c.args.places.now in
    let n = c.loop-place.place-index in
    let place : ClassStripe = get_or places n no_place in
    next_has_room lowered_all HasTuple c.args.tuple.now places (g.H.Holder.seen c.args.holder.now) n (g.H.Holder.seen c.loop-place.holder) place c.loop-place-test.true (get_or_default places n no_place place c.loop-place-test.true)
    c.loop-place.invariant.rows

pub sub_tuple-requires-clause-can : goal.sub_tuple-requires-clause-can
sub_tuple-requires-clause-can g c =
    let places = c.args.places.now in
    let n = c.loop-place.place-index in
    let place : ClassStripe = get_or places n no_place in
    (next_can lowered_all HasTuple c.args.tuple.now places (g.H.Holder.seen c.args.holder.now) n (g.H.Holder.seen c.loop-place.holder) place c.loop-place-test.true (get_or_default places n no_place place c.loop-place-test.true)
    c.loop-place.invariant.rows).can

pub loop-place-preserved : goal.loop-place-preserved
loop-place-preserved g c =
    let places = c.args.places.now in
    let n = c.loop-place.place-index in
    let place : ClassStripe = get_or places n no_place in
    let mid : Holding = g.H.Holder.seen c.loop-place.holder in
    record {
      rows = one_changed_more lowered_all HasTuple c.args.tuple.now places (g.H.Holder.seen c.args.holder.now) n mid place c.loop-place-test.true (get_or_default places n no_place place c.loop-place-test.true)
          c.loop-place.invariant.rows (changes_of_class mid.table place.class) (g.H.Holder.seen c.sub_tuple.new.self) c.sub_tuple.ensures.value;
      sound = λ spec h. c.sub_tuple.ensures.sound spec (c.loop-place.invariant.sound spec h);
    }

pub returns-clause-ok : goal.returns-clause-ok
returns-clause-ok g c =
    all_are_changed lowered_all HasTuple c.args.tuple.now c.args.places.now (g.H.Holder.seen c.args.holder.now) c.loop-place.place-index (g.H.Holder.seen c.loop-place.holder) (omega arith) c.loop-place.invariant.rows
