use Rattle.rc_machine.proofs.Imports.{get_or, arith, get_or_default, Holding, raised_all, CanAddTuple, changes_of_class, ClassStripe}
use Rattle.rc_machine.proofs.PlaceLemmas.{all_are_changed, next_can, next_has_room, no_place, none_changed, one_changed_more, partly_lent_so, partly_so}
use Rattle.rc_machine.proofs.ReadLemmas.{at_err}
use Rattle.rc_machine.proofs.apply.add_placed.Goals as goal

pub make_room-requires-clause-exclusive : goal.make_room-requires-clause-exclusive
make_room-requires-clause-exclusive g c p m = (c.requires.can p m).exclusive

pub loop-place-init : goal.loop-place-init
loop-place-init g c = record {
  rows = none_changed raised_all CanAddTuple c.args.tuple.now c.args.places.now (g.H.Holder.seen c.args.holder.now) (g.H.Holder.seen c.make_room.new.holder) c.requires.places.apart c.requires.can
      c.in_ok-make_room.ensures.held c.in_ok-make_room.ensures.room c.in_ok-make_room.ensures.lent;
  sound = c.in_ok-make_room.ensures.sound;
}

pub add_tuple-requires-clause-exclusive : goal.add_tuple-requires-clause-exclusive
add_tuple-requires-clause-exclusive g c =
    let places = c.args.places.now in
    let n = c.loop-place.place-index in
    let place : ClassStripe = get_or places n no_place in
    (next_can raised_all CanAddTuple c.args.tuple.now places (g.H.Holder.seen c.args.holder.now) n (g.H.Holder.seen c.loop-place.holder) place c.loop-place-test.true (get_or_default places n no_place place c.loop-place-test.true)
    c.loop-place.invariant.rows).exclusive

pub add_tuple-requires-clause-owned : goal.add_tuple-requires-clause-owned
add_tuple-requires-clause-owned g c =
    let places = c.args.places.now in
    let n = c.loop-place.place-index in
    let place : ClassStripe = get_or places n no_place in
    next_has_room raised_all CanAddTuple c.args.tuple.now places (g.H.Holder.seen c.args.holder.now) n (g.H.Holder.seen c.loop-place.holder) place c.loop-place-test.true (get_or_default places n no_place place c.loop-place-test.true)
    c.loop-place.invariant.rows

pub add_tuple-requires-clause-can : goal.add_tuple-requires-clause-can
add_tuple-requires-clause-can g c =
    let places = c.args.places.now in
    let n = c.loop-place.place-index in
    let place : ClassStripe = get_or places n no_place in
    (next_can raised_all CanAddTuple c.args.tuple.now places (g.H.Holder.seen c.args.holder.now) n (g.H.Holder.seen c.loop-place.holder) place c.loop-place-test.true (get_or_default places n no_place place c.loop-place-test.true)
    c.loop-place.invariant.rows).can

pub loop-place-preserved : goal.loop-place-preserved
loop-place-preserved g c =
    let places = c.args.places.now in
    let n = c.loop-place.place-index in
    let place : ClassStripe = get_or places n no_place in
    let mid : Holding = g.H.Holder.seen c.loop-place.holder in
    record {
      rows = one_changed_more raised_all CanAddTuple c.args.tuple.now places (g.H.Holder.seen c.args.holder.now) n mid place c.loop-place-test.true (get_or_default places n no_place place c.loop-place-test.true)
          c.loop-place.invariant.rows (changes_of_class mid.table place.class) (g.H.Holder.seen c.add_tuple.new.self) c.in_ok-add_tuple.ensures.ok;
      sound = λ spec h. c.in_ok-add_tuple.ensures.sound spec (c.loop-place.invariant.sound spec h);
    }

-- where memory is wanted only some of its rows are added
pub returns-in_err-add_tuple-clause-alike : goal.returns-in_err-add_tuple-clause-alike
returns-in_err-add_tuple-clause-alike g c =
    let places = c.args.places.now in
    let n = c.loop-place.place-index in
    let place : ClassStripe = get_or places n no_place in
    at_err _ (partly_so raised_all CanAddTuple c.args.tuple.now places (g.H.Holder.seen c.args.holder.now) n (g.H.Holder.seen c.loop-place.holder) place c.loop-place-test.true (get_or_default places n no_place place c.loop-place-test.true)
    c.loop-place.invariant.rows (g.H.Holder.seen c.add_tuple.new.self) c.in_err-add_tuple.ensures.err)

pub returns-in_err-add_tuple-clause-lent : goal.returns-in_err-add_tuple-clause-lent
returns-in_err-add_tuple-clause-lent g c =
    let places = c.args.places.now in
    let n = c.loop-place.place-index in
    let place : ClassStripe = get_or places n no_place in
    partly_lent_so raised_all CanAddTuple c.args.tuple.now places (g.H.Holder.seen c.args.holder.now) n (g.H.Holder.seen c.loop-place.holder) place c.loop-place-test.true (get_or_default places n no_place place c.loop-place-test.true)
    c.loop-place.invariant.rows (g.H.Holder.seen c.add_tuple.new.self) c.in_err-add_tuple.ensures.err

pub returns-clause-ok : goal.returns-clause-ok
returns-clause-ok g c =
    all_are_changed raised_all CanAddTuple c.args.tuple.now c.args.places.now (g.H.Holder.seen c.args.holder.now) c.loop-place.place-index (g.H.Holder.seen c.loop-place.holder) (omega arith) c.loop-place.invariant.rows
