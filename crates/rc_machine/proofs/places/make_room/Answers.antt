use Rattle.std.proofs.Common.{◌≡◌, List, get_or, sym, subst, ◌∙◌}
use Rattle.rc_machine.proofs.Imports.{get_or_default, get_or_in, edge_table, HeldStripe, Holding, IsHeldExclusive, ClassStripe}
use Rattle.rc_machine.proofs.ClassLemmas.{used_known}
use Rattle.rc_machine.proofs.LentLemmas.{lent_again, lent_table}
use Rattle.rc_machine.proofs.PlaceLemmas.{no_place, room_held, room_lent, room_more}
use Rattle.rc_machine.proofs.places.make_room.Goals as goal

pub edge_count-requires : goal.edge_count-requires
edge_count-requires g c =
    let spec = c.args.compiled.now.spec in
    let places = c.args.places.now in
    let i = c.loop-place.place-index in
    used_known spec c.requires.sealed (get_or places i no_place).class (c.requires.used (get_or places i no_place) (get_or_in places i no_place c.loop-place-test.true))

pub own-requires : goal.own-requires
own-requires g c =
    let place : ClassStripe = get_or c.args.places.now c.loop-place.place-index no_place in
    subst (λ (held : List HeldStripe). IsHeldExclusive held place.stripe) (sym c.loop-place.invariant.held)
    (c.requires.exclusive place (get_or_in c.args.places.now c.loop-place.place-index no_place c.loop-place-test.true))

pub loop-place-preserved : goal.loop-place-preserved
loop-place-preserved g c =
    let spec = c.args.compiled.now.spec in
    let places = c.args.places.now in
    let i = c.loop-place.place-index in
    let place : ClassStripe = get_or places i no_place in
    let old : Holding = g.H.Holder.seen c.args.holder.now in
    let mid : Holding = g.H.Holder.seen c.loop-place.holder in
    let new : Holding = g.H.Holder.seen c.own.new.self in
    let table : mid.table ≡ edge_table spec = lent_table old mid c.loop-place.invariant.lent ∙ c.requires.table in
    record {
      room = room_more spec i c.edge_count.result places place mid new c.loop-place-test.true (get_or_default places i no_place place c.loop-place-test.true) table
          (c.requires.used place (get_or_in places i no_place c.loop-place-test.true)) c.edge_count.ensures c.loop-place.invariant.room c.in_ok-own.ensures.ok;
      held = room_held place.stripe c.edge_count.result mid new c.in_ok-own.ensures.ok ∙ c.loop-place.invariant.held;
      lent = lent_again old mid new c.loop-place.invariant.lent (room_lent place.stripe c.edge_count.result mid new c.in_ok-own.ensures.ok);
      sound = λ spec h. c.in_ok-own.ensures.sound spec (c.loop-place.invariant.sound spec h);
    }
