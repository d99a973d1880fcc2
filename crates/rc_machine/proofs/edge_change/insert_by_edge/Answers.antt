use Rattle.std.proofs.Common.{◌≡◌, ◌<◌, ◌∷◌, ◌∙◌, Err, length, None, refl, subst, sym, ap, map, [], List}
use Rattle.rc_machine.proofs.Imports.{In, Inserted, Present, Insert, class_of, edge_table, AreOfOneRelation, CanRaiseNew, HasRoomFor, held_of, reverted, with_tuple_at, IsFirstKept, EdgeShape, HaveRoom, IsSameButLent, HasAnsweredByPath, HasReplied, told_answer, plan_at, ClassStripe}
use Rattle.rc_machine.proofs.EdgeChangeLemmas.{done, insert_replies, present_replies, unanswered}
use Rattle.rc_machine.proofs.GoLemmas.{applied_told, told_alike}
use Rattle.rc_machine.proofs.InsertLemmas.{all_added, first_can, first_columns, first_exclusive, first_held, first_known, first_room, first_used, half_alike, half_lent, half_table, left_can, left_places, not_none, nowhere, somewhere, table, table_known, whole}
use Rattle.rc_machine.proofs.LentLemmas.{lent_again, lent_goes_on}
use Rattle.rc_machine.proofs.ReadLemmas.{is_held}
use Rattle.rc_machine.proofs.RevertLemmas.{partly_alike, partly_lent}
use Rattle.rc_machine.proofs.edge_change.insert_by_edge.Given.{Over}
use Rattle.rc_machine.proofs.edge_change.insert_by_edge.Goals.{After-fragment-fragment, In-Ok, In_ok-make_room, Start}
use Rattle.rc_machine.proofs.edge_change.insert_by_edge.Goals as goal

-- what is held, as taken, is of one relation
one : (g : Over) (c : Start g) → AreOfOneRelation c.args.compiled.now.spec (held_of (g.H.Holder.seen c.args.holder.now))
one g c = g.met.H.Holder.sound_rows c.args.holder.now c.args.compiled.now.spec c.requires.sound

-- the fragment's table is the specification's
tabled : (g : Over) (c : After-fragment-fragment g) → c.fragment-fragment.result.now.table ≡ edge_table c.args.compiled.now.spec
tabled g c = c.fragment-fragment.ensures.table ∙ c.requires.locked.table

-- the path's edge is the first of its class whose rows are kept
lead : (g : Over) (c : In_ok-make_room g) → IsFirstKept (edge_table c.args.compiled.now.spec) (class_of c.args.compiled.now.spec c.args.path.edge) c.args.path.edge
lead g c =
    let spec = c.args.compiled.now.spec in
    subst (λ k. IsFirstKept (edge_table spec) k c.args.path.edge) c.edge.ensures.class
    (subst (λ (z : List EdgeShape). IsFirstKept z c.edge.result.now.class c.args.path.edge) (c.fragment-fragment.ensures.table ∙ c.requires.locked.table)
    (c.is_first_kept.ensures.0 c.if-not-is_first_kept.false))

pub is_first_kept-requires : goal.is_first_kept-requires
is_first_kept-requires g c =
    let spec = c.args.compiled.now.spec in
    subst (λ (z : List EdgeShape). c.args.path.edge < length z) (sym (tabled g (goal.at.is_first_kept-requires g c).After-fragment-fragment))
    (table_known spec c.args.path.edge c.requires.locked.path.locks.edge)

-- the first place has room
roomy : (g : Over) (c : In_ok-make_room g) → HaveRoom (c.in-Some.first.now ∷ []) (g.H.Holder.seen c.make_room.new.holder)
roomy g c = subst (λ (ps : List ClassStripe). HaveRoom ps (g.H.Holder.seen c.make_room.new.holder)) c.from_ref.ensures.value c.in_ok-make_room.ensures.room

-- the first place's rows are added
added : (g : Over) (c : In-Ok g) → g.H.Holder.seen c.add_new_tuple.new.self ≡ with_tuple_at c.args.stripe (class_of c.args.compiled.now.spec c.args.path.edge) c.args.call.now.args (g.H.Holder.seen c.make_room.new.holder)
added g c = subst (λ k. g.H.Holder.seen c.add_new_tuple.new.self ≡ with_tuple_at c.args.stripe k c.args.call.now.args (g.H.Holder.seen c.make_room.new.holder)) c.edge.ensures.class c.in-Ok.ensures.ok

pub fragment-fragment-requires : goal.fragment-fragment-requires
fragment-fragment-requires g c = is_held (held_of (g.H.Holder.seen c.args.holder.now)) c.args.stripe c.requires.locked.held

pub place_classes_from-requires-clause-whole : goal.place_classes_from-requires-clause-whole
place_classes_from-requires-clause-whole g c = let at = goal.at.place_classes_from-requires-clause-whole g c in whole c.args.compiled.now c.args.call.now c.args.path c.args.stripe (g.H.Holder.seen c.args.holder.now) c.requires.locked (one g at.Start) c.requires.insert

pub unreachable-requires : goal.unreachable-requires
unreachable-requires g c = let at = goal.at.unreachable-requires g c in not_none c.args.compiled.now c.args.call.now c.args.path c.args.stripe (g.H.Holder.seen c.args.holder.now) c.requires.locked (one g at.Start) c.requires.insert c.deref.result.now (c.deref.ensures.value ∙ c.in_ok-place_classes_from.ensures) c.in_default.ensures.cases

pub make_room-requires-clause-exclusive : goal.make_room-requires-clause-exclusive
make_room-requires-clause-exclusive g c q m =
    let at = goal.at.make_room-requires-clause-exclusive g c in
    first_exclusive c.args.compiled.now c.args.call.now c.args.path c.args.stripe (g.H.Holder.seen c.args.holder.now) c.requires.locked (one g at.Start) c.requires.insert c.deref.result.now (c.deref.ensures.value ∙ c.in_ok-place_classes_from.ensures) c.in-Some.first.now c.in-Some.others.now c.in-Some.ensures.cases.0 q (subst (In q) c.from_ref.ensures.value m)

pub make_room-requires-clause-used : goal.make_room-requires-clause-used
make_room-requires-clause-used g c q m =
    let at = goal.at.make_room-requires-clause-used g c in
    first_used c.args.compiled.now c.args.call.now c.args.path c.args.stripe (g.H.Holder.seen c.args.holder.now) c.requires.locked (one g at.Start) c.requires.insert c.deref.result.now (c.deref.ensures.value ∙ c.in_ok-place_classes_from.ensures) c.in-Some.first.now c.in-Some.others.now c.in-Some.ensures.cases.0 q (subst (In q) c.from_ref.ensures.value m)

pub add_new_tuple-requires-clause-exclusive : goal.add_new_tuple-requires-clause-exclusive
add_new_tuple-requires-clause-exclusive g c = let at = goal.at.add_new_tuple-requires-clause-exclusive g c in first_held c.args.compiled.now c.args.call.now c.args.path c.args.stripe (g.H.Holder.seen c.args.holder.now) c.requires.locked (one g at.Start) c.requires.insert c.deref.result.now (c.deref.ensures.value ∙ c.in_ok-place_classes_from.ensures) c.in-Some.first.now c.in-Some.others.now c.in-Some.ensures.cases.0 (g.H.Holder.seen c.make_room.new.holder) c.in_ok-make_room.ensures.held c.in_ok-make_room.ensures.lent (roomy g at.In_ok-make_room) c.fragment-fragment.result.now c.fragment-fragment.ensures

pub add_new_tuple-requires-clause-known : goal.add_new_tuple-requires-clause-known
add_new_tuple-requires-clause-known g c = let at = goal.at.add_new_tuple-requires-clause-known g c in first_known c.args.compiled.now c.args.call.now c.args.path c.args.stripe (g.H.Holder.seen c.args.holder.now) c.requires.locked (one g at.Start) c.requires.insert c.deref.result.now (c.deref.ensures.value ∙ c.in_ok-place_classes_from.ensures) c.in-Some.first.now c.in-Some.others.now c.in-Some.ensures.cases.0 (g.H.Holder.seen c.make_room.new.holder) c.in_ok-make_room.ensures.held c.in_ok-make_room.ensures.lent (roomy g at.In_ok-make_room) c.fragment-fragment.result.now c.fragment-fragment.ensures

pub add_new_tuple-requires-clause-first : goal.add_new_tuple-requires-clause-first
add_new_tuple-requires-clause-first g c =
    let at = goal.at.add_new_tuple-requires-clause-first g c in
    subst (λ k. IsFirstKept (g.H.Holder.seen c.make_room.new.holder).table k c.args.path.edge) (sym c.edge.ensures.class)
    (subst (λ z. IsFirstKept z (class_of c.args.compiled.now.spec c.args.path.edge) c.args.path.edge) (sym (table c.args.compiled.now c.args.call.now c.args.path c.args.stripe (g.H.Holder.seen c.args.holder.now) c.requires.locked (one g at.Start) c.requires.insert c.deref.result.now (c.deref.ensures.value ∙ c.in_ok-place_classes_from.ensures) c.in-Some.first.now c.in-Some.others.now c.in-Some.ensures.cases.0 (g.H.Holder.seen c.make_room.new.holder) c.in_ok-make_room.ensures.held c.in_ok-make_room.ensures.lent (roomy g at.In_ok-make_room) c.fragment-fragment.result.now c.fragment-fragment.ensures)) (lead g at.In_ok-make_room))

pub add_new_tuple-requires-clause-owned : goal.add_new_tuple-requires-clause-owned
add_new_tuple-requires-clause-owned g c =
    let at = goal.at.add_new_tuple-requires-clause-owned g c in
    subst (λ k. HasRoomFor (g.H.Holder.seen c.make_room.new.holder) c.args.stripe k) (sym c.edge.ensures.class) (first_room c.args.compiled.now c.args.call.now c.args.path c.args.stripe (g.H.Holder.seen c.args.holder.now) c.requires.locked (one g at.Start) c.requires.insert c.deref.result.now (c.deref.ensures.value ∙ c.in_ok-place_classes_from.ensures) c.in-Some.first.now c.in-Some.others.now c.in-Some.ensures.cases.0 (g.H.Holder.seen c.make_room.new.holder) c.in_ok-make_room.ensures.held c.in_ok-make_room.ensures.lent (roomy g at.In_ok-make_room) c.fragment-fragment.result.now c.fragment-fragment.ensures)

pub add_new_tuple-requires-clause-columns : goal.add_new_tuple-requires-clause-columns
add_new_tuple-requires-clause-columns g c = let at = goal.at.add_new_tuple-requires-clause-columns g c in first_columns c.args.compiled.now c.args.call.now c.args.path c.args.stripe (g.H.Holder.seen c.args.holder.now) c.requires.locked (one g at.Start) c.requires.insert c.deref.result.now (c.deref.ensures.value ∙ c.in_ok-place_classes_from.ensures) c.in-Some.first.now c.in-Some.others.now c.in-Some.ensures.cases.0 (g.H.Holder.seen c.make_room.new.holder) c.in_ok-make_room.ensures.held c.in_ok-make_room.ensures.lent (roomy g at.In_ok-make_room) c.fragment-fragment.result.now c.fragment-fragment.ensures

pub add_new_tuple-requires-clause-can : goal.add_new_tuple-requires-clause-can
add_new_tuple-requires-clause-can g c =
    let at = goal.at.add_new_tuple-requires-clause-can g c in
    subst (λ k. CanRaiseNew (g.H.Holder.seen c.make_room.new.holder) c.args.stripe k c.args.path.edge c.args.call.now.args) (sym c.edge.ensures.class) (first_can c.args.compiled.now c.args.call.now c.args.path c.args.stripe (g.H.Holder.seen c.args.holder.now) c.requires.locked (one g at.Start) c.requires.insert c.deref.result.now (c.deref.ensures.value ∙ c.in_ok-place_classes_from.ensures) c.in-Some.first.now c.in-Some.others.now c.in-Some.ensures.cases.0 (g.H.Holder.seen c.make_room.new.holder) c.in_ok-make_room.ensures.held c.in_ok-make_room.ensures.lent (roomy g at.In_ok-make_room) c.fragment-fragment.result.now c.fragment-fragment.ensures)

pub returns-in-Err-There-clause-answered : goal.returns-in-Err-There-clause-answered
returns-in-Err-There-clause-answered g c =
    let at = goal.at.returns-in-Err-There-clause-answered g c in
    let old = g.H.Holder.seen c.args.holder.now in
    let mid = g.H.Holder.seen c.make_room.new.holder in
    let new = g.H.Holder.seen c.add_new_tuple.new.self in
    let there = c.in-Err-There.ensures.there (ap Err c.in-Err-There.field-0-is) in
    let found = somewhere c.args.compiled.now c.args.call.now c.args.path c.args.stripe (g.H.Holder.seen c.args.holder.now) c.requires.locked (one g at.Start) c.requires.insert c.deref.result.now (c.deref.ensures.value ∙ c.in_ok-place_classes_from.ensures) c.in-Some.first.now c.in-Some.others.now c.in-Some.ensures.cases.0 (g.H.Holder.seen c.make_room.new.holder) c.in_ok-make_room.ensures.held c.in_ok-make_room.ensures.lent (roomy g at.In_ok-make_room) c.fragment-fragment.result.now c.fragment-fragment.ensures there.0 in
    let held : held_of new ≡ held_of old = ap held_of there.1 ∙ c.in_ok-make_room.ensures.held in
    let lent : IsSameButLent old new = subst (IsSameButLent old) (sym there.1) c.in_ok-make_room.ensures.lent in
    subst (λ reply. HasAnsweredByPath c.args.compiled.now c.args.call.now old new (told_answer done reply)) (sym c.tell.ensures) (record {
      answered = subst (λ z. HasReplied c.args.compiled.now.spec (plan_at c.args.compiled.now.plans c.args.call.now.op) c.args.call.now z Present) (sym held)
          (present_replies c.args.compiled.now c.args.call.now c.args.path c.args.stripe (g.H.Holder.seen c.args.holder.now) c.requires.locked (one g at.Start) c.requires.insert c.fragment-fragment.result.now c.fragment-fragment.ensures found.0 found.1);
      taken = told_alike old new (lent_goes_on old new lent) (ap (map reverted) held) c.requires.locked.taken;
      lent = lent;
    })

pub returns-in-Err-Memory-clause-answered : goal.returns-in-Err-Memory-clause-answered
returns-in-Err-Memory-clause-answered g c =
    let old = g.H.Holder.seen c.args.holder.now in
    let mid = g.H.Holder.seen c.make_room.new.holder in
    let new = g.H.Holder.seen c.add_new_tuple.new.self in
    let partly = c.in-Err-Memory.ensures.err in
    let lent : IsSameButLent old new = lent_again old mid new c.in_ok-make_room.ensures.lent (partly_lent c.args.stripe c.edge.result.now.class c.args.call.now.args mid new partly) in
    record {
      answered = tt;
      taken = told_alike old new (lent_goes_on old new lent) (partly_alike c.args.stripe c.edge.result.now.class c.args.call.now.args mid new partly ∙ ap (map reverted) c.in_ok-make_room.ensures.held) c.requires.locked.taken;
      lent = lent;
    }

pub add_placed-requires-clause-table : goal.add_placed-requires-clause-table
add_placed-requires-clause-table g c = let at = goal.at.add_placed-requires-clause-table g c in half_table c.args.compiled.now c.args.call.now c.args.path c.args.stripe (g.H.Holder.seen c.args.holder.now) c.requires.locked (one g at.Start) c.requires.insert c.deref.result.now (c.deref.ensures.value ∙ c.in_ok-place_classes_from.ensures) c.in-Some.first.now c.in-Some.others.now c.in-Some.ensures.cases.0 (g.H.Holder.seen c.make_room.new.holder) c.in_ok-make_room.ensures.held c.in_ok-make_room.ensures.lent (roomy g at.In_ok-make_room) c.fragment-fragment.result.now c.fragment-fragment.ensures c.in-Ok.ensures.none (g.H.Holder.seen c.add_new_tuple.new.self) (added g at.In-Ok)

pub add_placed-requires-clause-places : goal.add_placed-requires-clause-places
add_placed-requires-clause-places g c = let at = goal.at.add_placed-requires-clause-places g c in left_places c.args.compiled.now c.args.call.now c.args.path c.args.stripe (g.H.Holder.seen c.args.holder.now) c.requires.locked (one g at.Start) c.requires.insert c.deref.result.now (c.deref.ensures.value ∙ c.in_ok-place_classes_from.ensures) c.in-Some.first.now c.in-Some.others.now c.in-Some.ensures.cases.0 (g.H.Holder.seen c.make_room.new.holder) c.in_ok-make_room.ensures.held c.in_ok-make_room.ensures.lent (roomy g at.In_ok-make_room) c.fragment-fragment.result.now c.fragment-fragment.ensures c.in-Ok.ensures.none (g.H.Holder.seen c.add_new_tuple.new.self) (added g at.In-Ok)

pub add_placed-requires-clause-can : goal.add_placed-requires-clause-can
add_placed-requires-clause-can g c = let at = goal.at.add_placed-requires-clause-can g c in left_can c.args.compiled.now c.args.call.now c.args.path c.args.stripe (g.H.Holder.seen c.args.holder.now) c.requires.locked (one g at.Start) c.requires.insert c.deref.result.now (c.deref.ensures.value ∙ c.in_ok-place_classes_from.ensures) c.in-Some.first.now c.in-Some.others.now c.in-Some.ensures.cases.0 (g.H.Holder.seen c.make_room.new.holder) c.in_ok-make_room.ensures.held c.in_ok-make_room.ensures.lent (roomy g at.In_ok-make_room) c.fragment-fragment.result.now c.fragment-fragment.ensures c.in-Ok.ensures.none (g.H.Holder.seen c.add_new_tuple.new.self) (added g at.In-Ok)

pub returns-in_err-add_placed-clause-answered : goal.returns-in_err-add_placed-clause-answered
returns-in_err-add_placed-clause-answered g c =
    let at = goal.at.returns-in_err-add_placed-clause-answered g c in
    let old = g.H.Holder.seen c.args.holder.now in
    let half = g.H.Holder.seen c.add_new_tuple.new.self in
    let new = g.H.Holder.seen c.add_placed.new.holder in
    let lent : IsSameButLent old new = lent_again old half new (half_lent c.args.compiled.now c.args.call.now c.args.path c.args.stripe (g.H.Holder.seen c.args.holder.now) c.requires.locked (one g at.Start) c.requires.insert c.deref.result.now (c.deref.ensures.value ∙ c.in_ok-place_classes_from.ensures) c.in-Some.first.now c.in-Some.others.now c.in-Some.ensures.cases.0 (g.H.Holder.seen c.make_room.new.holder) c.in_ok-make_room.ensures.held c.in_ok-make_room.ensures.lent (roomy g at.In_ok-make_room) c.fragment-fragment.result.now c.fragment-fragment.ensures c.in-Ok.ensures.none (g.H.Holder.seen c.add_new_tuple.new.self) (added g at.In-Ok)) c.in_err-add_placed.ensures.lent in
    unanswered c.args.compiled.now c.args.call.now old new c.from_residual-in_err-add_placed.result c.args.reply.now c.from_residual-in_err-add_placed.ensures.0
    (told_alike old new (lent_goes_on old new lent) (c.in_err-add_placed.ensures.alike ∙ half_alike c.args.compiled.now c.args.call.now c.args.path c.args.stripe (g.H.Holder.seen c.args.holder.now) c.requires.locked (one g at.Start) c.requires.insert c.deref.result.now (c.deref.ensures.value ∙ c.in_ok-place_classes_from.ensures) c.in-Some.first.now c.in-Some.others.now c.in-Some.ensures.cases.0 (g.H.Holder.seen c.make_room.new.holder) c.in_ok-make_room.ensures.held c.in_ok-make_room.ensures.lent (roomy g at.In_ok-make_room) c.fragment-fragment.result.now c.fragment-fragment.ensures c.in-Ok.ensures.none (g.H.Holder.seen c.add_new_tuple.new.self) (added g at.In-Ok)) c.requires.locked.taken) lent

pub returns-clause-answered : goal.returns-clause-answered
returns-clause-answered g c =
    let at = goal.at.returns-clause-answered g c in
    let spec = c.args.compiled.now.spec in
    let old = g.H.Holder.seen c.args.holder.now in
    let half = g.H.Holder.seen c.add_new_tuple.new.self in
    let new = g.H.Holder.seen c.add_placed.new.holder in
    let lent : IsSameButLent old new = lent_again old half new (half_lent c.args.compiled.now c.args.call.now c.args.path c.args.stripe (g.H.Holder.seen c.args.holder.now) c.requires.locked (one g at.Start) c.requires.insert c.deref.result.now (c.deref.ensures.value ∙ c.in_ok-place_classes_from.ensures) c.in-Some.first.now c.in-Some.others.now c.in-Some.ensures.cases.0 (g.H.Holder.seen c.make_room.new.holder) c.in_ok-make_room.ensures.held c.in_ok-make_room.ensures.lent (roomy g at.In_ok-make_room) c.fragment-fragment.result.now c.fragment-fragment.ensures c.in-Ok.ensures.none (g.H.Holder.seen c.add_new_tuple.new.self) (added g at.In-Ok)) c.in_ok-add_placed.ensures.lent in
    let all = all_added c.args.compiled.now c.args.call.now c.args.path c.args.stripe (g.H.Holder.seen c.args.holder.now) c.requires.locked (one g at.Start) c.requires.insert c.deref.result.now (c.deref.ensures.value ∙ c.in_ok-place_classes_from.ensures) c.in-Some.first.now c.in-Some.others.now c.in-Some.ensures.cases.0 (g.H.Holder.seen c.make_room.new.holder) c.in_ok-make_room.ensures.held c.in_ok-make_room.ensures.lent (roomy g at.In_ok-make_room) c.fragment-fragment.result.now c.fragment-fragment.ensures c.in-Ok.ensures.none (g.H.Holder.seen c.add_new_tuple.new.self) (added g at.In-Ok) (held_of new) c.in_ok-add_placed.ensures.ok in
    let sound = c.in_ok-add_placed.ensures.sound spec (c.in-Ok.ensures.sound spec (c.in_ok-make_room.ensures.sound spec c.requires.sound)) in
    subst (λ reply. HasAnsweredByPath c.args.compiled.now c.args.call.now old new (told_answer done reply)) (sym c.tell-2.ensures) (record {
      answered = insert_replies c.args.compiled.now c.args.call.now c.args.path c.args.stripe (g.H.Holder.seen c.args.holder.now) c.requires.locked (one g at.Start) c.requires.insert c.fragment-fragment.result.now c.fragment-fragment.ensures (nowhere c.args.compiled.now c.args.call.now c.args.path c.args.stripe (g.H.Holder.seen c.args.holder.now) c.requires.locked (one g at.Start) c.requires.insert c.deref.result.now (c.deref.ensures.value ∙ c.in_ok-place_classes_from.ensures) c.in-Some.first.now c.in-Some.others.now c.in-Some.ensures.cases.0 (g.H.Holder.seen c.make_room.new.holder) c.in_ok-make_room.ensures.held c.in_ok-make_room.ensures.lent (roomy g at.In_ok-make_room) c.fragment-fragment.result.now c.fragment-fragment.ensures c.in-Ok.ensures.none) (held_of new) all (g.met.H.Holder.sound_rows c.add_placed.new.holder spec sound);
      taken = applied_told spec Insert c.args.call.now.args None [] old new Inserted (refl, all) (lent_goes_on old new lent) c.requires.locked.taken;
      lent = lent;
    })
