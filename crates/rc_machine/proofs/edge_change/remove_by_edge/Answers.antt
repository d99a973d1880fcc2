use Rattle.std.proofs.Common.{◌≡◌, ◌∷◌, Err, List, None, Option, Some, ap, drop, filter, map, refl, subst, sym, take, []}
use Rattle.rc_machine.proofs.Imports.{In, Pairs, cols_of, matches, fits_at_op, bound, edge_at, source_and_key, Absent, Removed, Remove, Spec, shape_of, AreOfOneRelation, HeldStripe, held_of, reverted, plan_at, Statement, IsTupleFound, HasRunCall, told_answer}
use Rattle.rc_machine.proofs.AccessRunLemmas.{lent_over}
use Rattle.rc_machine.proofs.ArriveLemmas.{ComesToApply}
use Rattle.rc_machine.proofs.EdgeChangeLemmas.{absent_replies, done, if_stopped, only_match, remove_given, remove_whole, run_in_place, run_since, run_stopped, stripes_of_removed, unanswered}
use Rattle.rc_machine.proofs.GoLemmas.{applied_told, told_alike}
use Rattle.rc_machine.proofs.LateLemmas.{arrives_behind, can_remove, remove_replies}
use Rattle.rc_machine.proofs.LentLemmas.{lent_goes_on}
use Rattle.rc_machine.proofs.ReadLemmas.{is_held}
use Rattle.rc_machine.proofs.edge_change.remove_by_edge.Given.{Over}
use Rattle.rc_machine.proofs.edge_change.remove_by_edge.Goals.{In-Some, In_ok-lock_found, In_ok-removed, Start}
use Rattle.rc_machine.proofs.edge_change.remove_by_edge.Goals as goal

-- what is held, as taken, is of one relation
one : (g : Over) (c : Start g) → AreOfOneRelation c.args.compiled.now.spec (held_of (g.H.Holder.seen c.args.holder.now))
one g c = g.met.H.Holder.sound_rows c.args.holder.now c.args.compiled.now.spec c.requires.sound

-- what was found, as the edge's
abbrev IsLooked : (g : Over) (c : In_ok-removed g) → Option Pairs → Type 0
IsLooked g c found = IsTupleFound (shape_of c.args.compiled.now.spec c.args.path.edge) c.fragment-fragment.result.now.now c.args.path.edge c.args.call.now.args found

looked : (g : Over) (c : In_ok-removed g) → IsLooked g c c.in_ok-removed.field-0
looked g c =
    let spec = c.args.compiled.now.spec in
    let rows = c.fragment-fragment.result.now.now in
    let found = c.in_ok-removed.field-0 in
    subst (λ e. IsTupleFound (shape_of spec e) rows e c.args.call.now.args found) c.of-read.ensures.edge
    (subst (λ (s : Spec). IsTupleFound (shape_of s c.of-read.result.edge) rows c.of-read.result.edge c.args.call.now.args found) c.of-read.ensures.spec c.in_ok-removed.ensures)

removed : (g : Over) (c : In-Some g) → IsLooked g c.before (Some c.in-Some.removed)
removed g c = subst (IsLooked g c.before) c.in-Some.is (looked g c.before)

pub fragment-fragment-requires : goal.fragment-fragment-requires
fragment-fragment-requires g c = is_held (held_of (g.H.Holder.seen c.args.holder.now)) c.args.stripe c.requires.locked.held

pub find_tuple-requires-clause-columns : goal.find_tuple-requires-clause-columns
find_tuple-requires-clause-columns g c w m =
    subst (λ (s : Spec). cols_of w.1 ≡ bound s (edge_at s w.0).to) (sym c.of-read.ensures.spec)
    (lent_over c.args.compiled.now c.args.call.now c.args.path c.args.stripe (g.H.Holder.seen c.args.holder.now) c.requires.locked c.fragment-fragment.result.now c.fragment-fragment.ensures (one g (goal.at.find_tuple-requires-clause-columns g c).Start) w m)

pub find_tuple-requires-clause-tuple : goal.find_tuple-requires-clause-tuple
find_tuple-requires-clause-tuple g c = (fits_at_op c.args.compiled.now.spec c.args.call.now c.requires.locked.fits).tuple

pub find_tuple-requires-clause-given : goal.find_tuple-requires-clause-given
find_tuple-requires-clause-given g c k m =
    let spec = c.args.compiled.now.spec in
    subst (In k) (sym (remove_given c.args.compiled.now c.args.call.now c.args.path c.args.stripe (g.H.Holder.seen c.args.holder.now) c.requires.locked (one g (goal.at.find_tuple-requires-clause-given g c).Start) c.requires.remove))
    (subst (λ e. In k (source_and_key spec (edge_at spec e))) c.of-read.ensures.edge (subst (λ (s : Spec). In k (source_and_key s (edge_at s c.of-read.result.edge))) c.of-read.ensures.spec m))

pub returns-in_default-clause-run : goal.returns-in_default-clause-run
returns-in_default-clause-run g c =
    let at = goal.at.returns-in_default-clause-run g c in
    let old = g.H.Holder.seen c.args.holder.now in
    subst (λ reply. HasRunCall c.args.compiled.now c.args.call.now old old (told_answer done reply)) (sym c.tell.ensures) (run_in_place c.args.compiled.now c.args.call.now old old done Absent tt (record {
      answered = absent_replies c.args.compiled.now c.args.call.now c.args.path c.args.stripe old c.requires.locked (one g at.Start) c.requires.remove c.fragment-fragment.result.now c.fragment-fragment.ensures
          (subst (IsLooked g at.In_ok-removed) c.in_default.is (looked g at.In_ok-removed));
      taken = c.requires.locked.taken;
      lent = refl;
    }))

pub lock_found-requires-clause-locked : goal.lock_found-requires-clause-locked
lock_found-requires-clause-locked g c = (c.args.stripe, c.requires.locked)

pub lock_found-requires-clause-found : goal.lock_found-requires-clause-found
lock_found-requires-clause-found g c =
    let at = goal.at.lock_found-requires-clause-found g c in
    only_match c.args.compiled.now c.args.call.now c.args.path c.args.stripe (g.H.Holder.seen c.args.holder.now) c.requires.locked (one g at.Start) c.requires.remove c.fragment-fragment.result.now c.fragment-fragment.ensures
    c.in-Some.removed (removed g at.In-Some)

pub lock_found-requires-clause-stripes : goal.lock_found-requires-clause-stripes
lock_found-requires-clause-stripes g c =
    let at = goal.at.lock_found-requires-clause-stripes g c in
    stripes_of_removed c.args.compiled.now c.args.call.now c.args.path c.args.stripe (g.H.Holder.seen c.args.holder.now) c.requires.locked (one g at.Start) c.requires.remove c.fragment-fragment.result.now c.fragment-fragment.ensures
    c.args.space.now.class_stripes.items c.requires.stripes c.in-Some.removed (removed g at.In-Some)

-- ---- once the late Locks are taken

module _ (g : Over) (c : In_ok-lock_found g) where
  abbrev spec : Spec
  spec = c.args.compiled.now.spec

  abbrev plan : List Statement
  plan = plan_at c.args.compiled.now.plans c.args.call.now.op

  abbrev mid : List HeldStripe
  mid = held_of (g.H.Holder.seen c.lock_found.new.holder)

  begun : AreOfOneRelation spec (held_of (g.H.Holder.seen c.args.holder.now))
  begun = g.met.H.Holder.sound_rows c.args.holder.now spec c.requires.sound

  still_one : AreOfOneRelation spec mid
  still_one = g.met.H.Holder.sound_rows c.lock_found.new.holder spec (c.in_ok-lock_found.ensures.sound spec c.requires.sound)

  only : filter (matches c.args.call.now.args) still_one.0 ≡ c.in-Some.removed ∷ []
  only = c.in_ok-lock_found.ensures.found still_one.0 still_one.1

  arrived : ComesToApply spec c.requires.locked.sealed plan c.args.call.now c.requires.locked.fits mid still_one
  arrived =
      arrives_behind spec c.requires.locked.sealed plan c.args.call.now c.args.path.edge
      (remove_whole c.args.compiled.now c.args.call.now c.args.path c.args.stripe (g.H.Holder.seen c.args.holder.now) c.requires.locked begun c.requires.remove) c.requires.remove c.requires.locked.fits mid still_one
      (take c.args.path.late (drop c.args.path.locks plan)) (drop c.args.path.late (drop c.args.path.locks plan)) c.requires.locked.path.locks.others c.in_ok-lock_found.ensures.behind

pub returns-in_err-lock_found-clause-run : goal.returns-in_err-lock_found-clause-run
returns-in_err-lock_found-clause-run g c =
    let failed = c.in_err-lock_found.ensures in
    let given = c.from_residual-in_err-lock_found.ensures in
    run_stopped c.args.compiled.now c.args.call.now (g.H.Holder.seen c.args.holder.now) (g.H.Holder.seen c.lock_found.new.holder) c.from_residual-in_err-lock_found.result c.args.reply.now c.in_err-lock_found.field-0.0 given.0 given.1
    failed.taken (λ h q. failed.stopped h (ap Err q)) (λ h q. failed.refused h (ap Err q)) failed.counted failed.goes_on

pub sub_rows-requires-clause-can : goal.sub_rows-requires-clause-can
sub_rows-requires-clause-can g c =
    let at = (goal.at.sub_rows-requires-clause-can g c).In_ok-lock_found in
    let locked = c.requires.locked in
    can_remove (spec g at) locked.sealed (plan g at) c.args.call.now locked.fits locked.planned c.requires.remove (mid g at) (still_one g at) (arrived g at) (c.in-Some.removed ∷ []) (only g at) c.in-Some.removed refl

pub returns-in_err-sub_rows-clause-run : goal.returns-in_err-sub_rows-clause-run
returns-in_err-sub_rows-clause-run g c =
    let compiled = c.args.compiled.now in
    let call = c.args.call.now in
    let old = g.H.Holder.seen c.args.holder.now in
    let mid = g.H.Holder.seen c.lock_found.new.holder in
    let new = g.H.Holder.seen c.sub_rows.new.holder in
    let locked = c.in_ok-lock_found.ensures in
    let failed = c.in_err-sub_rows.ensures in
    let result = c.from_residual-in_err-sub_rows.result in
    let given = c.from_residual-in_err-sub_rows.ensures in
    let reply = c.args.reply.now in
    run_since compiled call old mid new (told_answer result reply) locked.goes_on locked.counted
    (run_in_place compiled call mid new result reply (if_stopped result _ given.1)
    (unanswered compiled call mid new result reply given.0 (told_alike mid new (lent_goes_on mid new failed.lent) (ap (map reverted) failed.err) locked.taken) failed.lent))

pub returns-clause-run : goal.returns-clause-run
returns-clause-run g c =
    let at = (goal.at.returns-clause-run g c).In_ok-lock_found in
    let compiled = c.args.compiled.now in
    let call = c.args.call.now in
    let old = g.H.Holder.seen c.args.holder.now in
    let mid_seen = g.H.Holder.seen c.lock_found.new.holder in
    let new = g.H.Holder.seen c.sub_rows.new.holder in
    let locked = c.in_ok-lock_found.ensures in
    let gone = c.in_ok-sub_rows.ensures in
    let path = c.requires.locked in
    let answer = Removed c.in-Some.removed in
    subst (λ reply. HasRunCall compiled call old new (told_answer done reply)) (sym c.tell-2.ensures)
    (run_since compiled call old mid_seen new (told_answer done answer) locked.goes_on locked.counted (run_in_place compiled call mid_seen new done answer tt (record {
      answered = remove_replies (spec g at) path.sealed (plan g at) call path.fits path.planned c.requires.remove (mid g at) (still_one g at) (arrived g at) (c.in-Some.removed ∷ []) (only g at) (held_of new) answer (refl, gone.ok)
          (g.met.H.Holder.sound_rows c.sub_rows.new.holder compiled.spec (gone.sound compiled.spec (locked.sound compiled.spec c.requires.sound)));
      taken = applied_told compiled.spec Remove call.args None (c.in-Some.removed ∷ []) mid_seen new answer (refl, gone.ok) (lent_goes_on mid_seen new gone.lent) locked.taken;
      lent = gone.lent;
    })))
