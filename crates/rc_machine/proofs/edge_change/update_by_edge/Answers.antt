use Rattle.std.proofs.Common.{◌≡◌, Option, Some, refl, subst, sym, []}
use Rattle.rc_machine.proofs.Imports.{In, Pairs, cols_of, fits_at_op, bound, edge_at, source_and_key, Updated, Update, Spec, shape_of, AreOfOneRelation, held_of, HasAnsweredByPath, IsTupleFound, told_answer}
use Rattle.rc_machine.proofs.AccessRunLemmas.{lent_over}
use Rattle.rc_machine.proofs.EdgeChangeLemmas.{can_update, done, unanswered, unfound_replies, update_given, update_replies}
use Rattle.rc_machine.proofs.GoLemmas.{applied_told, told_alike}
use Rattle.rc_machine.proofs.LentLemmas.{lent_goes_on}
use Rattle.rc_machine.proofs.ReadLemmas.{is_held}
use Rattle.rc_machine.proofs.edge_change.update_by_edge.Given.{Over}
use Rattle.rc_machine.proofs.edge_change.update_by_edge.Goals.{In-Some, In_ok-old, Start}
use Rattle.rc_machine.proofs.edge_change.update_by_edge.Goals as goal

-- what is held, as taken, is of one relation
one : (g : Over) (c : Start g) → AreOfOneRelation c.args.compiled.now.spec (held_of (g.H.Holder.seen c.args.holder.now))
one g c = g.met.H.Holder.sound_rows c.args.holder.now c.args.compiled.now.spec c.requires.sound

-- what was found, as the edge's
abbrev IsLooked : (g : Over) (c : In_ok-old g) → Option Pairs → Type 0
IsLooked g c found = IsTupleFound (shape_of c.args.compiled.now.spec c.args.path.edge) c.fragment-fragment.result.now.now c.args.path.edge c.args.call.now.args found

looked : (g : Over) (c : In_ok-old g) → IsLooked g c c.in_ok-old.field-0
looked g c =
    let spec = c.args.compiled.now.spec in
    let rows = c.fragment-fragment.result.now.now in
    let found = c.in_ok-old.field-0 in
    subst (λ e. IsTupleFound (shape_of spec e) rows e c.args.call.now.args found) c.of-read.ensures.edge
    (subst (λ (s : Spec). IsTupleFound (shape_of s c.of-read.result.edge) rows c.of-read.result.edge c.args.call.now.args found) c.of-read.ensures.spec c.in_ok-old.ensures)

replaced : (g : Over) (c : In-Some g) → IsLooked g c.before (Some c.in-Some.old)
replaced g c = subst (IsLooked g c.before) c.in-Some.is (looked g c.before)

pub fragment-fragment-requires : goal.fragment-fragment-requires
fragment-fragment-requires g c = is_held (held_of (g.H.Holder.seen c.args.holder.now)) c.args.stripe c.requires.locked.held

pub find_tuple-requires-clause-columns : goal.find_tuple-requires-clause-columns
find_tuple-requires-clause-columns g c w m =
    subst (λ (s : Spec). cols_of w.1 ≡ bound s (edge_at s w.0).to) (sym c.of-read.ensures.spec)
    (lent_over c.args.compiled.now c.args.call.now c.args.path c.args.stripe (g.H.Holder.seen c.args.holder.now) c.requires.locked c.fragment-fragment.result.now c.fragment-fragment.ensures (one g (goal.at.find_tuple-requires-clause-columns g c).Start) w m)

pub find_tuple-requires-clause-tuple : goal.find_tuple-requires-clause-tuple
find_tuple-requires-clause-tuple g c = (fits_at_op c.args.compiled.now.spec c.args.call.now c.requires.locked.fits).tuple

pub find_tuple-requires-clause-given : goal.find_tuple-requires-clause-given
find_tuple-requires-clause-given g c k m =
    let spec = c.args.compiled.now.spec in
    update_given c.args.compiled.now c.args.call.now c.args.path c.args.stripe (g.H.Holder.seen c.args.holder.now) c.requires.locked (one g (goal.at.find_tuple-requires-clause-given g c).Start) c.requires.update k
    (subst (λ e. In k (source_and_key spec (edge_at spec e))) c.of-read.ensures.edge (subst (λ (s : Spec). In k (source_and_key s (edge_at s c.of-read.result.edge))) c.of-read.ensures.spec m))

pub returns-in_default-clause-answered : goal.returns-in_default-clause-answered
returns-in_default-clause-answered g c =
    let at = goal.at.returns-in_default-clause-answered g c in
    let old = g.H.Holder.seen c.args.holder.now in
    subst (λ reply. HasAnsweredByPath c.args.compiled.now c.args.call.now old old (told_answer done reply)) (sym c.tell.ensures) (record {
      answered = unfound_replies c.args.compiled.now c.args.call.now c.args.path c.args.stripe (g.H.Holder.seen c.args.holder.now) c.requires.locked (one g at.Start) c.requires.update c.fragment-fragment.result.now c.fragment-fragment.ensures
          (subst (IsLooked g at.In_ok-old) c.in_default.is (looked g at.In_ok-old));
      taken = c.requires.locked.taken;
      lent = refl;
    })

pub replace-requires-clause-can : goal.replace-requires-clause-can
replace-requires-clause-can g c =
    let at = goal.at.replace-requires-clause-can g c in
    can_update c.args.compiled.now c.args.call.now c.args.path c.args.stripe (g.H.Holder.seen c.args.holder.now) c.requires.locked (one g at.Start) c.requires.update c.fragment-fragment.result.now c.fragment-fragment.ensures c.in-Some.old (replaced g at.In-Some)

pub returns-in_err-replace-clause-answered : goal.returns-in_err-replace-clause-answered
returns-in_err-replace-clause-answered g c =
    let old = g.H.Holder.seen c.args.holder.now in
    let new = g.H.Holder.seen c.replace.new.holder in
    let failed = c.in_err-replace.ensures in
    unanswered c.args.compiled.now c.args.call.now old new c.from_residual-in_err-replace.result c.args.reply.now c.from_residual-in_err-replace.ensures.0
    (told_alike old new (lent_goes_on old new failed.lent) failed.alike c.requires.locked.taken) failed.lent

pub returns-clause-answered : goal.returns-clause-answered
returns-clause-answered g c =
    let at = goal.at.returns-clause-answered g c in
    let spec = c.args.compiled.now.spec in
    let old = g.H.Holder.seen c.args.holder.now in
    let new = g.H.Holder.seen c.replace.new.holder in
    let put = c.in_ok-replace.ensures in
    subst (λ reply. HasAnsweredByPath c.args.compiled.now c.args.call.now old new (told_answer done reply)) (sym c.tell-2.ensures) (record {
      answered = update_replies c.args.compiled.now c.args.call.now c.args.path c.args.stripe (g.H.Holder.seen c.args.holder.now) c.requires.locked (one g at.Start) c.requires.update c.fragment-fragment.result.now c.fragment-fragment.ensures
          c.in-Some.old (replaced g at.In-Some) (held_of new) put.ok (g.met.H.Holder.sound_rows c.replace.new.holder spec (put.sound spec c.requires.sound));
      taken = applied_told spec Update c.args.call.now.args (Some c.in-Some.old) [] old new (Updated c.in-Some.old) (refl, put.ok) (lent_goes_on old new put.lent) c.requires.locked.taken;
      lent = put.lent;
    })
