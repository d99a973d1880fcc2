use Rattle.std.proofs.Common.{◌∙◌, None, refl, subst, sym, [], Option, List, ℕ}
use Rattle.rc_machine.proofs.Imports.{option_copied, Inserted, Insert, Spec, shape_of, AreOfOneRelation, held_of, HasAnsweredByPath, IsRowFound, told_answer}
use Rattle.rc_machine.proofs.EdgeChangeLemmas.{can_insert, done, insert_replies, present_replies, unanswered}
use Rattle.rc_machine.proofs.EdgeRowLemmas.{nothing_told, values_told}
use Rattle.rc_machine.proofs.GoLemmas.{applied_told, told_alike}
use Rattle.rc_machine.proofs.LentLemmas.{lent_goes_on}
use Rattle.rc_machine.proofs.ReadLemmas.{is_held}
use Rattle.rc_machine.proofs.edge_change.insert_looked_up.Given.{Over}
use Rattle.rc_machine.proofs.edge_change.insert_looked_up.Goals.{Else-is_some, In_ok-find_row, Start}
use Rattle.rc_machine.proofs.edge_change.insert_looked_up.Goals as goal

-- what is held, as taken, is of one relation
one : (g : Over) (c : Start g) → AreOfOneRelation c.args.compiled.now.spec (held_of (g.H.Holder.seen c.args.holder.now))
one g c = g.met.H.Holder.sound_rows c.args.holder.now c.args.compiled.now.spec c.requires.sound

-- what was looked up, as the edge's
abbrev IsLooked : (g : Over) (c : In_ok-find_row g) → Option (List ℕ) → Type 0
IsLooked g c found = IsRowFound (shape_of c.args.compiled.now.spec c.args.path.edge) c.fragment-fragment.result.now.now c.args.path.edge c.args.call.now.args found

looked : (g : Over) (c : In_ok-find_row g) → IsLooked g c (option_copied c.in_ok-find_row.field-0)
looked g c =
    let spec = c.args.compiled.now.spec in
    let rows = c.fragment-fragment.result.now.now in
    let found = option_copied c.in_ok-find_row.field-0 in
    subst (λ e. IsRowFound (shape_of spec e) rows e c.args.call.now.args found) c.of-read.ensures.edge
    (subst (λ (s : Spec). IsRowFound (shape_of s c.of-read.result.edge) rows c.of-read.result.edge c.args.call.now.args found) c.of-read.ensures.spec c.in_ok-find_row.ensures)

nowhere : (g : Over) (c : Else-is_some g) → IsLooked g c.before.before.before None
nowhere g c = subst (IsLooked g c.before.before.before) (nothing_told c.in_ok-find_row.field-0 (sym c.is_some.ensures ∙ c.if-is_some.false)) (looked g c.before.before.before)

pub fragment-fragment-requires : goal.fragment-fragment-requires
fragment-fragment-requires g c = is_held (held_of (g.H.Holder.seen c.args.holder.now)) c.args.stripe c.requires.locked.held

pub returns-then-is_some-clause-answered : goal.returns-then-is_some-clause-answered
returns-then-is_some-clause-answered g c =
    let at = goal.at.returns-then-is_some-clause-answered g c in
    let told = values_told c.in_ok-find_row.field-0 (sym c.is_some.ensures ∙ c.if-is_some.true) in
    let old = g.H.Holder.seen c.args.holder.now in
    subst (λ reply. HasAnsweredByPath c.args.compiled.now c.args.call.now old old (told_answer done reply)) (sym c.tell.ensures) (record {
      answered = present_replies c.args.compiled.now c.args.call.now c.args.path c.args.stripe (g.H.Holder.seen c.args.holder.now) c.requires.locked (one g at.Start) c.requires.insert c.fragment-fragment.result.now c.fragment-fragment.ensures told.0
          (subst (IsLooked g at.In_ok-find_row) told.1 (looked g at.In_ok-find_row));
      taken = c.requires.locked.taken;
      lent = refl;
    })

pub add_rows-requires-clause-can : goal.add_rows-requires-clause-can
add_rows-requires-clause-can g c =
    let at = goal.at.add_rows-requires-clause-can g c in
    can_insert c.args.compiled.now c.args.call.now c.args.path c.args.stripe (g.H.Holder.seen c.args.holder.now) c.requires.locked (one g at.Start) c.requires.insert c.fragment-fragment.result.now c.fragment-fragment.ensures (nowhere g at.Else-is_some)

pub returns-in_err-add_rows-clause-answered : goal.returns-in_err-add_rows-clause-answered
returns-in_err-add_rows-clause-answered g c =
    let old = g.H.Holder.seen c.args.holder.now in
    let new = g.H.Holder.seen c.add_rows.new.holder in
    let failed = c.in_err-add_rows.ensures in
    unanswered c.args.compiled.now c.args.call.now old new c.from_residual-in_err-add_rows.result c.args.reply.now c.from_residual-in_err-add_rows.ensures.0
    (told_alike old new (lent_goes_on old new failed.lent) failed.alike c.requires.locked.taken) failed.lent

pub returns-clause-answered : goal.returns-clause-answered
returns-clause-answered g c =
    let at = goal.at.returns-clause-answered g c in
    let spec = c.args.compiled.now.spec in
    let old = g.H.Holder.seen c.args.holder.now in
    let new = g.H.Holder.seen c.add_rows.new.holder in
    let added = c.in_ok-add_rows.ensures in
    subst (λ reply. HasAnsweredByPath c.args.compiled.now c.args.call.now old new (told_answer done reply)) (sym c.tell-2.ensures) (record {
      answered = insert_replies c.args.compiled.now c.args.call.now c.args.path c.args.stripe (g.H.Holder.seen c.args.holder.now) c.requires.locked (one g at.Start) c.requires.insert c.fragment-fragment.result.now c.fragment-fragment.ensures (nowhere g at.Else-is_some)
          (held_of new) added.ok (g.met.H.Holder.sound_rows c.add_rows.new.holder spec (added.sound spec c.requires.sound));
      taken = applied_told spec Insert c.args.call.now.args None [] old new Inserted (refl, added.ok) (lent_goes_on old new added.lent) c.requires.locked.taken;
      lent = added.lent;
    })
