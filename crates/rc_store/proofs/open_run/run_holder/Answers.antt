use Rattle.rc_store.proofs.Imports.{List, nat_cmp, IsRising, Pairs, Spec, HeldStripe, Holding, SpecWithPlans, plan_at, locks_of, stripes_held, AreNowOf, Covers, HasRunTaking, spec_of, lent_held, IsLentBy, IsLentSo, held_of-lending, lent_last, each_ok, of_row_so, unrefused_so, way_so}
use Rattle.std.proofs.Common.{◌≡◌, ap, sym, subst}
use Rattle.rc_store.proofs.open_run.run_holder.Given.{Over}
use Rattle.rc_store.proofs.open_run.run_holder.Goals.{After-held_agrees, After-run_in_group}
use Rattle.rc_store.proofs.open_run.run_holder.Goals as goal

-- the specification is that of the row
spec_is : (g : Over) (c : After-held_agrees g) → c.args.compiled.now.spec ≡ spec_of c.args.lender.now.row.now
spec_is g c = sym (ap (λ (x : SpecWithPlans). x.spec) c.requires.compiled)

pub run_in_group-requires-clause-sound : goal.run_in_group-requires-clause-sound
run_in_group-requires-clause-sound g c =
    let l = c.args.lender.now in
    lent_held g.T.Takes.waits g.L.Lends.lent l.row.now l.pass.now l.refused.now c.args.compiled.now.spec c.requires.lent c.requires.none
    (spec_is g (goal.at.run_in_group-requires-clause-sound g c).After-held_agrees) c.held_agrees.ensures c.requires.one

pub run_in_group-requires-clause-covered : goal.run_in_group-requires-clause-covered
run_in_group-requires-clause-covered g c =
    let l = c.args.lender.now in
    subst (λ (hs : List HeldStripe). Covers c.args.compiled.now c.args.call.now (locks_of hs)) (sym (held_of-lending l.row.now l.pass.now l.refused.now l.pass.ghost_name)) c.requires.covered

pub run_in_group-requires-clause-rising : goal.run_in_group-requires-clause-rising
run_in_group-requires-clause-rising g c =
    let l = c.args.lender.now in
    subst (λ (hs : List HeldStripe). IsRising nat_cmp (stripes_held hs)) (sym (held_of-lending l.row.now l.pass.now l.refused.now l.pass.ghost_name)) c.requires.rising

pub run_in_group-requires-clause-now : goal.run_in_group-requires-clause-now
run_in_group-requires-clause-now g c =
    let l = c.args.lender.now in
    subst (λ (hs : List HeldStripe). (r : List Pairs) × AreNowOf c.args.compiled.now.spec hs r)
    (sym (held_of-lending l.row.now l.pass.now l.refused.now l.pass.ghost_name)) c.requires.now

-- the holder at the end is that of the row and pass which were lent
lent : (g : Over) (c : After-run_in_group g)
    → IsLentBy g.T.Takes.waits (record { row = c.args.lender.now.row.now; begun = c.args.lender.now.pass.now })
    c.run_in_group.new.holder.row.now c.run_in_group.new.holder.pass.now c.run_in_group.new.holder.refused.now (spec_of c.args.lender.now.row.now)
lent g c =
    let l = c.args.lender.now in
    let n = c.run_in_group.new.holder in
    lent_last g.T.Takes.waits g.L.Lends.lent l.row.now n.row.now l.pass.now n.pass.now n.refused.now (spec_of l.row.now) c.requires.lent
    (subst (λ (s : Spec). IsLentSo g.T.Takes.waits g.L.Lends.lent n.row.now n.pass.now n.refused.now s) (sym (ap (λ (x : SpecWithPlans). x.spec) c.requires.compiled)) c.run_in_group.ensures.sound)

pub returns-clause-same_reference : goal.returns-clause-same_reference
returns-clause-same_reference g c = ap (λ (s : Holding). s.through) c.run_in_group.ensures.lent

pub returns-clause-of_row : goal.returns-clause-of_row
returns-clause-of_row g c = of_row_so _ _ _ _ _ _ (lent g (goal.at.returns-clause-of_row g c).After-run_in_group) c.run_in_group.new.holder.of_row

pub returns-clause-way : goal.returns-clause-way
returns-clause-way g c = way_so _ _ _ _ _ _ (lent g (goal.at.returns-clause-way g c).After-run_in_group)

pub returns-clause-unrefused : goal.returns-clause-unrefused
returns-clause-unrefused g c =
    unrefused_so _ _ _ _ _ _ (lent g (goal.at.returns-clause-unrefused g c).After-run_in_group) c.args.lender.now.refused.now c.args.lender.now.pass.ghost_name c.run_in_group.new.holder.pass.ghost_name
    c.requires.none (ap (λ (s : Holding). s.refusals) c.run_in_group.ensures.lent)

pub returns-clause-ran : goal.returns-clause-ran
returns-clause-ran g c =
    let old = c.args.lender.now in
    let new = c.run_in_group.new.holder in
    each_ok c.run_in_group.result
    (λ reply ran. subst (λ (x : SpecWithPlans × List HeldStripe × List HeldStripe). HasRunTaking x.0.spec (plan_at x.0.plans c.args.call.now.op) c.args.call.now x.1 x.2 c.run_in_group.new.took.items reply)
    (λ i. (sym c.requires.compiled i, held_of-lending old.row.now old.pass.now old.refused.now old.pass.ghost_name i, held_of-lending new.row.now new.pass.now new.refused.now new.pass.ghost_name i)) ran)
    c.run_in_group.ensures.ran
