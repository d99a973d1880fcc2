use Rattle.std.proofs.Common.{◌≤◌, ◌^◌, ap, subst, sym, ◌∙◌}
use Rattle.rc_store.proofs.Imports.{IsCompiled, SpecWithPlans, compiled_of, kept_prepared, open_group_made, unneeded_unchanged, open_group, steps_in, StoreSeen}
use Rattle.rc_store.proofs.store.Store.commit_open.Given.{Over}
use Rattle.rc_store.proofs.store.Store.commit_open.Goals.{After-accepted}
use Rattle.rc_store.proofs.store.Store.commit_open.Goals as goal

compiled_so : (g : Over) (c : After-accepted g) → IsCompiled (compiled_of c.args.self.now.row).spec (compiled_of c.args.self.now.row).plans
compiled_so g c =
    subst (λ (x : SpecWithPlans). IsCompiled x.spec x.plans) (sym c.self.invariant.compiled ∙ ap (λ (s : StoreSeen). compiled_of s.row) c.self.view_is)
    (record { sealed = c.accepted.ensures.sealed; planned = c.accepted.ensures.planned })

small : (g : Over) (c : After-accepted g) → c.args.self.now.limit ≤ 2 ^ 48
small g c = subst (λ (s : StoreSeen). s.limit ≤ 2 ^ 48) c.self.view_is c.self.invariant.small

pub release_unneeded-requires-clause-unchanged : goal.release_unneeded-requires-clause-unchanged
release_unneeded-requires-clause-unchanged g c =
    let at = (goal.at.release_unneeded-requires-clause-unchanged g c).After-accepted in
    unneeded_unchanged c.args.self.now (compiled_so g at) (open_group c.requires.open.0 c.args.pass.now c.args.locks.now c.args.took.now (steps_in c.args.prepared)) c.requires.open.1
    (small g at) c.requires.some

pub commit_group-requires-clause-ready : goal.commit_group-requires-clause-ready
commit_group-requires-clause-ready g c =
    let at = (goal.at.commit_group-requires-clause-ready g c).After-accepted in
    (kept_prepared c.args.self.now (compiled_so g at) (open_group c.requires.open.0 c.args.pass.now c.args.locks.now c.args.took.now (steps_in c.args.prepared)) c.requires.open.1
    (small g at) c.requires.some c.release_unneeded.new.pass c.release_unneeded.ensures.kept).ready

pub returns-clause-made : goal.returns-clause-made
returns-clause-made g c begun o =
    let at = (goal.at.returns-clause-made g c).After-accepted in
    open_group_made c.args.self.now (compiled_so g at) (open_group begun c.args.pass.now c.args.locks.now c.args.took.now (steps_in c.args.prepared)) o (small g at) c.requires.some
    c.release_unneeded.new.pass c.commit_group.new.pass c.release_unneeded.ensures.kept c.commit_group.result c.commit_group.ensures.finished
