use Rattle.rc_runner.proofs.Imports.{ℕ, List, subst, sym, OnOk, Call, spec_of, MadeTurns, number_of, stand_of, may_make_share, shares_fit, AreShared}
use Rattle.rc_runner.proofs.calling.make_round.Goals as goal

pub make_shares-requires-clause-may : goal.make_shares-requires-clause-may
make_shares-requires-clause-may g c κs within =
    may_make_share c.args.store.now c.args.round.now c.deref.result.now
    (subst (AreShared c.args.round.now) (sym c.deref.ensures.value) c.in_ok-shares.ensures) c.args.passes.now c.requires.may

pub make_shares-requires-clause-fit : goal.make_shares-requires-clause-fit
make_shares-requires-clause-fit g c κs within =
    shares_fit (spec_of c.args.store.now.row) c.args.round.now c.deref.result.now
    (subst (AreShared c.args.round.now) (sym c.deref.ensures.value) c.in_ok-shares.ensures) c.requires.fit c.requires.sizes

pub returns-clause-made : goal.returns-clause-made
returns-clause-made g c =
    let shared : AreShared c.args.round.now c.deref.result.now = subst (AreShared c.args.round.now) (sym c.deref.ensures.value) c.in_ok-shares.ensures in
    subst (λ (turns : ℕ → List (List Call)). OnOk c.make_shares.result (MadeTurns number_of stand_of turns c.args.passes.now c.make_shares.new.passes))
    (λ i thread. shared thread i) c.make_shares.ensures.made
