use Rattle.rc_runner.proofs.Imports.{All, subst, sym, OnOk, TurnFits, spec_of, HasGrown, growth_starts, number_of, stand_of, share_found, share_past}
use Rattle.rc_runner.proofs.calling.make_share.Goals as goal

pub make_turns-requires-clause-fit : goal.make_turns-requires-clause-fit
make_turns-requires-clause-fit g c =
    let found = c.in-Some.ensures.lookup in
    let same =
    share_found c.args.shares.now c.number.result (number_of c.args.pass.now) c.in-Some.turns.now c.deref.result.now c.deref.ensures.value
    found.3.0 found.1 c.number.ensures in
    subst (All (TurnFits (spec_of c.args.store.now.row))) (sym same) (c.requires.fit (number_of c.args.pass.now))

pub returns-in-Some-clause-made : goal.returns-in-Some-clause-made
returns-in-Some-clause-made g c =
    let found = c.in-Some.ensures.lookup in
    let same =
    share_found c.args.shares.now c.number.result (number_of c.args.pass.now) c.in-Some.turns.now c.deref.result.now c.deref.ensures.value
    found.3.0 found.1 c.number.ensures in
    subst (λ turns. OnOk c.make_turns.result (HasGrown turns (stand_of c.args.pass.now) (stand_of c.make_turns.new.pass))) same
    c.make_turns.ensures.made

pub returns-in-None-clause-made : goal.returns-in-None-clause-made
returns-in-None-clause-made g c =
    subst (λ turns. HasGrown turns (stand_of c.args.pass.now) (stand_of c.args.pass.now))
    (share_past c.args.shares.now c.number.result (number_of c.args.pass.now) c.in-None.ensures.lookup.3 c.number.ensures)
    (growth_starts (stand_of c.args.pass.now))
