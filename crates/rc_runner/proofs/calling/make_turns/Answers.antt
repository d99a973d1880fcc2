use Rattle.std.proofs.Common.{◌∙◌, refl}
use Rattle.rc_runner.proofs.Imports.{spec_of, growth_starts, stand_of, may_one, turn_taken, lent_fits}
use Rattle.rc_runner.proofs.calling.make_turns.Goals as goal

pub loop-turn-init : goal.loop-turn-init
loop-turn-init g c = record { free = c.requires.may.free; number = refl; made = growth_starts (stand_of c.args.pass.now) }

pub make_turn-requires-clause-may : goal.make_turn-requires-clause-may
make_turn-requires-clause-may g c =
    may_one c.args.store.now c.loop-turn.turn-index c.args.turns.now c.args.pass.now c.loop-turn.pass c.requires.may
    c.loop-turn-test.true c.loop-turn.invariant.free c.loop-turn.invariant.made

pub make_turn-requires-clause-fits : goal.make_turn-requires-clause-fits
make_turn-requires-clause-fits g c =
    lent_fits (spec_of c.args.store.now.row) c.args.turns.now c.loop-turn.turn-index c.turn-item.result c.loop-turn-test.true
    c.turn-item.is c.requires.fit

pub loop-turn-preserved : goal.loop-turn-preserved
loop-turn-preserved g c = record {
  free = c.make_turn.ensures.free;
  number = c.make_turn.ensures.number ∙ c.loop-turn.invariant.number;
  made = turn_taken c.args.turns.now c.loop-turn.turn-index c.turn-item.result (stand_of c.args.pass.now) (stand_of c.loop-turn.pass)
      (stand_of c.make_turn.new.pass) c.loop-turn-test.true c.turn-item.is c.loop-turn.invariant.made c.in_ok-make_turn.ensures.called;
}
