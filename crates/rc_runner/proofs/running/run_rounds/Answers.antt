use Rattle.std.proofs.Common.{◌≡◌, ◌∙◌, get_or, refl, subst, sym}
use Rattle.rc_runner.proofs.Imports.{none_made, round_taken, number_of, stand_of, may_make_round}
use Rattle.rc_runner.proofs.running.run_rounds.Goals as goal

pub loop-round-init : goal.loop-round-init
loop-round-init g c = (c.requires.free, refl, none_made number_of stand_of c.args.passes.now c.requires.numbers c.requires.none)

pub make_round-requires-clause-may : goal.make_round-requires-clause-may
make_round-requires-clause-may g c κs within =
    may_make_round c.args.store.now c.args.rounds.now c.loop-round.round-index c.list.result.now c.loop-round.passes c.loop-round-test.true
    (subst (λ r. r ≡ get_or c.args.rounds.now c.loop-round.round-index r) (sym c.list.ensures) c.round-item.is)
    c.requires.few c.loop-round.invariant.0 c.loop-round.invariant.2

pub loop-round-preserved : goal.loop-round-preserved
loop-round-preserved g c = (
  c.tell.ensures.free,
  c.tell.ensures.numbers ∙ c.make_round.ensures.numbers ∙ c.loop-round.invariant.1,
  round_taken number_of stand_of c.args.passes.now c.requires.numbers c.args.rounds.now c.loop-round.round-index c.list.result.now
      c.loop-round.passes c.make_round.new.passes c.tell.new.passes c.loop-round-test.true
      (subst (λ r. r ≡ get_or c.args.rounds.now c.loop-round.round-index r) (sym c.list.ensures) c.round-item.is)
      c.loop-round.invariant.1 c.loop-round.invariant.2 c.in_ok-make_round.ensures.made c.tell.ensures.learnt,
)
