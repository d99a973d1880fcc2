use Rattle.std.proofs.Common.{arith}
use Rattle.std.proofs.lemmas.Grind.{common_steps}
use Rattle.rc_generate.proofs.GeneratingLemmas.{number_more, turns_more}
use Rattle.rc_generate.proofs.generating.generated_round.Goals as goal

pub loop-place-preserved : goal.loop-place-preserved
loop-place-preserved c = record {
  number = grind (arith, common_steps, number_more c.args.seed c.loop-place.place, c.loop-place.invariant.number);
  turns = grind (arith, common_steps, turns_more c.args.seed c.loop-place.place, c.loop-place.invariant.turns, c.loop-place.invariant.number);
}
