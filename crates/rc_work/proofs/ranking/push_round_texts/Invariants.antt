use Rattle.std.proofs.Common.{◌≡◌, ◌++◌, take}
use Rattle.rc_work.specs.Ranking.{texts_in_round}
use Rattle.rc_work.proofs.ranking.push_round_texts.Given as goal

abbrev pub invariant-loop-turn : goal.invariant-loop-turn
invariant-loop-turn l = l.texts.items ≡ l.fn.texts.items ++ texts_in_round (take l.turn-index l.round)
