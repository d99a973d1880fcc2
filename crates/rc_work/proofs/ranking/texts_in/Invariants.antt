use Rattle.std.proofs.Common.{◌≡◌, take}
use Rattle.rc_work.specs.Ranking.{texts_in}
use Rattle.rc_work.proofs.ranking.texts_in.Given as goal

abbrev pub invariant-loop-round : goal.invariant-loop-round
invariant-loop-round l = l.texts.items ≡ texts_in (take l.round-index l.rounds)
