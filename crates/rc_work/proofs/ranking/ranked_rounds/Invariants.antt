use Rattle.std.proofs.Common.{◌≡◌, take, drop}
use Rattle.rc_work.proofs.Imports.{AllByRecursion, IsRawTurn, AreOfWords, ranked_rounds, with_operations}
use Rattle.rc_work.proofs.ranking.ranked_rounds.Given as goal

abbrev pub invariant-loop-round : goal.invariant-loop-round
invariant-loop-round l = record {
  so_far : l.ranked ≡ ranked_rounds (with_operations l.spec l.shapes) l.ranks (take l.round-index l.rounds);
  words : AreOfWords l.ranked;
  left : AllByRecursion (AllByRecursion (IsRawTurn (with_operations l.spec l.shapes))) (drop l.round-index l.rounds);
}
