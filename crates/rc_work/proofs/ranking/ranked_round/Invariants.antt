use Rattle.std.proofs.Common.{◌≡◌, take, drop}
use Rattle.rc_work.proofs.Imports.{AllByRecursion, IsRawTurn, IsOfWords, ranked_round, with_operations}
use Rattle.rc_work.proofs.ranking.ranked_round.Given as goal

abbrev pub invariant-loop-turn : goal.invariant-loop-turn
invariant-loop-turn l = record {
  so_far : l.ranked ≡ ranked_round (with_operations l.spec l.shapes) l.ranks (take l.turn-index l.round);
  words : AllByRecursion (λ turn. AllByRecursion IsOfWords turn.calls) l.ranked;
  left : AllByRecursion (IsRawTurn (with_operations l.spec l.shapes)) (drop l.turn-index l.round);
}
