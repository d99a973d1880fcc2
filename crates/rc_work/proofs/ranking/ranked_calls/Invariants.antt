use Rattle.std.proofs.Common.{◌≡◌, take, drop, map}
use Rattle.rc_work.proofs.Imports.{AllByRecursion, IsRawCall, IsOfWords, ranked_call, with_operations}
use Rattle.rc_work.proofs.ranking.ranked_calls.Given as goal

abbrev pub invariant-loop-call : goal.invariant-loop-call
invariant-loop-call l = record {
  so_far : l.ranked.items ≡ map (ranked_call (with_operations l.spec l.shapes) l.ranks) (take l.call-index l.calls);
  words : AllByRecursion IsOfWords l.ranked.items;
  left : AllByRecursion (IsRawCall (with_operations l.spec l.shapes)) (drop l.call-index l.calls);
}
