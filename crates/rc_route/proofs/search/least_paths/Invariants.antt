use Rattle.std.proofs.Common.{take}
use Rattle.rc_route.proofs.BestLemmas.{IsTable}
use Rattle.rc_route.proofs.search.least_paths.Given as goal

abbrev pub invariant-loop-node : goal.invariant-loop-node
invariant-loop-node l = IsTable l.spec l.pattern (take l.node-index l.order) l.paths.items
