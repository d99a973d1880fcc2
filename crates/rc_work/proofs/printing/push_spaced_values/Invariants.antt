use Rattle.std.proofs.Common.{◌≡◌, ◌++◌, take}
use Rattle.rc_work.specs.Printed.{spaced, pair_words}
use Rattle.rc_work.proofs.printing.push_spaced_values.Given as goal

abbrev pub invariant-loop-pair : goal.invariant-loop-pair
invariant-loop-pair l = l.out.items ≡ l.fn.out.items ++ spaced (pair_words l.spec l.ranks (take l.pair-index l.pairs))
