use Rattle.std.proofs.Common.{◌≡◌, ◌++◌, map}
use Rattle.rc_maps.specs.Keyed.{by_many, by_one, pair_of}
use Rattle.rc_maps.proofs.ordered_table.OrderedTable.keyed.Given as goal

abbrev pub invariant-loop-key : goal.invariant-loop-key
invariant-loop-key g l = map pair_of l.all.items ++ by_one l.key-iterator ≡ by_one l.initial.key-iterator

abbrev pub invariant-loop-key-2 : goal.invariant-loop-key-2
invariant-loop-key-2 g l = map pair_of l.all.items ++ by_many l.key-iterator ≡ by_many l.initial.key-iterator
