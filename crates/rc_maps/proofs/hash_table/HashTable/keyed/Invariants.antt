use Rattle.std.proofs.Common.{◌≡◌, ◌++◌, map}
use Rattle.rc_maps.specs.Keyed.{by_many, by_one, by_two, pair_of}
use Rattle.rc_maps.proofs.hash_table.HashTable.keyed.Given as goal

abbrev pub invariant-loop-key : goal.invariant-loop-key
invariant-loop-key g l = map pair_of l.all.items ++ by_one l.key-iterator ≡ by_one l.initial.key-iterator

abbrev pub invariant-loop-pair : goal.invariant-loop-pair
invariant-loop-pair g l = map pair_of l.all.items ++ by_two l.pair-iterator ≡ by_two l.initial.pair-iterator

abbrev pub invariant-loop-key-2 : goal.invariant-loop-key-2
invariant-loop-key-2 g l =
    map pair_of l.all.items ++ by_many l.key-iterator ≡ map pair_of l.initial.all.items ++ by_many l.initial.key-iterator
