use Rattle.std.proofs.Common.{◌≡◌, filter, take}
use Rattle.rc_machine.proofs.Imports.{has, cols_of, hash_of}
use Rattle.rc_machine.proofs.stripe.hash_of.Given as goal

abbrev pub invariant-loop-pair : goal.invariant-loop-pair
invariant-loop-pair l = l.hash ≡ hash_of (filter (has l.cols) (cols_of (take l.pair-index l.pair-items))) l.pair-items
