use Rattle.std.proofs.Common.{◌≡◌, filter, get_or}
use Rattle.rc_dot.proofs.Imports.{range_with_len, Commit, is_read_of}
use Rattle.rc_dot.proofs.reading.read_numbers.Given as goal

abbrev pub invariant-loop-place : goal.invariant-loop-place
invariant-loop-place l =
    l.numbers.items ≡ filter (λ place. is_read_of l.edge (get_or l.plan place Commit)) (range_with_len 0 l.place)
