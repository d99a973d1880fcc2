use Rattle.std.proofs.Common.{◌≡◌, [], length}
use Rattle.rc_spec.specs.First.{EachHolds}
use Rattle.rc_route.proofs.search.empty_paths.Given as goal

abbrev pub invariant-loop : goal.invariant-loop
invariant-loop l = record { count : length l.paths.items ≡ l.index; empty : EachHolds (λ path. path ≡ []) l.paths.items }
