use Rattle.std.proofs.Common.{◌≡◌, ◌++◌, take}
use Rattle.rc_fragment.proofs.Imports.{flat_map, shown_sources}
use Rattle.rc_fragment.proofs.edge_rows.push_shown.Given as goal

abbrev pub invariant-loop-keyed : goal.invariant-loop-keyed
invariant-loop-keyed l = l.out.items ≡ l.fn.out.items ++ flat_map (λ s. s) (shown_sources l.tombstones (take l.keyed-index l.all))
