use Rattle.std.proofs.Common.{◌≡◌, ◌-◌, ◌^◌, map, min, take}
use Rattle.std.specs.List.{sum}
use Rattle.rc_row.proofs.build.made_in_all.Given as goal

abbrev pub invariant-loop-one : goal.invariant-loop-one
invariant-loop-one l = l.total ≡ min (sum (map (λ e. e.made) (take l.one-index l.ended))) (2 ^ 64 - 1)
