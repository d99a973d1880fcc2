use Rattle.std.proofs.Common.{◌≡◌, length}
use Rattle.rc_plan.proofs.Imports.{band_start, AllBelow}
use Rattle.rc_plan.proofs.resolved.band_starts.Given as goal

abbrev pub invariant-loop-class : goal.invariant-loop-class
invariant-loop-class l = record {
  room : length l.starts ≡ 16;
  stand : AllBelow (λ class start. start ≡ band_start l.accepted class) l.class l.starts;
}
