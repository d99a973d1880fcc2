use Rattle.std.proofs.Common.{◌≡◌, ◌<◌, ℕ, false}
use Rattle.rc_fragment.proofs.Imports.{HasShape, is_kept_of_class, EdgeShape}
use Rattle.rc_fragment.proofs.stored.Stored.is_first_kept.Given as goal

abbrev pub invariant-loop-before : goal.invariant-loop-before
invariant-loop-before l = (k : ℕ) (shape : EdgeShape) → k < l.before → HasShape l.self.table k shape → is_kept_of_class l.class shape ≡ false
