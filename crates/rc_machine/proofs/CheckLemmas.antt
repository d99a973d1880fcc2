-- How a check of a dependency tells an update's old tuple.
use Rattle.std.specs.Prelude.{◌≡◌, ℕ, List, not}
use Rattle.rc_machine.proofs.Imports.{nat_cmp, refl, ap, gather, has-gather, Pairs, agree_on-same, OpKind, Query, Insert, Remove, Update, stays_beside, is_beside, told_by}

pub told_beside : (kind : OpKind) (pattern : List ℕ) (t b : Pairs) → is_beside (told_by kind pattern) t b ≡ stays_beside kind pattern t b
told_beside (Query outs ranges) pattern t b = refl
told_beside Insert pattern t b = refl
told_beside Remove pattern t b = refl
told_beside Update pattern t b = ap not (agree_on-same (gather nat_cmp pattern) pattern (has-gather pattern) b t)
