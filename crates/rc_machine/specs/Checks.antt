-- How a check of a dependency tells an update's old tuple.
use Rattle.rc_machine.specs.Imports.{Bool, true, List, ℕ, None, Option, Some, not, nat_cmp, gather, Pairs, agree_on, OpKind, Query, Insert, Remove, Update}

-- the columns at which an update's old tuple alone has the call's values
abbrev pub told_by : OpKind → List ℕ → Option (List ℕ)
told_by (Query outs ranges) pattern = None
told_by Insert pattern = None
told_by Remove pattern = None
told_by Update pattern = Some (gather nat_cmp pattern)

-- by them, whether a binding stays beside the call's tuple
abbrev pub is_beside : Option (List ℕ) → Pairs → Pairs → Bool
is_beside None args b = true
is_beside (Some cols) args b = not (agree_on cols b args)
