-- Lists of values, and their order.
use Rattle.rc_edges.specs.Imports.{ℕ, Bool, List, Ordering, nat_cmp, is_eq, slice_cmp}

-- the values of some columns, in the columns' order
abbrev pub Values : Type 0
Values = List ℕ

-- by the first values that differ; of two with no such values the shorter is below
abbrev pub values_cmp : Values → Values → Ordering
values_cmp x y = slice_cmp nat_cmp x y

abbrev pub values_eq : Values → Values → Bool
values_eq x y = is_eq (values_cmp x y)
