-- The bounds that a call gives for the range columns of a query.
use Rattle.std.specs.Prelude.{ℕ, ◌<◌, ◌^◌, nat_le, Bool, List, [], ◌&&◌, All}
use Rattle.rc_spec.specs.Imports.{list_all, Pairs, value, matches}
use Rattle.rc_spec.specs.declared.range.Range.{Range}
use Rattle.rc_spec.specs.declared.items.OpKind.{OpKind}
use Rattle.rc_spec.specs.declared.items.OpKind.TheVariants.{Query, Insert, Remove, Update}

abbrev pub range_column : Range → ℕ
range_column range = range.col

-- the columns for which a call of the operation gives bounds
abbrev pub range_columns : OpKind → List ℕ
range_columns (Query outs ranges) = ranges
range_columns Insert = []
range_columns Remove = []
range_columns Update = []

-- the bounds are values of a tuple
abbrev pub IsBounded : Range → Type 0
IsBounded range = (range.lo < 2 ^ 64) × (range.hi < 2 ^ 64)

abbrev pub AreBounded : List Range → Type 0
AreBounded ranges = All IsBounded ranges

-- the tuple's value at the column is between the bounds
abbrev pub is_within_range : Pairs → Range → Bool
is_within_range t range = nat_le range.lo (value t range.col) && nat_le (value t range.col) range.hi

abbrev pub in_ranges : List Range → Pairs → Bool
in_ranges ranges t = list_all (is_within_range t) ranges

-- whether a tuple matches a query's call: it has the values of the arguments, and each of its values at a range column is between the bounds
abbrev pub is_asked : Pairs → List Range → Pairs → Bool
is_asked args ranges t = matches args t && in_ranges ranges t
