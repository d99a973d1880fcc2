-- The columns of a specification, and the calls that fit it.
use Rattle.std.specs.Prelude.{◌≡◌, ℕ, List, length, Some, map}
use Rattle.rc_spec.specs.Imports.{slice_get, range_with_len, nat_cmp, gather, IsTuple, cols_of}
use Rattle.rc_spec.specs.declared.items.Op.{Op}
use Rattle.rc_spec.specs.declared.items.OpKind.{OpKind}
use Rattle.rc_spec.specs.declared.items.OpKind.TheVariants.{Query, Insert, Remove, Update}
use Rattle.rc_spec.specs.declared.call.Call.{Call}
use Rattle.rc_spec.specs.declared.spec.Spec.{Spec}
use Rattle.rc_spec.specs.Ranges.{AreBounded, range_column, range_columns}

-- all columns of the specification
abbrev pub all_columns : Spec → List ℕ
all_columns spec = range_with_len 0 (length spec.columns)

-- the columns in the order in which a call gives their values: the pattern's in written order, and for an insert or an update all
abbrev pub value_columns : Spec → List ℕ → OpKind → List ℕ
value_columns spec pattern (Query outs ranges) = pattern
value_columns spec pattern Insert = all_columns spec
value_columns spec pattern Remove = pattern
value_columns spec pattern Update = all_columns spec

-- an insert and an update give a whole tuple
abbrev pub GivesTuple : OpKind → Type 0
GivesTuple (Query outs ranges) = ⊥
GivesTuple Insert = Unit {0}
GivesTuple Remove = ⊥
GivesTuple Update = Unit {0}

-- the call's operation is one of the specification's, and its arguments have a value for each column that it gives, and its bounds are for the operation's range columns, and of 64 bits
pub record FitsAt (spec : Spec) (call : Call) (op : Op) : Type 0 where
  pub known : slice_get spec.ops call.op ≡ Some op
  pub tuple : IsTuple call.args
  pub columns : cols_of call.args ≡ gather nat_cmp (value_columns spec op.pattern op.kind)
  pub ranges : map range_column call.ranges ≡ range_columns op.kind
  pub bounds : AreBounded call.ranges

abbrev pub Fits : Spec → Call → Type 0
Fits spec call = (op : Op) × FitsAt spec call op
