-- Operations that may be planned.
use Rattle.rc_query.specs.Imports.{length, Op, Spec, IsOpAmong, KeepsO}

-- The operation's columns are the specification's, and it keeps O1 to O3. It needn't be one of the specification's own.
pub record MayBePlanned (spec : Spec) (op : Op) : Type 0 where
  pub among : IsOpAmong (length spec.columns) op
  pub keeps : KeepsO spec op
