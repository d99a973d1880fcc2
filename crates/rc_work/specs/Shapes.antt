-- Further operations, and the specification with them behind its own.
use Rattle.std.specs.Prelude.{◌++◌, List, length}
use Rattle.rc_work.specs.Imports.{AreDistinct, Op, Spec, IsOpAmong, KeepsO, range_columns}

-- the specification with further operations behind its own
abbrev pub with_operations : Spec → List Op → Spec
with_operations spec shapes = record spec { ops = spec.ops ++ shapes }

-- the operation's columns are the specification's, each once in its pattern and ranges, and it keeps O1 to O3
pub record IsShapeOf (spec : Spec) (op : Op) : Type 0 where
  pub among : IsOpAmong (length spec.columns) op
  pub distinct : AreDistinct (op.pattern ++ range_columns op.kind)
  pub keeps : KeepsO spec op
