-- The line by which an operation that wasn't declared is printed: as in the line that declares one, words parted by one space.
use Rattle.std.specs.Prelude.{ℕ, List, [], ◌∷◌, ◌++◌, codes}
use Rattle.std.specs.List.{flat_map}
use Rattle.rc_spec.specs.declared.items.Op.{Op}
use Rattle.rc_spec.specs.declared.items.OpKind.{OpKind}
use Rattle.rc_spec.specs.declared.items.OpKind.TheVariants.{Query, Insert, Remove, Update}
use Rattle.rc_spec.specs.declared.spec.Spec.{Spec}
use Rattle.rc_plan.specs.PlanText.{column_text}

abbrev pub kind_text : OpKind → List ℕ
kind_text (Query outs ranges) = codes " query"
kind_text Insert = codes " insert"
kind_text Remove = codes " remove"
kind_text Update = codes " update"

abbrev pub columns_text : Spec → List ℕ → List ℕ
columns_text spec cols = flat_map (column_text spec) cols

-- `: COLS` where a query has ranges
abbrev pub ranges_text : Spec → List ℕ → List ℕ
ranges_text spec [] = []
ranges_text spec (col ∷ cols) = codes " :" ++ columns_text spec (col ∷ cols)

-- behind the pattern of a query its ranges, and `-> COLS`
abbrev pub behind_text : Spec → OpKind → List ℕ
behind_text spec (Query outs ranges) = ranges_text spec ranges ++ codes " ->" ++ columns_text spec outs
behind_text spec Insert = []
behind_text spec Remove = []
behind_text spec Update = []

-- `shape NAME KIND COLS`; 10 is the line feed
abbrev pub shape_text : Spec → Op → List ℕ
shape_text spec op = codes "shape " ++ op.name ++ kind_text op.kind ++ columns_text spec op.pattern ++ behind_text spec op.kind ++ 10 ∷ []

-- a line for each
abbrev pub shapes_text : Spec → List Op → List ℕ
shapes_text spec shapes = flat_map (shape_text spec) shapes
