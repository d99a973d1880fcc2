-- A small specification with a plan of each kind: edges src -> dst, each with one weight, where a weight has one src. It shows that the premises of the laws can be met.
use Rattle.std.specs.Prelude.{List, [], ◌∷◌}
use Rattle.rc_plan.specs.Imports.{Num, Hash, Ordered, Op, Query, Insert, Remove, Shared, Exclusive, Spec}
use Rattle.rc_plan.specs.declared.statement.ReadMode.TheVariants.{Lookup, Scan}
use Rattle.rc_plan.specs.declared.statement.Statement.{Statement}
use Rattle.rc_plan.specs.declared.statement.Statement.TheVariants.{Lock, Probe, Read, CheckAbsent, CheckDep, Apply, Emit, Commit, Release}
use Rattle.rc_plan.specs.declared.statement.Which.TheVariants as which

-- ---- the specification

abbrev pub add_edge : Op
add_edge = record { name = []; pattern = 0 ∷ 1 ∷ []; kind = Insert }

abbrev pub drop_edge : Op
drop_edge = record { name = []; pattern = 0 ∷ 1 ∷ []; kind = Remove }

abbrev pub successors : Op
successors = record { name = []; pattern = 0 ∷ []; kind = Query (1 ∷ 2 ∷ []) [] }

-- The columns src, dst and weight; the nodes root, u and w; the edges e1 from root to u and e2 from u to w; and one class of 4 stripes, chosen by src. Names play no part here.
abbrev pub graph : Spec
graph = record {
  columns = record { name = []; kind = Num } ∷ record { name = []; kind = Num } ∷ record { name = []; kind = Num } ∷ [];
  deps = record { left = 0 ∷ 1 ∷ []; right = 2 ∷ [] } ∷ record { left = 2 ∷ []; right = 0 ∷ [] } ∷ [];
  nodes = record { name = []; cols = [] } ∷ record { name = []; cols = 0 ∷ [] } ∷ record { name = []; cols = 0 ∷ 1 ∷ 2 ∷ [] } ∷ [];
  edges = record { name = []; from = 0; to = 1; kind = Hash; key = 0 ∷ [] } ∷ record { name = []; from = 1; to = 2; kind = Ordered; key = 1 ∷ [] } ∷ [];
  classes = record { name = []; stripes = 4; cols = 0 ∷ [] } ∷ [];
  places = record { edge = 0; class = 0 } ∷ record { edge = 1; class = 0 } ∷ [];
  ops = add_edge ∷ drop_edge ∷ successors ∷ [];
  most_rows = 256;
}

-- ---- the plans

abbrev pub add_plan : List Statement
add_plan =
    Lock 0 which.All Exclusive ∷ Probe (0 ∷ 1 ∷ []) ∷ Read 0 Lookup ∷ Read 1 Lookup ∷ CheckAbsent ∷ Probe (2 ∷ []) ∷ Read 0 Scan ∷ Read 1 Scan ∷ CheckDep 2 ∷ Apply ∷ Commit ∷ Release 0 ∷ []

abbrev pub drop_plan : List Statement
drop_plan = Lock 0 which.Keyed Exclusive ∷ Read 0 Lookup ∷ Read 1 Lookup ∷ Apply ∷ Commit ∷ Release 0 ∷ []

abbrev pub successor_plan : List Statement
successor_plan = Lock 0 which.Keyed Shared ∷ Read 0 Lookup ∷ Read 1 Scan ∷ Emit ∷ Commit ∷ Release 0 ∷ []

abbrev pub plans : List (List Statement)
plans = add_plan ∷ drop_plan ∷ successor_plan ∷ []
