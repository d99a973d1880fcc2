-- The planned plans of worked specifications over given routes, by computation: what the definitions say that no rule of plans asks for, as that locks come late and keyed and that reads are look-ups where they can be.
use Rattle.std.specs.Prelude.{◌≡◌, List, [], ◌∷◌, if◌then◌else◌}
use Rattle.rc_query.proofs.Imports.{ℕ, refl, has, Class, Num, Column, Edge, EdgeKind, Node, Op, OpKind, Query, Insert, Remove, Update, Shared, Exclusive, Spec, Lookup, Scan, Statement, Lock, Probe, Read, CheckAbsent, CheckFound, CheckDep, Apply, Emit, Commit, Release, graph, add_edge, add_plan, drop_edge, drop_plan, Routing, planned_by}
use Rattle.rc_spec.specs.declared.items.EdgeKind.TheVariants as kinds
use Rattle.rc_plan.specs.declared.statement.Which.TheVariants as which

-- ---- items without names

abbrev column : Column
column = record { name = []; kind = Num }

abbrev node : List ℕ → Node
node cols = record { name = []; cols = cols }

abbrev edge : ℕ → ℕ → EdgeKind → List ℕ → Edge
edge from to kind key = record { name = []; from = from; to = to; kind = kind; key = key }

abbrev class : ℕ → List ℕ → Class
class stripes cols = record { name = []; stripes = stripes; cols = cols }

abbrev op : List ℕ → OpKind → Op
op pattern kind = record { name = []; pattern = pattern; kind = kind }

abbrev keyed : ℕ → Statement
keyed c = Lock c which.Keyed Exclusive

abbrev all : ℕ → Statement
all c = Lock c which.All Exclusive

abbrev shared : ℕ → Statement
shared c = Lock c which.Keyed Shared

abbrev all_shared : ℕ → Statement
all_shared c = Lock c which.All Shared

-- ---- edges src -> dst with one weight

-- the class of the last two edges is striped by a column
abbrev graph_by : ℕ → Spec
graph_by col = record {
  columns = column ∷ column ∷ column ∷ [];
  deps = record { left = 0 ∷ 1 ∷ []; right = 2 ∷ [] } ∷ [];
  nodes = node [] ∷ node (0 ∷ []) ∷ node (0 ∷ 1 ∷ []) ∷ node (0 ∷ 1 ∷ 2 ∷ []) ∷ [];
  edges = edge 0 1 kinds.Hash (0 ∷ []) ∷ edge 1 2 kinds.Ordered (1 ∷ []) ∷ edge 2 3 kinds.Singleton (2 ∷ []) ∷ [];
  classes = class 8 (0 ∷ []) ∷ class 4 (col ∷ []) ∷ [];
  places = record { edge = 0; class = 0 } ∷ record { edge = 1; class = 1 } ∷ record { edge = 2; class = 1 } ∷ [];
  ops = [];
  most_rows = 256;
}

abbrev graph_route : Routing
graph_route pattern need = if has need 2 then 0 ∷ 1 ∷ 2 ∷ [] else 0 ∷ 1 ∷ []

inserts : planned_by (graph_by 0) graph_route (op (0 ∷ 1 ∷ []) Insert)
    ≡ keyed 0 ∷ keyed 1 ∷ Probe (0 ∷ 1 ∷ []) ∷ Read 0 Lookup ∷ Read 1 Lookup ∷ CheckAbsent ∷ Apply ∷ Commit ∷ Release 1 ∷ Release 0 ∷ []
inserts = refl

deletes : planned_by (graph_by 0) graph_route (op (0 ∷ 1 ∷ []) Remove) ≡ keyed 0 ∷ Read 0 Lookup ∷ keyed 1 ∷ Read 1 Lookup ∷ Read 2 Scan ∷ Apply ∷ Commit ∷ Release 1 ∷ Release 0 ∷ []
deletes = refl

successors : planned_by (graph_by 0) graph_route (op (0 ∷ []) (Query (1 ∷ 2 ∷ []) [])) ≡ shared 0 ∷ Read 0 Lookup ∷ shared 1 ∷ Read 1 Scan ∷ Read 2 Scan ∷ Emit ∷ Commit ∷ Release 1 ∷ Release 0 ∷ []
successors = refl

finds : planned_by (graph_by 0) graph_route (op (0 ∷ 1 ∷ []) (Query (2 ∷ []) [])) ≡ shared 0 ∷ Read 0 Lookup ∷ shared 1 ∷ Read 1 Lookup ∷ Read 2 Scan ∷ Emit ∷ Commit ∷ Release 1 ∷ Release 0 ∷ []
finds = refl

-- no value of dst is bound yet
locks_all : planned_by (graph_by 1) graph_route (op (0 ∷ []) (Query (1 ∷ 2 ∷ []) [])) ≡ shared 0 ∷ Read 0 Lookup ∷ all_shared 1 ∷ Read 1 Scan ∷ Read 2 Scan ∷ Emit ∷ Commit ∷ Release 1 ∷ Release 0 ∷ []
locks_all = refl

near : planned_by (graph_by 0) graph_route (op (0 ∷ []) (Query (1 ∷ 2 ∷ []) (1 ∷ [])))
    ≡ shared 0 ∷ Read 0 Lookup ∷ shared 1 ∷ Read 1 Scan ∷ Read 2 Scan ∷ Emit ∷ Commit ∷ Release 1 ∷ Release 0 ∷ []
near = refl

-- a range column is read though it isn't an output
lighter : planned_by (graph_by 0) graph_route (op (0 ∷ []) (Query (1 ∷ []) (2 ∷ [])))
    ≡ shared 0 ∷ Read 0 Lookup ∷ shared 1 ∷ Read 1 Scan ∷ Read 2 Scan ∷ Emit ∷ Commit ∷ Release 1 ∷ Release 0 ∷ []
lighter = refl

changes : planned_by (graph_by 0) graph_route (op (0 ∷ 1 ∷ []) Update)
    ≡ keyed 0 ∷ keyed 1 ∷ Probe (0 ∷ 1 ∷ []) ∷ Read 0 Lookup ∷ Read 1 Lookup ∷ Read 2 Scan ∷ CheckFound ∷ Apply ∷ Commit ∷ Release 1 ∷ Release 0 ∷ []
changes = refl

-- ---- processes of name spaces, with their states and processors

abbrev scheduler : Spec
scheduler = record {
  columns = column ∷ column ∷ column ∷ column ∷ [];
  deps = record { left = 0 ∷ 1 ∷ []; right = 2 ∷ 3 ∷ [] } ∷ [];
  nodes = node [] ∷ node (0 ∷ []) ∷ node (2 ∷ []) ∷ node (0 ∷ 1 ∷ 2 ∷ []) ∷ node (0 ∷ 1 ∷ 2 ∷ 3 ∷ []) ∷ [];
  edges = edge 0 1 kinds.Hash (0 ∷ []) ∷ edge 1 3 kinds.Hash (1 ∷ []) ∷ edge 0 2 kinds.Hash (2 ∷ []) ∷ edge 2 3 kinds.List (0 ∷ 1 ∷ []) ∷ edge 3 4 kinds.Singleton (3 ∷ []) ∷ [];
  classes = class 4 (0 ∷ []) ∷ class 4 (2 ∷ []) ∷ class 4 (0 ∷ 1 ∷ []) ∷ [];
  places = record { edge = 0; class = 0 } ∷ record { edge = 1; class = 0 } ∷ record { edge = 2; class = 1 } ∷ record { edge = 3; class = 1 } ∷ record { edge = 4; class = 2 } ∷ [];
  ops = [];
  most_rows = 256;
}

abbrev scheduler_route : Routing
scheduler_route pattern need = if has need 3 then 0 ∷ 1 ∷ 4 ∷ [] else (if has pattern 2 then 2 ∷ 3 ∷ [] else 0 ∷ 1 ∷ [])

spawns : planned_by scheduler scheduler_route (op (0 ∷ 1 ∷ []) Insert)
    ≡ keyed 0 ∷ keyed 1 ∷ keyed 2 ∷ Probe (0 ∷ 1 ∷ []) ∷ Read 0 Lookup ∷ Read 1 Lookup ∷ CheckAbsent ∷ Apply ∷ Commit ∷ Release 2 ∷ Release 1 ∷ Release 0 ∷ []
spawns = refl

kills : planned_by scheduler scheduler_route (op (0 ∷ 1 ∷ []) Remove)
    ≡ keyed 0 ∷ Read 0 Lookup ∷ Read 1 Lookup ∷ keyed 1 ∷ keyed 2 ∷ Read 4 Scan ∷ Apply ∷ Commit ∷ Release 2 ∷ Release 1 ∷ Release 0 ∷ []
kills = refl

by_state : planned_by scheduler scheduler_route (op (2 ∷ []) (Query (0 ∷ 1 ∷ []) [])) ≡ shared 1 ∷ Read 2 Lookup ∷ Read 3 Scan ∷ Emit ∷ Commit ∷ Release 1 ∷ []
by_state = refl

-- ---- names with seats

abbrev seats : Spec
seats = record {
  columns = column ∷ column ∷ column ∷ [];
  deps = record { left = 0 ∷ []; right = 1 ∷ 2 ∷ [] } ∷ record { left = 2 ∷ []; right = 0 ∷ [] } ∷ [];
  nodes = node [] ∷ node (0 ∷ 1 ∷ 2 ∷ []) ∷ node (0 ∷ 2 ∷ []) ∷ [];
  edges = edge 0 1 kinds.Hash (0 ∷ []) ∷ edge 0 2 kinds.Hash (2 ∷ []) ∷ [];
  classes = class 4 (0 ∷ []) ∷ class 4 (2 ∷ []) ∷ [];
  places = record { edge = 0; class = 0 } ∷ record { edge = 1; class = 1 } ∷ [];
  ops = [];
  most_rows = 256;
}

abbrev seats_route : Routing
seats_route pattern need = if has pattern 2 then 1 ∷ [] else 0 ∷ []

adds : planned_by seats seats_route (op (0 ∷ []) Insert)
    ≡ keyed 0 ∷ keyed 1 ∷ Probe (0 ∷ []) ∷ Read 0 Lookup ∷ CheckAbsent ∷ Probe (2 ∷ []) ∷ Read 1 Lookup ∷ CheckDep 2 ∷ Apply ∷ Commit ∷ Release 1 ∷ Release 0 ∷ []
adds = refl

by_seat : planned_by seats seats_route (op (2 ∷ []) (Query (0 ∷ []) [])) ≡ shared 1 ∷ Read 1 Lookup ∷ Emit ∷ Commit ∷ Release 1 ∷ []
by_seat = refl

-- a class is left after the last read
drops : planned_by seats seats_route (op (0 ∷ []) Remove) ≡ keyed 0 ∷ Read 0 Lookup ∷ keyed 1 ∷ Apply ∷ Commit ∷ Release 1 ∷ Release 0 ∷ []
drops = refl

-- the old seat may be on any stripe
moves : planned_by seats seats_route (op (0 ∷ []) Update)
    ≡ keyed 0 ∷ all 1 ∷ Probe (0 ∷ []) ∷ Read 0 Lookup ∷ CheckFound ∷ Probe (2 ∷ []) ∷ Read 1 Lookup ∷ CheckDep 2 ∷ Apply ∷ Commit ∷ Release 1 ∷ Release 0 ∷ []
moves = refl

-- where all searches read the first edge
adds_by_scan : planned_by seats (λ pattern need. 0 ∷ []) (op (0 ∷ []) Insert)
    ≡ all 0 ∷ keyed 1 ∷ Probe (0 ∷ []) ∷ Read 0 Lookup ∷ CheckAbsent ∷ Probe (2 ∷ []) ∷ Read 0 Scan ∷ CheckDep 2 ∷ Apply ∷ Commit ∷ Release 1 ∷ Release 0 ∷ []
adds_by_scan = refl

-- ---- the plans of the example of accepted plans

example_adds : planned_by graph (λ pattern need. 0 ∷ 1 ∷ []) add_edge ≡ add_plan
example_adds = refl

example_drops : planned_by graph (λ pattern need. 0 ∷ 1 ∷ []) drop_edge ≡ drop_plan
example_drops = refl
