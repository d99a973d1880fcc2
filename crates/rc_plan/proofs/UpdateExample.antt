-- What the definitions compute of updates and of ranges, and what two plans that break their rules would do.
use Rattle.std.specs.Prelude.{◌≡◌, ℕ, List, [], ◌∷◌, Some}
use Rattle.rc_plan.proofs.Imports.{refl, Pairs, Call, Rows, Updated, Conflict, Absent, Num, Hash, Op, Query, Update, Shared, Exclusive, Spec, all_rows, rows_on, fragment_of, plain, Lookup, Scan, Statement, Lock, Probe, Read, CheckFound, CheckDep, Apply, Emit, Commit, Release, eval, rows_as_taken, graph}
use Rattle.rc_spec.specs.Stripes.{mix}
use Rattle.rc_plan.specs.declared.statement.Which.TheVariants as which
use Rattle.rc_plan.proofs.Example.{edge, some_edges}

-- ---- the graph, with an update by source and target, and a query of the targets between bounds

abbrev change_edge : Op
change_edge = record { name = []; pattern = 0 ∷ 1 ∷ []; kind = Update }

abbrev near : Op
near = record { name = []; pattern = 0 ∷ []; kind = Query (1 ∷ 2 ∷ []) (1 ∷ []) }

abbrev more : Spec
more = record graph { ops = change_edge ∷ near ∷ [] }

abbrev change_plan : List Statement
change_plan =
    Lock 0 which.All Exclusive ∷ Probe (0 ∷ 1 ∷ []) ∷ Read 0 Lookup ∷ Read 1 Lookup ∷ CheckFound ∷ Probe (2 ∷ []) ∷ Read 0 Scan ∷ Read 1 Scan ∷ CheckDep 2 ∷ Apply ∷ Commit ∷ Release 0 ∷ []

abbrev near_plan : List Statement
near_plan = Lock 0 which.Keyed Shared ∷ Read 0 Lookup ∷ Read 1 Scan ∷ Emit ∷ Commit ∷ Release 0 ∷ []

abbrev change : Pairs → Call
change t = record { op = 0; args = t; ranges = [] }

abbrev targets : ℕ → ℕ → ℕ → Call
targets x lo hi = record { op = 1; args = (0, x) ∷ []; ranges = record { col = 1; lo = lo; hi = hi } ∷ [] }

updated : (eval more change_plan (change (edge 1 2 9)) (all_rows more some_edges)).reply ≡ Some (Updated (edge 1 2 5))
updated = refl

rows_after_it : (eval more change_plan (change (edge 1 2 9)) (all_rows more some_edges)).rows ≡ all_rows more (edge 1 2 9 ∷ edge 1 3 7 ∷ edge 4 1 8 ∷ [])
rows_after_it = refl

taken_back : rows_as_taken more (edge 1 2 9) (Updated (edge 1 2 5)) (all_rows more (edge 1 2 9 ∷ edge 1 3 7 ∷ edge 4 1 8 ∷ [])) ≡ all_rows more some_edges
taken_back = refl

-- a tuple may be put in its own place
same_tuple : (eval more change_plan (change (edge 1 2 5)) (all_rows more some_edges)).reply ≡ Some (Updated (edge 1 2 5))
same_tuple = refl

same_rows : (eval more change_plan (change (edge 1 2 5)) (all_rows more some_edges)).rows ≡ all_rows more some_edges
same_rows = refl

-- weight 5 has src 1
refused : (eval more change_plan (change (edge 4 1 5)) (all_rows more some_edges)).reply ≡ Some (Conflict 2)
refused = refl

-- weight 7 has src 1, as the new tuple
shared_weight : (eval more change_plan (change (edge 1 2 7)) (all_rows more some_edges)).reply ≡ Some (Updated (edge 1 2 5))
shared_weight = refl

absent : (eval more change_plan (change (edge 1 9 5)) (all_rows more some_edges)).reply ≡ Some Absent
absent = refl

plain_conflict : (plain more some_edges (change (edge 4 1 5))).reply ≡ Conflict 2
plain_conflict = refl

plain_update : (plain more some_edges (change (edge 1 2 9))).relation ≡ edge 1 2 9 ∷ edge 1 3 7 ∷ edge 4 1 8 ∷ []
plain_update = refl

between : (eval more near_plan (targets 1 3 9) (all_rows more some_edges)).reply ≡ Some (Rows ((3 ∷ 7 ∷ []) ∷ []))
between = refl

both_ends : (eval more near_plan (targets 1 2 3) (all_rows more some_edges)).reply ≡ Some (Rows ((2 ∷ 5 ∷ []) ∷ (3 ∷ 7 ∷ []) ∷ []))
both_ends = refl

-- a lower bound above the upper one
none_between : (eval more near_plan (targets 1 4 3) (all_rows more some_edges)).reply ≡ Some (Rows [])
none_between = refl

-- ---- seats: ids and seats determine each other, each edge on a class of its own by its key

abbrev move : Op
move = record { name = []; pattern = 0 ∷ []; kind = Update }

abbrev seats : Spec
seats = record {
  columns = record { name = []; kind = Num } ∷ record { name = []; kind = Num } ∷ [];
  deps = record { left = 0 ∷ []; right = 1 ∷ [] } ∷ record { left = 1 ∷ []; right = 0 ∷ [] } ∷ [];
  nodes = record { name = []; cols = [] } ∷ record { name = []; cols = 0 ∷ 1 ∷ [] } ∷ record { name = []; cols = 0 ∷ 1 ∷ [] } ∷ [];
  edges = record { name = []; from = 0; to = 1; kind = Hash; key = 0 ∷ [] } ∷ record { name = []; from = 0; to = 2; kind = Hash; key = 1 ∷ [] } ∷ [];
  classes = record { name = []; stripes = 4; cols = 0 ∷ [] } ∷ record { name = []; stripes = 4; cols = 1 ∷ [] } ∷ [];
  places = record { edge = 0; class = 0 } ∷ record { edge = 1; class = 1 } ∷ [];
  ops = move ∷ [];
  most_rows = 256;
}

abbrev seat : ℕ → ℕ → Pairs
seat x y = (0, x) ∷ (1, y) ∷ []

-- the class of seats is locked keyed, though a seat isn't of the pattern: refused by K4
abbrev narrow_plan : List Statement
narrow_plan =
    Lock 0 which.Keyed Exclusive ∷ Lock 1 which.Keyed Exclusive ∷ Probe (0 ∷ []) ∷ Read 0 Lookup ∷ CheckFound ∷ Probe (1 ∷ []) ∷ Read 1 Lookup ∷ CheckDep 2 ∷ Apply ∷ Commit ∷ Release 1 ∷ Release 0 ∷ []

-- id 1 falls on stripe 2; of the class of seats, from 4 on, seat 5 falls on stripe 6 and seat 6 on stripe 7
narrow_names : (eval seats narrow_plan (change (seat 1 6)) (all_rows seats (seat 1 5 ∷ []))).named ≡ (2, Exclusive) ∷ (7, Exclusive) ∷ []
unfolding mix
narrow_names = refl

narrow_replies : (eval seats narrow_plan (change (seat 1 6)) (rows_on seats (seat 1 5 ∷ []) (2 ∷ 7 ∷ []))).reply ≡ Some (Updated (seat 1 5))
unfolding mix
narrow_replies = refl

-- the row of the old seat has to go from a stripe that isn't locked
old_seat_before : fragment_of seats (seat 1 5 ∷ []) 6 ≡ (1, seat 1 5, 1) ∷ []
unfolding mix
old_seat_before = refl

old_seat_after : fragment_of seats (plain seats (seat 1 5 ∷ []) (change (seat 1 6))).relation 6 ≡ []
unfolding mix
old_seat_after = refl

-- ---- a table of three columns with a second edge that lacks the pattern

abbrev put_row : Op
put_row = record { name = []; pattern = 0 ∷ []; kind = Update }

abbrev table : Spec
table = record {
  columns = record { name = []; kind = Num } ∷ record { name = []; kind = Num } ∷ record { name = []; kind = Num } ∷ [];
  deps = record { left = 0 ∷ []; right = 1 ∷ 2 ∷ [] } ∷ record { left = 2 ∷ []; right = 1 ∷ [] } ∷ [];
  nodes = record { name = []; cols = [] } ∷ record { name = []; cols = 0 ∷ 1 ∷ 2 ∷ [] } ∷ record { name = []; cols = 1 ∷ 2 ∷ [] } ∷ [];
  edges = record { name = []; from = 0; to = 1; kind = Hash; key = 0 ∷ [] } ∷ record { name = []; from = 0; to = 2; kind = Hash; key = 2 ∷ [] } ∷ [];
  classes = record { name = []; stripes = 1; cols = [] } ∷ [];
  places = record { edge = 0; class = 0 } ∷ record { edge = 1; class = 0 } ∷ [];
  ops = put_row ∷ [];
  most_rows = 256;
}

-- dependency 2 is checked behind a search that doesn't visit the pattern: refused by K6
abbrev blind_plan : List Statement
blind_plan =
    Lock 0 which.All Exclusive ∷ Probe (0 ∷ []) ∷ Read 0 Lookup ∷ CheckFound ∷ Probe (2 ∷ []) ∷ Read 1 Lookup ∷ CheckDep 2 ∷ Apply ∷ Commit ∷ Release 0 ∷ []

-- it takes the old tuple for another one
blind_conflict : (eval table blind_plan (change (edge 1 9 3)) (all_rows table (edge 1 2 3 ∷ []))).reply ≡ Some (Conflict 2)
blind_conflict = refl

plain_has_none : (plain table (edge 1 2 3 ∷ []) (change (edge 1 9 3))).reply ≡ Updated (edge 1 2 3)
plain_has_none = refl
