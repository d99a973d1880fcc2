-- The plan that the planning rules give an operation: which edges are read, how, and which classes are locked when. (PLDI 2011, query planning; PLDI 2012, locks in query plans.)
use Rattle.std.specs.Prelude.{◌≡◌, ℕ, Bool, ◌&&◌, not, nat_le, List, [], ◌∷◌, ◌++◌, map, filter, length, reverse, if◌then◌else◌}
use Rattle.rc_query.specs.Imports.{flat_map, list_any, range_with_len, nat_cmp, gather, has, is_within, union, Op, OpKind, Query, Insert, Remove, Update, Mode, Shared, Exclusive, Spec, all_columns, edge_at, target_columns, class_at, class_of, ReadMode, Lookup, Scan, Statement, Lock, Probe, Read, CheckAbsent, CheckFound, CheckDep, Apply, Emit, Commit, Release, Which, dep_at, pattern_columns, all_edges, IsChosenRoute}
use Rattle.rc_plan.specs.declared.statement.Which.TheVariants as which
use Rattle.rc_query.specs.declared.probe.PlannedProbe.{PlannedProbe}

-- ---- locks and reads of a route

-- the classes of some edges, rising
abbrev pub classes_of_edges : Spec → List ℕ → List ℕ
classes_of_edges spec es = gather nat_cmp (map (class_of spec) es)

-- the classes that have an edge
abbrev pub written_classes : Spec → List ℕ
written_classes spec = classes_of_edges spec (all_edges spec)

-- a Lock is keyed where the columns that choose its stripe are bound
abbrev pub which_where : Spec → List ℕ → ℕ → Which
which_where spec columns c = if is_within (class_at spec c).cols columns then which.Keyed else which.All

-- a Read is a look-up where its key is bound
abbrev pub read_mode_where : Spec → List ℕ → ℕ → ReadMode
read_mode_where spec columns e = if is_within (edge_at spec e).key columns then Lookup else Scan

-- Locks of some classes in a mode, each with its choice of stripes
abbrev pub locks : Mode → (ℕ → Which) → List ℕ → List Statement
locks mode choice classes = map (λ c. Lock c (choice c) mode) classes

-- of the classes that are left to be locked, those that aren't after the edge's class, and those that are
abbrev pub due : Spec → ℕ → List ℕ → List ℕ
due spec e left = filter (λ c. nat_le c (class_of spec e)) left

abbrev pub later : Spec → ℕ → List ℕ → List ℕ
later spec e left = filter (λ c. not (nat_le c (class_of spec e))) left

-- The Locks and Reads of a route, where some columns are bound and some classes are left to be locked: before each Read those that are due are locked, rising.
abbrev pub locks_and_reads : Spec → Mode → List ℕ → List ℕ → List ℕ → List Statement
locks_and_reads spec mode columns left [] = []
locks_and_reads spec mode columns left (e ∷ es) =
    locks mode (which_where spec columns) (due spec e left)
    ++ Read e (read_mode_where spec columns e) ∷ locks_and_reads spec mode (union columns (target_columns spec e)) (later spec e left) es

-- the classes that are left to be locked after a route
abbrev pub left_after : Spec → List ℕ → List ℕ → List ℕ
left_after spec left [] = left
left_after spec left (e ∷ es) = left_after spec (later spec e left) es

-- the write or the answer, the Commit, and the Releases of the locked classes, falling
abbrev pub ending : Statement → List ℕ → List Statement
ending last classes = last ∷ Commit ∷ map Release (reverse classes)

-- ---- queries and removes, with the route for their need

-- the columns that a query reads beside its pattern: those of its ranges and of its outputs
abbrev pub asked_columns : List ℕ → List ℕ → List ℕ
asked_columns ranges outs = union (gather nat_cmp ranges) (gather nat_cmp outs)

-- a query locks the classes of its route's edges Shared
abbrev pub query_plan : Spec → List ℕ → List ℕ → List Statement
query_plan spec pattern route = locks_and_reads spec Shared pattern (classes_of_edges spec route) route ++ ending Emit (classes_of_edges spec route)

-- a remove locks all classes that have an edge Exclusive, those that are left after its reads keyed
abbrev pub remove_plan : Spec → List ℕ → List ℕ → List Statement
remove_plan spec pattern route =
    locks_and_reads spec Exclusive pattern (written_classes spec) route
    ++ (locks Exclusive (λ c. which.Keyed) (left_after spec (written_classes spec) route) ++ ending Apply (written_classes spec))

-- ---- inserts

-- a way to choose a route for a pattern and a need
abbrev pub Routing : Type 0
Routing = List ℕ → List ℕ → List ℕ

-- the search for a tuple that has the pattern values of the new one
abbrev pub pattern_probe : Routing → List ℕ → PlannedProbe
pattern_probe route pattern = record { columns = pattern; route = route pattern pattern; check = CheckAbsent }

-- the search for the tuples that have the left side of a dependency, by its number from 1
abbrev pub dependency_probe : Spec → Routing → ℕ → PlannedProbe
dependency_probe spec route dep = record {
  columns = (dep_at spec dep).left;
  route = route (dep_at spec dep).left (union (dep_at spec dep).left (dep_at spec dep).right);
  check = CheckDep dep;
}

-- of the dependencies up to a number, those whose left side doesn't hold the whole pattern
abbrev pub checked_deps : Spec → List ℕ → ℕ → List ℕ
checked_deps spec pattern count = filter (λ dep. not (is_within pattern (dep_at spec dep).left)) (range_with_len 1 count)

abbrev pub insert_probes : Spec → Routing → List ℕ → List PlannedProbe
insert_probes spec route pattern = pattern_probe route pattern ∷ map (dependency_probe spec route) (checked_deps spec pattern (length spec.deps))

-- the probe's route reads an edge of the class, and its columns don't choose a stripe of it
abbrev pub reads_unbound : Spec → ℕ → PlannedProbe → Bool
reads_unbound spec c probe = has (map (class_of spec) probe.route) c && not (is_within (class_at spec c).cols probe.columns)

-- an insert's Lock is of All stripes where some probe reads under it without its columns
abbrev pub which_under : Spec → List PlannedProbe → ℕ → Which
which_under spec probes c = if list_any (reads_unbound spec c) probes then which.All else which.Keyed

-- a Probe, its Reads and its check; all classes are locked before
abbrev pub probe_statements : Spec → PlannedProbe → List Statement
probe_statements spec probe = Probe probe.columns ∷ locks_and_reads spec Exclusive probe.columns [] probe.route ++ probe.check ∷ []

-- an insert locks all classes that have an edge Exclusive, and then makes its probes
abbrev pub insert_plan : Spec → List PlannedProbe → List Statement
insert_plan spec probes =
    locks Exclusive (which_under spec probes) (written_classes spec) ++ (flat_map (probe_statements spec) probes ++ ending Apply (written_classes spec))

-- ---- updates

-- the search for the tuple that has the pattern values of the new one, whole
abbrev pub found_probe : Spec → Routing → List ℕ → PlannedProbe
found_probe spec route pattern = record { columns = pattern; route = route pattern (all_columns spec); check = CheckFound }

-- the search for the tuples that have the left side of a dependency: the old tuple is told among them by its pattern values
abbrev pub update_dependency_probe : Spec → Routing → List ℕ → ℕ → PlannedProbe
update_dependency_probe spec route pattern dep = record {
  columns = (dep_at spec dep).left;
  route = route (dep_at spec dep).left (union (union (dep_at spec dep).left (dep_at spec dep).right) pattern);
  check = CheckDep dep;
}

abbrev pub update_probes : Spec → Routing → List ℕ → List PlannedProbe
update_probes spec route pattern = found_probe spec route pattern ∷ map (update_dependency_probe spec route pattern) (checked_deps spec pattern (length spec.deps))

-- an update's Lock is of All stripes also where the pattern doesn't choose one, since the old tuple's rows may fall on any
abbrev pub update_which : Spec → List ℕ → List PlannedProbe → ℕ → Which
update_which spec pattern probes c = if is_within (class_at spec c).cols pattern then which_under spec probes c else which.All

-- an update locks all classes that have an edge Exclusive, and then makes its probes
abbrev pub update_plan : Spec → List ℕ → List PlannedProbe → List Statement
update_plan spec pattern probes =
    locks Exclusive (update_which spec pattern probes) (written_classes spec) ++ (flat_map (probe_statements spec) probes ++ ending Apply (written_classes spec))

-- ---- the plan of an operation

abbrev pub plan_for : Spec → Routing → List ℕ → OpKind → List Statement
plan_for spec route pattern (Query outs ranges) = query_plan spec pattern (route pattern (union pattern (asked_columns ranges outs)))
plan_for spec route pattern Insert = insert_plan spec (insert_probes spec route pattern)
plan_for spec route pattern Remove = remove_plan spec pattern (route pattern (all_columns spec))
plan_for spec route pattern Update = update_plan spec pattern (update_probes spec route pattern)

-- over the routes that are given
abbrev pub planned_by : Spec → Routing → Op → List Statement
planned_by spec route op = plan_for spec route (pattern_columns op) op.kind

-- each pattern and need gets its chosen route
abbrev pub ChoosesRoutes : Spec → Routing → Type 0
ChoosesRoutes spec route = (pattern need : List ℕ) → IsChosenRoute spec pattern need (route pattern need)

-- the plan is the one over the chosen routes
pub record IsPlanned (spec : Spec) (op : Op) (plan : List Statement) : Type 0 where
  pub route : Routing
  pub chosen : ChoosesRoutes spec route
  pub value : plan ≡ planned_by spec route op
