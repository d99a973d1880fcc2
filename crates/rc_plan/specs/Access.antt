-- How the calls of an operation are answered where its plan's statements need not be run in turn: from the rows of one edge, on the arguments' stripe. (Access paths: Selinger et al., SIGMOD 1979.)
use Rattle.std.specs.Prelude.{◌≡◌, ℕ, ◌+◌, ◌<◌, ◌≤◌, ◌==◌, ◌↔◌, ◌++◌, Bool, IsTrue, true, false, List, [], Option, None, IfSome, drop, get_or, length, take}
use Rattle.rc_plan.specs.Imports.{list_all, list_any, Within, is_within, minus, In, Edge, Op, OpKind, Query, Insert, Remove, Update, Spec, all_columns, bound, edge_at, source_and_key, class_at, class_of, op_at}
use Rattle.rc_plan.specs.declared.access.AccessPath.{AccessPath}
use Rattle.rc_plan.specs.declared.edge_classes.EdgeClasses.{EdgeClasses}
use Rattle.rc_plan.specs.declared.resolved.ResolvedEdge.{ResolvedEdge}
use Rattle.rc_plan.specs.declared.statement.ReadMode.{ReadMode}
use Rattle.rc_plan.specs.declared.statement.ReadMode.TheVariants.{Lookup, Scan}
use Rattle.rc_plan.specs.declared.statement.Statement.{Statement}
use Rattle.rc_plan.specs.declared.statement.Statement.TheVariants.{Lock, Read, CheckDep, Commit}
use Rattle.rc_plan.specs.declared.statement.Which.TheVariants as which
use Rattle.rc_plan.specs.Compiled.{IsCompiled, plan_at}
use Rattle.rc_plan.specs.PlanRules.{given_columns, pattern_columns}
use Rattle.rc_plan.specs.EdgeClasses.{AreEdgeClasses}
use Rattle.rc_plan.specs.Resolved.{AllBelow, AreBandStarts, AreResolvedEdges}

-- ---- Locks

abbrev pub is_lock : Statement → Bool
is_lock (Lock c choice mode) = true
is_lock _ = false

-- a Lock that a tuple with these columns alone tells: of the stripe on which it falls, or of all stripes of the class
abbrev pub is_given_lock : Spec → List ℕ → Statement → Bool
is_given_lock spec cols (Lock c which.Keyed mode) = is_within (class_at spec c).cols cols
is_given_lock spec cols (Lock c which.All mode) = true
is_given_lock spec cols _ = false

-- a Lock of the class
abbrev pub is_lock_of : ℕ → Statement → Bool
is_lock_of class (Lock c choice mode) = c == class
is_lock_of class _ = false

-- a check of a dependency
abbrev pub is_dep_check : Statement → Bool
is_dep_check (CheckDep dep) = true
is_dep_check _ = false

-- a Read of the edge
abbrev pub is_read_of : ℕ → Statement → Bool
is_read_of e (Read k mode) = k == e
is_read_of e _ = false

-- ---- late Locks

-- the statement, behind these, is a Read, or a Lock of the stripes on which the bindings fall, which stands behind a Read of the edge
abbrev pub IsLate : ℕ → List Statement → Statement → Type 0
IsLate e before (Lock c choice mode) = (choice ≡ which.Keyed) × (list_any (is_read_of e) before ≡ true)
IsLate e before (Read k mode) = Unit {0}
IsLate e before _ = ⊥

-- so it is with each of them
abbrev pub AreLate : ℕ → List Statement → Type 0
AreLate e xs = (n : ℕ) → n < length xs → IsLate e (take n xs) (get_or xs n Commit)

-- what may stand between the first Locks of an operation's plan and others: a remove's late statements, which lock once the edge is read; the other operations have no other Lock
abbrev pub MayBeLate : OpKind → ℕ → List Statement → Type 0
MayBeLate (Query outs ranges) e xs = xs ≡ []
MayBeLate Insert e xs = xs ≡ []
MayBeLate Remove e xs = AreLate e xs
MayBeLate Update e xs = xs ≡ []

-- ---- paths

-- The plan begins with so many Locks that a call's tuple alone tells, among them one of the edge's class; the tuple's values at the pattern tell the stripe of that class. So many statements come next that may be late, as few as have every other Lock among them.
pub record IsLockedFirst (spec : Spec) (op : Op) (plan : List Statement) (p : AccessPath) : Type 0 where
  pub edge : p.edge < length spec.edges
  pub within : p.locks + p.late ≤ length plan
  pub first : list_all (is_given_lock spec (given_columns spec op)) (take p.locks plan) ≡ true
  pub late : MayBeLate op.kind p.edge (take p.late (drop p.locks plan))
  pub others : list_any is_lock (drop p.late (drop p.locks plan)) ≡ false
  pub last : (n : ℕ) → list_any is_lock (drop n (drop p.locks plan)) ≡ false → p.late ≤ n
  pub locked : list_any (is_lock_of (class_of spec p.edge)) (take p.locks plan) ≡ true
  pub striped : Within (class_at spec (class_of spec p.edge)).cols (pattern_columns op)

-- the columns of the edge's target that neither source nor key has
abbrev pub extra_of : Spec → Edge → List ℕ
extra_of spec e = minus (bound spec e.to) (source_and_key spec e)

-- A query without ranges gives source and key of the edge, and asks for columns of its target: one row at most answers it.
pub record AsksForRow (spec : Spec) (op : Op) (e : Edge) : Type 0 where
  pub given : pattern_columns op ≡ source_and_key spec e
  pub outs : List ℕ
  pub query : op.kind ≡ Query outs []
  pub within : Within outs (bound spec e.to)
  pub told : 0 < spec.most_rows

-- A query without ranges gives the edge's source, and asks for its key, which has a column, and then for its extra columns: the rows of one source answer it.
pub record AsksForRows (spec : Spec) (op : Op) (e : Edge) : Type 0 where
  pub given : pattern_columns op ≡ bound spec e.from
  pub query : op.kind ≡ Query (e.key ++ extra_of spec e) []
  pub keyed : e.key ≡ [] → ⊥

-- a query is answered by the one row, or by the rows
abbrev pub AsksQuery : ReadMode → Spec → Op → Edge → Type 0
AsksQuery Lookup spec op e = AsksForRow spec op e
AsksQuery Scan spec op e = AsksForRows spec op e

-- An insert's pattern is source and key of the edge, and its plan checks no dependency: the row tells whether a tuple has the pattern's values.
pub record InsertsRow (spec : Spec) (op : Op) (plan : List Statement) (e : Edge) : Type 0 where
  pub given : pattern_columns op ≡ source_and_key spec e
  pub unchecked : list_any is_dep_check plan ≡ false

-- A remove gives source and key of the edge, whose target has all columns: the row is the tuple that is removed.
pub record RemovesRow (spec : Spec) (op : Op) (e : Edge) : Type 0 where
  pub given : pattern_columns op ≡ source_and_key spec e
  pub whole : bound spec e.to ≡ all_columns spec

-- An update's pattern is source and key of the edge, whose target has all columns, and its plan checks no dependency: the row is the tuple that is there before.
pub record UpdatesRow (spec : Spec) (op : Op) (plan : List Statement) (e : Edge) : Type 0 where
  pub given : pattern_columns op ≡ source_and_key spec e
  pub whole : bound spec e.to ≡ all_columns spec
  pub unchecked : list_any is_dep_check plan ≡ false

-- what an operation of this kind asks of the edge, whose rows are found so
abbrev pub Asks : OpKind → ReadMode → Spec → Op → List Statement → Edge → Type 0
Asks (Query outs ranges) mode spec op plan e = AsksQuery mode spec op e
Asks Insert Lookup spec op plan e = InsertsRow spec op plan e
Asks Insert Scan spec op plan e = ⊥
Asks Remove Lookup spec op plan e = RemovesRow spec op e
Asks Remove Scan spec op plan e = ⊥
Asks Update Lookup spec op plan e = UpdatesRow spec op plan e
Asks Update Scan spec op plan e = ⊥

-- the outputs of a query are these columns, in their order
abbrev pub AsksFor : OpKind → List ℕ → Type 0
AsksFor (Query outs ranges) cols = outs ≡ cols
AsksFor Insert cols = ⊥
AsksFor Remove cols = ⊥
AsksFor Update cols = ⊥

-- the operation's calls are answered by the edge's rows, which lie on the arguments' stripe, which the plan locks first; what it locks late, the row that is found tells
pub record IsAccessPath (spec : Spec) (op : Op) (plan : List Statement) (p : AccessPath) : Type 0 where
  pub locks : IsLockedFirst spec op plan p
  pub asks : Asks op.kind p.mode spec op plan (edge_at spec p.edge)
  pub extra : IsTrue p.extra_alone ↔ AsksFor op.kind (extra_of spec (edge_at spec p.edge))

-- no edge that the plan reads has a path
abbrev pub HasNoPath : Spec → Op → List Statement → Type 0
HasNoPath spec op plan = (p : AccessPath) (mode : ReadMode) → In (Read p.edge mode) plan → IsAccessPath spec op plan p → ⊥

-- a path of the operation's calls, wherever an edge that the plan reads has one
pub record IsPathOf (spec : Spec) (op : Op) (plan : List Statement) (path : Option AccessPath) : Type 0 where
  pub some : IfSome path (IsAccessPath spec op plan)
  pub none : path ≡ None → HasNoPath spec op plan

-- the paths of the operations that have one, by their numbers
abbrev pub AreAccessPaths : Spec → List (List Statement) → List (Option AccessPath) → Type 0
AreAccessPaths spec plans paths = AllBelow (λ op path. IsPathOf spec (op_at spec op) (plan_at plans op) path) (length spec.ops) paths

-- an accepted specification with accepted plans, what they ask of its edges and classes, and how calls are answered
pub record IsCompiledWith (spec : Spec) (plans : List (List Statement)) (edges : List ResolvedEdge) (starts : List ℕ) (classes : EdgeClasses) (paths : List (Option AccessPath)) : Type 0 where
  pub compiled : IsCompiled spec plans
  pub resolved : AreResolvedEdges spec edges
  pub begun : AreBandStarts spec starts
  pub classes_of : AreEdgeClasses spec classes
  pub answered : AreAccessPaths spec plans paths
