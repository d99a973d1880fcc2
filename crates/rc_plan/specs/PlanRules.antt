-- The rules that an accepted plan keeps, and the first that is broken. Statements are tested in order, each by K1 to K7, on what is known of the run before it. (PLDI 2012, well-locked query plans and the order of locks; PLDI 2011, valid query plans.)
use Rattle.std.specs.Prelude.{◌≡◌, ℕ, ◌<◌, ◌≤◌, Bool, true, false, List, [], ◌∷◌, ◌++◌, ◌⊎◌, Option, None, Some, map, length, IfSome, take, fold}
use Rattle.rc_plan.specs.Imports.{flat_map, range_with_len, slice_get, nat_cmp, In, gather, Within, union, Op, OpKind, Query, Insert, Remove, Update, Mode, Exclusive, Spec, IsLossless, all_columns, value_columns, GivesTuple, edge_at, target_columns, IsFirstFailing, class_at, class_of, range_columns}
use Rattle.rc_plan.specs.declared.refusal.PlanRefusal.{PlanRefusal}
use Rattle.rc_plan.specs.declared.refusal.PlanRule.{PlanRule}
use Rattle.rc_plan.specs.declared.refusal.PlanRule.TheVariants.{K1, K2, K3, K4, K5, K6, K7}
use Rattle.rc_plan.specs.declared.statement.ReadMode.{ReadMode}
use Rattle.rc_plan.specs.declared.statement.ReadMode.TheVariants.{Lookup, Scan}
use Rattle.rc_plan.specs.declared.statement.Statement.{Statement}
use Rattle.rc_plan.specs.declared.statement.Statement.TheVariants.{Lock, Probe, Read, CheckAbsent, CheckFound, CheckDep, Apply, Emit, Commit, Release}
use Rattle.rc_plan.specs.declared.statement.Which.{Which}
use Rattle.rc_plan.specs.declared.statement.Which.TheVariants as which
use Rattle.rc_plan.specs.Evaluation.{dep_at}

-- ---- what is known of a run before a statement

-- before the write or the answer, between it and the commit, and after the commit
pub data Phase : Type 0 where
  Searching : Phase
  Decided : Phase
  Committed : Phase

pub record Progress : Type 0 where
  pub phase : Phase
  -- the columns that the bindings have at least
  pub columns : List ℕ
  -- the columns visited since the start or the last Probe, and the targets of the edges read since then
  pub visited : List ℕ
  pub reached : List ℕ
  -- the classes locked so far, the last of them first, and those released
  pub locked : List (ℕ × Which)
  pub released : List ℕ
  -- the last Probe's columns
  pub probe : Option (List ℕ)
  -- whether CheckAbsent or CheckFound has come, and the dependencies checked
  pub sought : Bool
  pub checked : List ℕ

-- the pattern's columns, as a set
abbrev pub pattern_columns : Op → List ℕ
pattern_columns op = gather nat_cmp op.pattern

-- the columns of a call's tuple: an insert and an update have all, a query and a remove have the pattern's
abbrev pub given_columns : Spec → Op → List ℕ
given_columns spec op = gather nat_cmp (value_columns spec op.pattern op.kind)

abbrev pub at_start : Spec → Op → Progress
at_start spec op = record {
  phase = Phase.Searching;
  columns = given_columns spec op;
  visited = [];
  reached = [];
  locked = [];
  released = [];
  probe = None;
  sought = false;
  checked = [];
}

abbrev pub after : Spec → Progress → Statement → Progress
after spec p (Lock c choice mode) = record p { locked = (c, choice) ∷ p.locked }
after spec p (Probe cols) = record p { columns = cols; visited = []; reached = []; probe = Some cols }
after spec p (Read e mode) = record p { columns = union p.columns (target_columns spec e); visited = union p.visited (target_columns spec e); reached = (edge_at spec e).to ∷ p.reached }
after spec p CheckAbsent = record p { sought = true }
after spec p CheckFound = record p { sought = true }
after spec p (CheckDep dep) = record p { checked = dep ∷ p.checked }
after spec p Apply = record p { phase = Phase.Decided }
after spec p Emit = record p { phase = Phase.Decided }
after spec p Commit = record p { phase = Phase.Committed }
after spec p (Release c) = record p { released = c ∷ p.released }

abbrev pub IsLocked : Progress → ℕ → Type 0
IsLocked p c = (choice : Which) × In (c, choice) p.locked

abbrev pub HasProbed : Progress → Type 0
HasProbed p = (cols : List ℕ) × (p.probe ≡ Some cols)

-- ---- the numbers of a statement are the specification's

abbrev pub IsKnown : Spec → Statement → Type 0
IsKnown spec (Lock c choice mode) = c < length spec.classes
IsKnown spec (Probe cols) = Within cols (all_columns spec)
IsKnown spec (Read e mode) = e < length spec.edges
IsKnown spec CheckAbsent = Unit {0}
IsKnown spec CheckFound = Unit {0}
IsKnown spec (CheckDep dep) = (0 < dep) × (dep ≤ length spec.deps)
IsKnown spec Apply = Unit {0}
IsKnown spec Emit = Unit {0}
IsKnown spec Commit = Unit {0}
IsKnown spec (Release c) = c < length spec.classes

abbrev pub AreKnown : Spec → List Statement → Type 0
AreKnown spec plan = (x : Statement) → In x plan → IsKnown spec x

-- ---- K1: phases

-- a query's Locks have either mode, the others' are Exclusive
abbrev pub HasLockMode : OpKind → Mode → Type 0
HasLockMode (Query outs ranges) mode = Unit {0}
HasLockMode Insert mode = mode ≡ Exclusive
HasLockMode Remove mode = mode ≡ Exclusive
HasLockMode Update mode = mode ≡ Exclusive

-- an insert and an update read behind a Probe
abbrev pub MayRead : OpKind → Progress → Type 0
MayRead (Query outs ranges) p = Unit {0}
MayRead Insert p = HasProbed p
MayRead Remove p = Unit {0}
MayRead Update p = HasProbed p

-- a query applies nothing, an insert and an update behind a Probe
abbrev pub MayApply : OpKind → Progress → Type 0
MayApply (Query outs ranges) p = ⊥
MayApply Insert p = HasProbed p
MayApply Remove p = Unit {0}
MayApply Update p = HasProbed p

abbrev pub IsInsert : OpKind → Type 0
IsInsert (Query outs ranges) = ⊥
IsInsert Insert = Unit {0}
IsInsert Remove = ⊥
IsInsert Update = ⊥

abbrev pub IsUpdate : OpKind → Type 0
IsUpdate (Query outs ranges) = ⊥
IsUpdate Insert = ⊥
IsUpdate Remove = ⊥
IsUpdate Update = Unit {0}

abbrev pub IsQuery : OpKind → Type 0
IsQuery (Query outs ranges) = Unit {0}
IsQuery Insert = ⊥
IsQuery Remove = ⊥
IsQuery Update = ⊥

-- a query has Locks and Reads, and then one Emit; a remove Exclusive Locks and Reads, and then one Apply; an insert Exclusive Locks, then Probes, Reads and checks, of which the first is a Probe, and then one Apply; an update the same with CheckFound in place of CheckAbsent. Then comes one Commit, and then one Release of each locked class.
abbrev pub KeepsK1 : OpKind → Progress → Statement → Type 0
KeepsK1 kind p (Lock c choice mode) = (p.phase ≡ Phase.Searching) × (p.probe ≡ None) × HasLockMode kind mode
KeepsK1 kind p (Probe cols) = (p.phase ≡ Phase.Searching) × GivesTuple kind
KeepsK1 kind p (Read e mode) = (p.phase ≡ Phase.Searching) × MayRead kind p
KeepsK1 kind p CheckAbsent = (p.phase ≡ Phase.Searching) × IsInsert kind × HasProbed p
KeepsK1 kind p CheckFound = (p.phase ≡ Phase.Searching) × IsUpdate kind × HasProbed p
KeepsK1 kind p (CheckDep dep) = (p.phase ≡ Phase.Searching) × GivesTuple kind × HasProbed p
KeepsK1 kind p Apply = (p.phase ≡ Phase.Searching) × MayApply kind p
KeepsK1 kind p Emit = (p.phase ≡ Phase.Searching) × IsQuery kind
KeepsK1 kind p Commit = p.phase ≡ Phase.Decided
KeepsK1 kind p (Release c) = (p.phase ≡ Phase.Committed) × IsLocked p c × (In c p.released → ⊥)

-- at a plan's end the commit has come, and each locked class is released
abbrev pub IsComplete : Progress → Type 0
IsComplete p = (p.phase ≡ Phase.Committed) × ((c : ℕ) → IsLocked p c → In c p.released)

-- ---- K2: order

-- a Lock's class is after every class locked before
abbrev pub KeepsK2 : Progress → Statement → Type 0
KeepsK2 p (Lock c choice mode) = (x : ℕ × Which) → In x p.locked → x.0 < c
KeepsK2 p _ = Unit {0}

-- ---- K3: cover of reads

-- the columns that choose a stripe are bound, where a Lock takes those of the bindings
abbrev pub IsKeyBound : Spec → ℕ → Which → List ℕ → Type 0
IsKeyBound spec c which.Keyed columns = Within (class_at spec c).cols columns
IsKeyBound spec c which.All columns = Unit {0}

-- what is locked keyed covers a search behind a Probe whose columns choose the stripe
abbrev pub Covers : Spec → Progress → ℕ → Which → Type 0
Covers spec p c which.Keyed = IfSome p.probe (λ cols. Within (class_at spec c).cols cols)
Covers spec p c which.All = Unit {0}

abbrev pub KeepsK3 : Spec → Progress → Statement → Type 0
KeepsK3 spec p (Lock c choice mode) = IsKeyBound spec c choice p.columns
KeepsK3 spec p (Read e mode) = (choice : Which) × In (class_of spec e, choice) p.locked × Covers spec p (class_of spec e) choice
KeepsK3 spec p _ = Unit {0}

-- ---- K4: cover of writes

-- what an update locks keyed is of classes whose columns the pattern has: so the old tuple's rows fall where the new one's do
abbrev pub CoversOld : Spec → Op → OpKind → Progress → Type 0
CoversOld spec op (Query outs ranges) p = Unit {0}
CoversOld spec op Insert p = Unit {0}
CoversOld spec op Remove p = Unit {0}
CoversOld spec op Update p = (e : ℕ) → e < length spec.edges → In (class_of spec e, which.Keyed) p.locked → Within (class_at spec (class_of spec e)).cols (pattern_columns op)

-- each class that has an edge is locked
abbrev pub KeepsK4 : Spec → Op → Progress → Statement → Type 0
KeepsK4 spec op p Apply = ((e : ℕ) → e < length spec.edges → IsLocked p (class_of spec e)) × CoversOld spec op op.kind p
KeepsK4 spec op p _ = Unit {0}

-- ---- K5: steps of reads

-- a look-up has the key's values
abbrev pub IsFindable : ReadMode → List ℕ → List ℕ → Type 0
IsFindable Lookup key columns = Within key columns
IsFindable Scan key columns = Unit {0}

-- the source is the root or was reached, a look-up has its key, and the join with the rows loses no tuple
abbrev pub KeepsK5 : Spec → Progress → Statement → Type 0
KeepsK5 spec p (Read e mode) =
    (((edge_at spec e).from ≡ 0) ⊎ In (edge_at spec e).from p.reached)
    × IsFindable mode (edge_at spec e).key p.columns
    × IsLossless spec p.visited (target_columns spec e)
KeepsK5 spec p _ = Unit {0}

-- ---- K6: what is found

abbrev pub OutputsAreVisited : OpKind → List ℕ → Type 0
OutputsAreVisited (Query outs ranges) visited = Within outs visited
OutputsAreVisited Insert visited = Unit {0}
OutputsAreVisited Remove visited = Unit {0}
OutputsAreVisited Update visited = Unit {0}

-- a remove finds whole tuples
abbrev pub FindsTuples : Spec → OpKind → List ℕ → Type 0
FindsTuples spec (Query outs ranges) visited = Unit {0}
FindsTuples spec Insert visited = Unit {0}
FindsTuples spec Remove visited = Within (all_columns spec) visited
FindsTuples spec Update visited = Unit {0}

-- an update's check of a dependency tells the old tuple by its pattern values
abbrev pub TellsOld : Op → OpKind → List ℕ → Type 0
TellsOld op (Query outs ranges) visited = Unit {0}
TellsOld op Insert visited = Unit {0}
TellsOld op Remove visited = Unit {0}
TellsOld op Update visited = Within (pattern_columns op) visited

-- what a statement speaks of was visited: at Emit the pattern, the outputs and the range columns; at CheckAbsent the last Probe's columns, which are the pattern; at CheckFound all columns, behind a Probe of the pattern; at CheckDep the last Probe's columns, which are the dependency's left side, and its right side, and in an update the pattern; at a remove's Apply all columns
abbrev pub KeepsK6 : Spec → Op → Progress → Statement → Type 0
KeepsK6 spec op p Emit = Within (pattern_columns op) p.visited × OutputsAreVisited op.kind p.visited × Within (range_columns op.kind) p.visited
KeepsK6 spec op p CheckAbsent = (p.probe ≡ Some (pattern_columns op)) × Within (pattern_columns op) p.visited
KeepsK6 spec op p CheckFound = (p.probe ≡ Some (pattern_columns op)) × Within (all_columns spec) p.visited
KeepsK6 spec op p (CheckDep dep) = (p.probe ≡ Some (dep_at spec dep).left) × Within (dep_at spec dep).left p.visited × Within (dep_at spec dep).right p.visited × TellsOld op op.kind p.visited
KeepsK6 spec op p Apply = FindsTuples spec op.kind p.visited
KeepsK6 spec op p _ = Unit {0}

-- ---- K7: checks

-- a tuple that no other has the pattern values of can break the dependency: its left side doesn't hold the whole pattern
abbrev pub IsAtRisk : Spec → Op → ℕ → Type 0
IsAtRisk spec op dep = Within (pattern_columns op) (dep_at spec dep).left → ⊥

-- all checks that an insert or an update needs have come
abbrev pub ChecksAreDone : Spec → Op → OpKind → Progress → Type 0
ChecksAreDone spec op (Query outs ranges) p = Unit {0}
ChecksAreDone spec op Insert p = (p.sought ≡ true) × ((dep : ℕ) → 0 < dep → dep ≤ length spec.deps → IsAtRisk spec op dep → In dep p.checked)
ChecksAreDone spec op Remove p = Unit {0}
ChecksAreDone spec op Update p = (p.sought ≡ true) × ((dep : ℕ) → 0 < dep → dep ≤ length spec.deps → IsAtRisk spec op dep → In dep p.checked)

-- a dependency is checked after CheckAbsent or CheckFound and after those with smaller numbers; at an insert's or an update's Apply the checks are done
abbrev pub KeepsK7 : Spec → Op → Progress → Statement → Type 0
KeepsK7 spec op p (CheckDep dep) = (p.sought ≡ true) × ((d : ℕ) → In d p.checked → d < dep)
KeepsK7 spec op p Apply = ChecksAreDone spec op op.kind p
KeepsK7 spec op p _ = Unit {0}

-- ---- all rules

-- the statement keeps the rule
abbrev pub StatementKeeps : Spec → Op → PlanRule → Progress → Statement → Type 0
StatementKeeps spec op K1 p x = KeepsK1 op.kind p x
StatementKeeps spec op K2 p x = KeepsK2 p x
StatementKeeps spec op K3 p x = KeepsK3 spec p x
StatementKeeps spec op K4 p x = KeepsK4 spec op p x
StatementKeeps spec op K5 p x = KeepsK5 spec p x
StatementKeeps spec op K6 p x = KeepsK6 spec op p x
StatementKeeps spec op K7 p x = KeepsK7 spec op p x

-- the statement keeps all rules
pub record KeepsAll (spec : Spec) (op : Op) (p : Progress) (x : Statement) : Type 0 where
  pub k1 : KeepsK1 op.kind p x
  pub k2 : KeepsK2 p x
  pub k3 : KeepsK3 spec p x
  pub k4 : KeepsK4 spec op p x
  pub k5 : KeepsK5 spec p x
  pub k6 : KeepsK6 spec op p x
  pub k7 : KeepsK7 spec op p x

-- the statements in turn keep all rules, and at the end the plan is complete
abbrev pub KeepsFrom : Spec → Op → Progress → List Statement → Type 0
KeepsFrom spec op p [] = IsComplete p
KeepsFrom spec op p (x ∷ plan) = KeepsAll spec op p x × KeepsFrom spec op (after spec p x) plan

-- the plan keeps K1 to K7 for the operation
abbrev pub KeepsPlanRules : Spec → Op → List Statement → Type 0
KeepsPlanRules spec op plan = KeepsFrom spec op (at_start spec op) plan

-- ---- the first broken rule

-- what is known before the statement with this number
abbrev pub progress_at : Spec → Op → List Statement → ℕ → Progress
progress_at spec op plan n = fold (after spec) (at_start spec op) (take n plan)

-- the end of the plan is tested by K1 alone
abbrev pub KeepsThere : Spec → Op → PlanRule → Progress → Option Statement → Type 0
KeepsThere spec op rule p (Some x) = StatementKeeps spec op rule p x
KeepsThere spec op rule p None = IsComplete p

-- A refusal speaks of a rule and a statement: the statement keeps the rule. A check is written as the refusal that its failure gives.
abbrev pub IsKeptInPlan : Spec → Op → List Statement → PlanRefusal → Type 0
IsKeptInPlan spec op plan check = KeepsThere spec op check.rule (progress_at spec op plan check.at) (slice_get plan check.at)

abbrev pub plan_rules : List PlanRule
plan_rules = K1 ∷ K2 ∷ K3 ∷ K4 ∷ K5 ∷ K6 ∷ K7 ∷ []

abbrev pub check_at : ℕ → PlanRule → PlanRefusal
check_at n rule = record { rule = rule; at = n }

-- the rules at a statement
abbrev pub checks_at : ℕ → List PlanRefusal
checks_at n = map (check_at n) plan_rules

-- the statements in order, each by its rules, and then the end
abbrev pub plan_checks : List Statement → List PlanRefusal
plan_checks plan = flat_map checks_at (range_with_len 0 (length plan)) ++ check_at (length plan) K1 ∷ []

-- the first broken rule, with the number of the first statement that breaks it
abbrev pub IsFirstBrokenPlanRule : Spec → Op → List Statement → PlanRefusal → Type 0
IsFirstBrokenPlanRule spec op plan refusal = IsFirstFailing (IsKeptInPlan spec op plan) (plan_checks plan) refusal
