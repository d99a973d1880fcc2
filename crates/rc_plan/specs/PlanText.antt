-- How plans and their rules are printed.
use Rattle.std.specs.Prelude.{ℕ, List, [], ◌∷◌, ◌++◌, codes, get_or, map}
use Rattle.rc_plan.specs.Imports.{flat_map, decimal, Mode, Shared, Exclusive, Spec, edge_at, class_at, op_at, no_column}
use Rattle.rc_plan.specs.declared.refusal.PlanRule.{PlanRule}
use Rattle.rc_plan.specs.declared.refusal.PlanRule.TheVariants.{K1, K2, K3, K4, K5, K6, K7}
use Rattle.rc_plan.specs.declared.statement.ReadMode.{ReadMode}
use Rattle.rc_plan.specs.declared.statement.ReadMode.TheVariants.{Lookup, Scan}
use Rattle.rc_plan.specs.declared.statement.Statement.{Statement}
use Rattle.rc_plan.specs.declared.statement.Statement.TheVariants.{Lock, Probe, Read, CheckAbsent, CheckFound, CheckDep, Apply, Emit, Commit, Release}
use Rattle.rc_plan.specs.declared.statement.Which.{Which}
use Rattle.rc_plan.specs.declared.statement.Which.TheVariants as which

abbrev pub plan_rule_text : PlanRule → List ℕ
plan_rule_text K1 = codes "K1"
plan_rule_text K2 = codes "K2"
plan_rule_text K3 = codes "K3"
plan_rule_text K4 = codes "K4"
plan_rule_text K5 = codes "K5"
plan_rule_text K6 = codes "K6"
plan_rule_text K7 = codes "K7"

-- ---- words

abbrev pub which_text : Which → List ℕ
which_text which.Keyed = codes " keyed"
which_text which.All = codes " all"

-- an Exclusive lock has no further word
abbrev pub lock_mode_text : Mode → List ℕ
lock_mode_text Shared = codes " shared"
lock_mode_text Exclusive = codes ""

abbrev pub read_mode_text : ReadMode → List ℕ
read_mode_text Lookup = codes " lookup"
read_mode_text Scan = codes " scan"

-- a space and the column's name
abbrev pub column_text : Spec → ℕ → List ℕ
column_text spec c = codes " " ++ (get_or spec.columns c no_column).name

-- ---- statements

abbrev pub statement_text : Spec → Statement → List ℕ
statement_text spec (Lock c choice mode) = codes "lock " ++ (class_at spec c).name ++ which_text choice ++ lock_mode_text mode
statement_text spec (Probe cols) = codes "probe" ++ flat_map (column_text spec) cols
statement_text spec (Read e mode) = codes "read " ++ (edge_at spec e).name ++ read_mode_text mode
statement_text spec CheckAbsent = codes "absent"
statement_text spec CheckFound = codes "found"
statement_text spec (CheckDep dep) = codes "check " ++ decimal dep
statement_text spec Apply = codes "apply"
statement_text spec Emit = codes "emit"
statement_text spec Commit = codes "commit"
statement_text spec (Release c) = codes "release " ++ (class_at spec c).name

-- 10 is the line feed
abbrev pub statement_line : Spec → Statement → List ℕ
statement_line spec x = statement_text spec x ++ 10 ∷ []

-- the lines of an operation's plan: `plan` with the operation's name, and one for each statement
abbrev pub plan_lines : Spec → ℕ → List Statement → List (List ℕ)
plan_lines spec op plan = (codes "plan " ++ (op_at spec op).name) ∷ map (statement_text spec) plan

-- `plan` and the operation's name, and then a line for each statement
abbrev pub plan_text : Spec → ℕ → List Statement → List ℕ
plan_text spec op plan = codes "plan " ++ (op_at spec op).name ++ 10 ∷ [] ++ flat_map (statement_line spec) plan
