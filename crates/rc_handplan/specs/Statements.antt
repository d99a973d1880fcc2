-- The statement that a line writes, and the line that a statement is written in.
use Rattle.std.specs.Prelude.{ℕ, ◌||◌, ◌&&◌, nat_le, if◌then◌else◌, List, map, length, get_or, decimal, Option, Some, None, Result, Ok, Err}
use Rattle.rc_handplan.specs.Imports.{option_map, nat_cmp, gather, u64_of, NumFault, edge_at, column_names, edge_names, class_names, class_at, no_column, Spec, number_among, numbers_of, has_unknown, names_twice, Statement, Lock, Probe, Read, CheckAbsent, CheckFound, CheckDep, Apply, Emit, Commit, Release}
use Rattle.rc_handplan.specs.Forms.{StatementForm, lock_form, probe_form, read_form, absent_form, found_form, check_form, apply_form, emit_form, commit_form, release_form}

abbrev pub class_named : Spec → List ℕ → Option ℕ
class_named spec name = number_among (class_names spec.classes) name

abbrev pub edge_named : Spec → List ℕ → Option ℕ
edge_named spec name = number_among (edge_names spec.edges) name

-- the set of the columns that words name, if each names one and no two name the same
abbrev pub columns_named : Spec → List (List ℕ) → Option (List ℕ)
columns_named spec words =
    if has_unknown (column_names spec.columns) words || names_twice (column_names spec.columns) words then None
    else Some (gather nat_cmp (numbers_of (column_names spec.columns) words))

abbrev pub dependency_by : ℕ → Result ℕ NumFault → Option ℕ
dependency_by count (Ok number) = if nat_le 1 number && nat_le number count then Some number else None
dependency_by count (Err fault) = None

-- the number that digits stand for, if it is a dependency's, which are counted from 1
abbrev pub dependency_named : Spec → List ℕ → Option ℕ
dependency_named spec digits = dependency_by (length spec.deps) (u64_of digits)

-- the statement that is written by a line which says this, if the line names what the specification has, and no column
-- twice
abbrev pub statement_of : Spec → StatementForm → Option Statement
statement_of spec (lock_form class choice mode) = option_map (λ number. Lock number choice mode) (class_named spec class)
statement_of spec (probe_form columns) = option_map Probe (columns_named spec columns)
statement_of spec (read_form edge mode) = option_map (λ number. Read number mode) (edge_named spec edge)
statement_of spec absent_form = Some CheckAbsent
statement_of spec found_form = Some CheckFound
statement_of spec (check_form digits) = option_map CheckDep (dependency_named spec digits)
statement_of spec apply_form = Some Apply
statement_of spec emit_form = Some Emit
statement_of spec commit_form = Some Commit
statement_of spec (release_form class) = option_map Release (class_named spec class)

abbrev pub column_name : Spec → ℕ → List ℕ
column_name spec c = (get_or spec.columns c no_column).name

-- what the line of a statement says
abbrev pub form_of_statement : Spec → Statement → StatementForm
form_of_statement spec (Lock c choice mode) = lock_form (class_at spec c).name choice mode
form_of_statement spec (Probe cols) = probe_form (map (column_name spec) cols)
form_of_statement spec (Read e mode) = read_form (edge_at spec e).name mode
form_of_statement spec CheckAbsent = absent_form
form_of_statement spec CheckFound = found_form
form_of_statement spec (CheckDep dep) = check_form (decimal dep)
form_of_statement spec Apply = apply_form
form_of_statement spec Emit = emit_form
form_of_statement spec Commit = commit_form
form_of_statement spec (Release c) = release_form (class_at spec c).name
