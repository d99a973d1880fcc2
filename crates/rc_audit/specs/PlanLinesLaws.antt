-- The lines that are wanted of a plan are those in which it is printed.
use Rattle.std.proofs.Common.{◌≡◌, ℕ, List, [], ◌∷◌, ◌++◌, ap}
use Rattle.rc_audit.specs.Imports.{codes, printed_lines, Spec, op_at, Statement, plan_at, plan_text, statement_text}
use Rattle.std.proofs.lemmas.List.Folds.{flat_map-map}
use Rattle.rc_audit.specs.GoodReports.{op_lines}

-- each with a line feed behind it, they are the text of the plan
abbrev pub PlanLinesAreWritten : Type 0
PlanLinesAreWritten = (spec : Spec) (plans : List (List Statement)) (op : ℕ)
    → printed_lines (op_lines spec plans op) ≡ plan_text spec op (plan_at plans op)

pub plan_lines_are_written : PlanLinesAreWritten
plan_lines_are_written spec plans op =
    let feed : List ℕ → List ℕ = λ line. line ++ 10 ∷ [] in
    ap (λ l. ((codes "plan " ++ (op_at spec op).name) ++ 10 ∷ []) ++ l) (flat_map-map feed (statement_text spec) (plan_at plans op))
