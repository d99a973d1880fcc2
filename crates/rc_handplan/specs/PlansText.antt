-- The plans of a specification's operations, as they are printed.
use Rattle.std.specs.Prelude.{ℕ, ◌<◌, List, [], ◌∷◌, ◌++◌, length, codes}
use Rattle.rc_handplan.specs.Imports.{flat_map, range_with_len, printed_lines, Spec, plan_at, plan_text, Statement}
use Rattle.rc_handplan.specs.Hands.{HaveSets}

-- the text of an operation's plan, by its number
abbrev pub op_text : Spec → List (List Statement) → ℕ → List ℕ
op_text spec plans op = plan_text spec op (plan_at plans op)

-- the plans of all operations, in the order in which these are written
abbrev pub plans_text : Spec → List (List Statement) → List ℕ
plans_text spec plans = flat_map (op_text spec plans) (range_with_len 0 (length spec.ops))

-- and the line `end` behind them: plans that stand alone
abbrev pub plans_alone : Spec → List (List Statement) → List ℕ
plans_alone spec plans = plans_text spec plans ++ printed_lines (codes "end" ∷ [])

-- the columns of each Probe of the operations' plans are a set
abbrev pub OpsHaveSets : Spec → List (List Statement) → Type 0
OpsHaveSets spec plans = (op : ℕ) → op < length spec.ops → HaveSets (plan_at plans op)
