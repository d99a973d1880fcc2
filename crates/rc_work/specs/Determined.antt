-- The columns that dependencies determine, reckoned, and the rules of operations as a test.
use Rattle.std.specs.Prelude.{ℕ, zero, suc, Bool, not, ◌&&◌, ◌==◌, if◌then◌else◌, List, [], ◌∷◌, length, Option, Some, None}
use Rattle.rc_work.specs.Imports.{nat_cmp, gather, is_within, union, Dep, Op, OpKind, Query, Insert, Remove, Update, Spec, all_columns, has_repeat}

-- a dependency that applies, and those beside it
pub record Applied : Type 0 where
  pub dep : Dep
  pub others : List Dep

abbrev pub beside : Dep → Option Applied → Option Applied
beside d None = None
beside d (Some found) = Some (record { dep = found.dep; others = d ∷ found.others })

-- the first of the dependencies whose left side lies in the columns
abbrev pub first_applied : List Dep → List ℕ → Option Applied
first_applied [] cols = None
first_applied (d ∷ deps) cols =
    if is_within d.left cols then Some (record { dep = d; others = deps }) else beside d (first_applied deps cols)

-- the columns with the right side of a dependency that applies, and with what the others then give
abbrev pub grown_with : (List Dep → List ℕ → List ℕ) → Option Applied → List ℕ → List ℕ
grown_with go_on None cols = cols
grown_with go_on (Some found) cols = go_on found.others (union cols found.dep.right)

-- so many times (the textbook's attribute closure)
abbrev pub grown : ℕ → List Dep → List ℕ → List ℕ
grown zero deps cols = cols
grown (suc n) deps cols = grown_with (grown n) (first_applied deps cols) cols

-- all columns that the dependencies determine from some: each dependency is taken at most once
abbrev pub determined : List Dep → List ℕ → List ℕ
determined deps cols = grown (length deps) deps cols

-- whether they determine all columns of the specification
abbrev pub is_key : Spec → List ℕ → Bool
is_key spec cols = is_within (all_columns spec) (determined spec.deps cols)

abbrev pub keeps_by : Spec → List ℕ → OpKind → Bool
keeps_by spec pattern (Query outs ranges) = not (length outs == 0) && not (has_repeat outs)
keeps_by spec pattern Insert = not (length pattern == 0)
keeps_by spec pattern Remove = is_key spec (gather nat_cmp pattern)
keeps_by spec pattern Update = is_key spec (gather nat_cmp pattern)

-- whether an operation keeps O1 to O3: a query has outputs, each once; an insert's pattern isn't empty; and that of a remove or
-- an update determines all columns
abbrev pub keeps_rules : Spec → Op → Bool
keeps_rules spec op = keeps_by spec op.pattern op.kind
