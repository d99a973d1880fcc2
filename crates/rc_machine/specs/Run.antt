-- Where a run of a plan over held stripes stands.
use Rattle.std.specs.Prelude.{◌≡◌, ℕ, true, List, [], ◌∷◌, None, Option, Some}
use Rattle.rc_machine.specs.Imports.{nat_cmp, In, IsRising, Within, Pairs, cols_of, pair_cmp, Call, Reply, Absent, Op, Exclusive, Spec, GivesTuple, all_columns, rows_on, class_at, op_at, AreOfRelation, HeldStripe, Statement, Which, eval, run, AreKnown, Covers, IsQuery, IsUpdate, KeepsFrom, Progress, IsProbing, StripeLock, stripes_of, band, AreIn, HasNamed, AreOfLocked, IsSearching, updating, IsOld}
use Rattle.rc_plan.specs.declared.statement.Which.TheVariants as which
use Rattle.rc_machine.specs.Machine.{AreAsTaken, HasReplied, locks_of, stripes_held}

-- what is known of a locked class: where keyed locks cover a read, the bindings have the columns that choose a stripe, and else all of its stripes are named
abbrev pub IsClassTaken : Spec → Progress → List ℕ → ℕ → Which → Type 0
IsClassTaken spec p stripes c which.Keyed = Covers spec p c which.Keyed → Within (class_at spec c).cols p.columns
IsClassTaken spec p stripes c which.All = (stripe : ℕ) → In stripe (band spec c) → In stripe stripes

-- an insert and an update lock before their first Probe, where their tuple is the one binding, and so on the tuple's stripes; then they search for its projections
pub record IsFromTuple (spec : Spec) (t : Pairs) (p : Progress) (s : Pairs) (bs : List Pairs) (ns : List StripeLock) : Type 0 where
  pub probing : IsProbing t p s bs
  pub named : (x : ℕ × Which) → In x p.locked → HasNamed spec t (stripes_of ns) x.0 x.1

-- the search of a run, over a relation, and the old tuple of an update
pub record IsOn (spec : Spec) (r : List Pairs) (op : Op) (t : Pairs) (p : Progress) (bs : List Pairs) (old : Option Pairs) (ns : List StripeLock) : Type 0 where
  pub sought : Pairs
  pub rising : IsRising pair_cmp sought
  pub inside : Within (cols_of sought) (all_columns spec)
  pub search : IsSearching spec r sought p bs ns
  pub taken : (x : ℕ × Which) → In x p.locked → IsClassTaken spec p (stripes_of ns) x.0 x.1
  pub tuple : GivesTuple op.kind → IsFromTuple spec t p sought bs ns
  pub no_probe : (GivesTuple op.kind → ⊥) → p.probe ≡ None
  -- a query and a remove search for their arguments
  pub given : (GivesTuple op.kind → ⊥) → sought ≡ t
  pub found : IsUpdate op.kind → p.sought ≡ true → (o : Pairs) × (old ≡ Some o) × IsOld r t op.pattern o

-- Before the rest of the plan, with these bindings, this old tuple and held stripes: nothing is changed, stripes were taken rising and are of locked classes; and over each relation of which the held stripes have fragments, evaluation on the fragments of any stripes among which are those held goes on as the rest of the plan from here.
pub record IsAt (spec : Spec) (plan : List Statement) (call : Call) (rest : List Statement) (bs : List Pairs) (old : Option Pairs) (held : List HeldStripe) : Type 0 where
  pub progress : Progress
  pub keeps : KeepsFrom spec (op_at spec call.op) progress rest
  pub known : AreKnown spec rest
  pub unchanged : AreAsTaken held
  pub stripes_rise : IsRising nat_cmp (stripes_held held)
  pub classes : AreOfLocked spec progress (locks_of held)
  pub modes : (IsQuery (op_at spec call.op).kind → ⊥) → AreIn Exclusive (locks_of held)
  pub columns_rise : (b : Pairs) → In b bs → IsRising nat_cmp (cols_of b)
  pub on : (r : List Pairs) → AreOfRelation spec held r → IsOn spec r (op_at spec call.op) call.args progress bs old (locks_of held)
  pub runs : (r : List Pairs) → AreOfRelation spec held r → (stripes : List ℕ) → Within (stripes_held held) stripes
      → eval spec plan call (rows_on spec r stripes) ≡ run spec (op_at spec call.op) call rest (updating old bs (locks_of held) (rows_on spec r stripes))

-- a run goes on with the rest of its plan, or has answered
abbrev pub HasGoneOn : Spec → List Statement → Call → List Statement → List Pairs → Option Pairs → List HeldStripe → Option Reply → Type 0
HasGoneOn spec plan call rest bs old held None = IsAt spec plan call rest bs old held
HasGoneOn spec plan call rest bs old held (Some answer) = HasReplied spec plan call held answer

-- the reply of CheckFound, and the old tuple that it keeps: the least of the bindings
abbrev pub HasKeptLeast : List Pairs → Option Pairs → Option Reply → Type 0
HasKeptLeast [] old reply = reply ≡ Some Absent
HasKeptLeast (b ∷ bs) old reply = (reply ≡ None) × (old ≡ Some b)
