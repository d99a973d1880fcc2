-- What a call takes and answers from the rows of one edge, on the stripe on which its arguments fall.
use Rattle.std.specs.Prelude.{◌≡◌, ℕ, List, [], ◌∷◌, ◌++◌, IfOk, None, Option, Result, Some, drop, filter, map, take, true}
use Rattle.rc_machine.specs.Imports.{list_any, zip, Within, In, Pairs, matches, pick, Call, Reply, Rows, Spec, IsSealed, Fits, all_columns, EdgeRow, class_of, op_at, Outcome, at_most, physical_stripe, IsFoundAt, IsLookedUp, IsScan, edge_table, extra_columns, values_at, EdgeShape, AreOfRelation, HeldStripe, Holding, held_of, IsAccessPath, is_lock_of, is_read_of, IsPlanOf, SpecWithPlans, plan_at, AccessPath, Statement}
use Rattle.rc_machine.specs.Apply.{IsSameButLent}
use Rattle.rc_machine.specs.Machine.{AreTakenAsOffered, HasAnswered, stripes_held}
use Rattle.rc_machine.specs.Run.{IsAt}

-- of each class that one of the statements locks the stripe on which the tuple falls is among these
abbrev pub AreLockedFor : Spec → Pairs → List Statement → List ℕ → Type 0
AreLockedFor spec t first stripes = (class : ℕ) → list_any (is_lock_of class) first ≡ true → In (physical_stripe spec class t) stripes

-- the step over a relation gives the reply and leaves the relation
abbrev pub leaving : Reply → List Pairs → Outcome
leaving reply r = record { reply = reply; relation = r }

-- the row of the extra values and the arguments, or none
abbrev pub row_reply : List ℕ → Pairs → List ℕ → Option (List ℕ) → Reply
row_reply outs args extra None = Rows []
row_reply outs args extra (Some values) = Rows (pick outs (zip extra values ++ args) ∷ [])

-- The row of the edge that has the tuple's values of source and key is found, told by its extra values, or there is none.
abbrev pub IsRowFound : EdgeShape → List EdgeRow → ℕ → Pairs → Option (List ℕ) → Type 0
IsRowFound shape rows e t found = IsLookedUp shape rows e (values_at shape.source t) (values_at shape.key t) found

-- the same, told as the tuple that it is
abbrev pub IsTupleFound : EdgeShape → List EdgeRow → ℕ → Pairs → Option Pairs → Type 0
IsTupleFound shape rows e t found = IsFoundAt shape rows e (values_at shape.source t) (values_at shape.key t) found

-- the reply is the row of the edge that has the arguments' values of source and key, if there is one
abbrev pub HasLookedUp : EdgeShape → List EdgeRow → ℕ → Pairs → List ℕ → Reply → Type 0
HasLookedUp shape rows e args outs reply =
    (found : Option (List ℕ)) × IsRowFound shape rows e args found × (reply ≡ row_reply outs args (extra_columns shape) found)

-- the reply is the rows of the edge that have the arguments' values of the source, if there are so many at most
abbrev pub HasListed : EdgeShape → List EdgeRow → ℕ → Pairs → List ℕ → ℕ → Reply → Type 0
HasListed shape rows e args outs most reply =
    (ts : List Pairs) × IsScan shape rows e (values_at shape.source args) ts × (reply ≡ at_most most (map (pick outs) ts))

-- The run of a call stands behind the first Locks of a path of its plan: no stripe is changed, the call's tuple is the one binding, and this stripe of the class of the path's edge, on which it falls, is held.
pub record HasLockedPath (compiled : SpecWithPlans) (call : Call) (p : AccessPath) (stripe : ℕ) (s : Holding) : Type 0 where
  pub sealed : IsSealed compiled.spec
  pub fits : Fits compiled.spec call
  pub planned : IsPlanOf compiled.spec call.op (plan_at compiled.plans call.op)
  pub path : IsAccessPath compiled.spec (op_at compiled.spec call.op) (plan_at compiled.plans call.op) p
  pub table : s.table ≡ edge_table compiled.spec
  pub taken : AreTakenAsOffered s
  pub run : IsAt compiled.spec (plan_at compiled.plans call.op) call (drop p.locks (plan_at compiled.plans call.op)) (call.args ∷ []) None (held_of s)
  pub falls : stripe ≡ physical_stripe compiled.spec (class_of compiled.spec p.edge) call.args
  pub held : In stripe (stripes_held (held_of s))

-- the tuple is the one that matches the arguments in each relation of which the held stripes have fragments
abbrev pub IsOnlyMatch : Spec → List HeldStripe → Pairs → Pairs → Type 0
IsOnlyMatch spec held args t = (r : List Pairs) → AreOfRelation spec held r → filter (matches args) r ≡ t ∷ []

-- The run of a remove stands before the rest of its plan, with some bindings, behind these late statements: where one of them read the edge, all columns were visited.
pub record IsBehind (spec : Spec) (plan : List Statement) (call : Call) (e : ℕ) (done rest : List Statement) (held : List HeldStripe) : Type 0 where
  pub bindings : List Pairs
  pub run : IsAt spec plan call rest bindings None held
  pub visited : list_any (is_read_of e) done ≡ true → Within (all_columns spec) run.progress.visited

-- it stands behind all late statements of the path
abbrev pub IsBehindLate : SpecWithPlans → Call → AccessPath → Holding → Type 0
IsBehindLate compiled call p s =
    IsBehind compiled.spec (plan_at compiled.plans call.op) call p.edge (take p.late (drop p.locks (plan_at compiled.plans call.op))) (drop p.late (drop p.locks (plan_at compiled.plans call.op))) (held_of s)

-- From there the call is answered, or memory was wanted: stripes are taken as they are offered, and all but what is lent is the same.
pub record HasAnsweredByPath {E : Type 0} (compiled : SpecWithPlans) (call : Call) (old new : Holding) (result : Result Reply E) : Type 0 where
  pub answered : IfOk result (HasAnswered compiled call new)
  pub taken : AreTakenAsOffered new
  pub lent : IsSameButLent old new
