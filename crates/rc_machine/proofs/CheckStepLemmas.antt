-- How a run of an insert or of an update stands after a Probe and after a check, and how a run ends.
use Rattle.std.specs.Prelude.{◌≡◌, ℕ, Bool, true, false, List, [], ◌∷◌, Option, Some, cond}
use Rattle.rc_machine.proofs.Imports.{nat_cmp, In, IsRising, rising_filter, Within, has, Pairs, cols_of, pair_cmp, project, fewer_cols, rising_cols, rising_cols-project, Call, Reply, Conflict, Present, OpKind, Op, Query, Insert, Remove, Update, Spec, IsSealed, Fits, GivesTuple, all_columns, EdgeRow, rows_on, op_at, AreOfRelation, HeldStripe, Statement, CheckAbsent, CheckDep, Probe, Which, IsPlanOf, RunState, eval, run, run_one, some_differs, some_left, probe_searching, IsInsert, IsUpdate, KeepsAll, Progress, after, run-replied, StripeLock, stripes_of, HasEvaluated, HasServed, locks_of, stripes_held, IsAt, IsOn, IsClassTaken, IsSearching, updating, IsOld, fits_at_op, tuple_columns}
use Rattle.std.proofs.Common.{inl, inr, refl, sym, ap, subst, ◌∙◌}
use Rattle.rc_plan.specs.declared.statement.Which.TheVariants as which
use Rattle.rc_machine.proofs.RunLemmas.{has_evaluated, has_served, unchanged_rows}

-- an insert's tuple has all columns, and an update's
pub whole_tuple : (spec : Spec) (call : Call) → Fits spec call → GivesTuple (op_at spec call.op).kind → cols_of call.args ≡ all_columns spec
whole_tuple spec call fits i =
    tuple_columns spec call (op_at spec call.op) (fits_at_op spec call fits) i

module _ (spec : Spec) (sealed : IsSealed spec) (plan : List Statement) (call : Call) (fits : Fits spec call) where
  -- ---- Probe

  module _ (xs : List ℕ) (rest : List Statement) (bs : List Pairs) (old : Option Pairs) (held : List HeldStripe) (at : IsAt spec plan call (Probe xs ∷ rest) bs old held) where
    keeps : KeepsAll spec (op_at spec call.op) at.progress (Probe xs)
    keeps = at.keeps.0

    over : cols_of call.args ≡ all_columns spec
    over = whole_tuple spec call fits keeps.k1.1

    known : Within xs (all_columns spec)
    known = at.known (Probe xs) (inl refl)

    rises : IsRising nat_cmp (cols_of call.args)
    rises = fits.1.tuple.rising

    taken_now : (c : ℕ) (choice : Which) → IsClassTaken spec at.progress (stripes_of (locks_of held)) c choice → IsClassTaken spec (after spec at.progress (Probe xs)) (stripes_of (locks_of held)) c choice
    taken_now c which.Keyed g = λ cover. cover
    taken_now c which.All g = g

    probe_on : (r : List Pairs) → IsOn spec r (op_at spec call.op) call.args at.progress bs old (locks_of held)
        → IsOn spec r (op_at spec call.op) call.args (after spec at.progress (Probe xs)) (project xs call.args ∷ []) old (locks_of held)
    probe_on r o = record {
      sought = project xs call.args;
      rising = rising_filter pair_cmp (λ (q : ℕ × ℕ). has xs q.0) call.args (rising_cols call.args rises);
      inside = λ c m. subst (In c) over (fewer_cols xs call.args c m);
      search = probe_searching spec r call.args rises over at.progress (locks_of held) xs o.search.phase known (o.tuple keeps.k1.1).named;
      taken = λ x m. taken_now x.0 x.1 (o.taken x m);
      tuple = λ i. record { probing = inr (xs, refl, refl); named = (o.tuple i).named };
      no_probe = λ n. absurd (n keeps.k1.1);
      given = λ n. absurd (n keeps.k1.1);
      found = o.found;
    }

    -- the run after a Probe
    -- the columns that are probed are the call's
    pub probe_within : Within xs (cols_of call.args)
    probe_within c m = subst (In c) (sym over) (at.known (Probe xs) (inl refl) c m)

    pub probe_step : IsAt spec plan call rest (project xs call.args ∷ []) old held
    probe_step = record {
      progress = after spec at.progress (Probe xs);
      keeps = at.keeps.1;
      known = λ x m. at.known x (inr m);
      unchanged = at.unchanged;
      stripes_rise = at.stripes_rise;
      classes = at.classes;
      modes = at.modes;
      columns_rise = λ b m. elim m [ inl e ↦ subst (λ z. IsRising nat_cmp (cols_of z)) (sym e) (rising_cols-project xs call.args rises) | inr z ↦ absurd z ];
      on = λ r a. probe_on r (at.on r a);
      runs = at.runs;
    }

  -- ---- checks

  -- what is known of the search doesn't speak of the checks
  check_search : (r : List Pairs) (s : Pairs) (p : Progress) (bs : List Pairs) (ns : List StripeLock) (absent : Bool) (checked : List ℕ) → IsSearching spec r s p bs ns → IsSearching spec r s (record p { sought = absent; checked = checked }) bs ns
  check_search r s p bs ns absent checked f = record { phase = f.phase; within = f.within; reached = f.reached; rising = f.rising; columns = f.columns; nodes = f.nodes; guards = f.guards }

  same_taken : (p : Progress) (ns : List StripeLock) (absent : Bool) (checked : List ℕ) (c : ℕ) (choice : Which) → IsClassTaken spec p (stripes_of ns) c choice → IsClassTaken spec (record p { sought = absent; checked = checked }) (stripes_of ns) c choice
  same_taken p ns absent checked c which.Keyed g = g
  same_taken p ns absent checked c which.All g = g

  pub check_on : (r : List Pairs) (op : Op) (p : Progress) (bs : List Pairs) (old new : Option Pairs) (ns : List StripeLock) (sought : Bool) (checked : List ℕ) → IsOn spec r op call.args p bs old ns
      → (IsUpdate op.kind → sought ≡ true → (o : Pairs) × (new ≡ Some o) × IsOld r call.args op.pattern o) → IsOn spec r op call.args (record p { sought = sought; checked = checked }) bs new ns
  check_on r op p bs old new ns sought checked o found = record {
    sought = o.sought;
    rising = o.rising;
    inside = o.inside;
    search = check_search r o.sought p bs ns sought checked o.search;
    taken = λ x m. same_taken p ns sought checked x.0 x.1 (o.taken x m);
    tuple = λ i. record { probing = (o.tuple i).probing; named = (o.tuple i).named };
    no_probe = o.no_probe;
    given = o.given;
    found = found;
  }

  insert_no_update : (kind : OpKind) → IsInsert kind → IsUpdate kind → ⊥
  insert_no_update (Query outs ranges) i u = u
  insert_no_update Insert i u = u
  insert_no_update Remove i u = u
  insert_no_update Update i u = i

  -- the run after a check for a tuple where no binding is left
  pub absent_step : (rest : List Statement) (bs : List Pairs) (old : Option Pairs) (held : List HeldStripe) → IsAt spec plan call (CheckAbsent ∷ rest) bs old held → some_left bs ≡ false → IsAt spec plan call rest bs old held
  absent_step rest bs old held at e = record {
    progress = after spec at.progress CheckAbsent;
    keeps = at.keeps.1;
    known = λ x m. at.known x (inr m);
    unchanged = at.unchanged;
    stripes_rise = at.stripes_rise;
    classes = at.classes;
    modes = at.modes;
    columns_rise = at.columns_rise;
    on = λ r a. check_on r (op_at spec call.op) at.progress bs old old (locks_of held) true at.progress.checked (at.on r a) (λ u e. absurd (insert_no_update (op_at spec call.op).kind at.keeps.0.k1.1 u));
    runs = λ r a stripes w. at.runs r a stripes w
        ∙ ap (λ b. run spec (op_at spec call.op) call rest (cond b (record { bindings = bs; named = locks_of held; old = old; reply = Some Present; rows = rows_on spec r stripes }) (updating old bs (locks_of held) (rows_on spec r stripes)))) e;
  }

  -- and after the check of a dependency that no binding breaks
  pub dep_step : (dep : ℕ) (rest : List Statement) (bs : List Pairs) (old : Option Pairs) (held : List HeldStripe) → IsAt spec plan call (CheckDep dep ∷ rest) bs old held → some_differs spec (op_at spec call.op) dep call.args bs ≡ false → IsAt spec plan call rest bs old held
  dep_step dep rest bs old held at e = record {
    progress = after spec at.progress (CheckDep dep);
    keeps = at.keeps.1;
    known = λ x m. at.known x (inr m);
    unchanged = at.unchanged;
    stripes_rise = at.stripes_rise;
    classes = at.classes;
    modes = at.modes;
    columns_rise = at.columns_rise;
    on = λ r a. check_on r (op_at spec call.op) at.progress bs old old (locks_of held) at.progress.sought (dep ∷ at.progress.checked) (at.on r a) (at.on r a).found;
    runs = λ r a stripes w. at.runs r a stripes w
        ∙ ap (λ b. run spec (op_at spec call.op) call rest (cond b (record { bindings = bs; named = locks_of held; old = old; reply = Some (Conflict dep); rows = rows_on spec r stripes }) (updating old bs (locks_of held) (rows_on spec r stripes)))) e;
  }

  -- ---- ends

  -- a run whose next statement gives the reply, and may change the rows
  pub evaluated : (x : Statement) (rest : List Statement) (bs : List Pairs) (old : Option Pairs) (held : List HeldStripe) (at : IsAt spec plan call (x ∷ rest) bs old held) (answer : Reply) (change : List EdgeRow → List EdgeRow)
      → ((rows : List EdgeRow) → run_one spec (op_at spec call.op) call (updating old bs (locks_of held) rows) x ≡ record { bindings = bs; named = locks_of held; old = old; reply = Some answer; rows = change rows })
      → (r : List Pairs) → AreOfRelation spec held r
      → eval spec plan call (rows_on spec r (stripes_held held)) ≡ record { bindings = bs; named = locks_of held; old = old; reply = Some answer; rows = change (rows_on spec r (stripes_held held)) }
  evaluated x rest bs old held at answer change f r a =
      at.runs r a (stripes_held held) (λ c m. m) ∙ ap (run spec (op_at spec call.op) call rest) (f (rows_on spec r (stripes_held held)))
      ∙ run-replied spec (op_at spec call.op) call rest bs (locks_of held) old answer (change (rows_on spec r (stripes_held held)))

  module _ (planned : IsPlanOf spec call.op plan) (x : Statement) (rest : List Statement) (bs : List Pairs) (old : Option Pairs) (held : List HeldStripe) (at : IsAt spec plan call (x ∷ rest) bs old held) (answer : Reply)
      (f : (rows : List EdgeRow) → run_one spec (op_at spec call.op) call (updating old bs (locks_of held) rows) x ≡ record { bindings = bs; named = locks_of held; old = old; reply = Some answer; rows = rows }) where
    ends : (r : List Pairs) → AreOfRelation spec held r
        → eval spec plan call (rows_on spec r (stripes_held held)) ≡ record { bindings = bs; named = locks_of held; old = old; reply = Some answer; rows = rows_on spec r (stripes_held held) }
    ends = evaluated x rest bs old held at answer (λ rows. rows) f

    -- a statement that replies and changes nothing ends a run as evaluation does
    pub ends_evaluated : (r : List Pairs) → AreOfRelation spec held r → HasEvaluated spec plan call held answer
    ends_evaluated = has_evaluated spec sealed plan call fits planned held at.stripes_rise answer (λ r a. ap (λ (z : RunState). z.named) (ends r a)) (λ r a. ap (λ (z : RunState). z.reply) (ends r a))
        (λ r a. unchanged_rows spec sealed plan call fits planned held at.unchanged r a (ap (λ (z : RunState). z.named) (ends r a)) (ap (λ (z : RunState). z.rows) (ends r a)))

    pub ends_served : (r : List Pairs) → AreOfRelation spec held r → HasServed spec plan call held answer r
    ends_served = has_served spec sealed plan call fits planned held at.stripes_rise answer (λ r a. ap (λ (z : RunState). z.named) (ends r a)) (λ r a. ap (λ (z : RunState). z.reply) (ends r a))
        (λ r a. unchanged_rows spec sealed plan call fits planned held at.unchanged r a (ap (λ (z : RunState). z.named) (ends r a)) (ap (λ (z : RunState). z.rows) (ends r a)))
