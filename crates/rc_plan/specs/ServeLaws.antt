-- The law of accepted plans, for one call and for several in turn.
use Rattle.std.specs.Prelude.{◌≡◌, ℕ, List, [], ◌∷◌, None, Some, map, length}
use Rattle.rc_plan.specs.Imports.{nat_cmp, In, IsRising, gather, in_gather, rising_gather, slice_get_in, gather-rising, nat_order, Within, in_range_below, rising_range, Pairs, cols_of, rising_cols, IsRelation, Satisfies, Op, OpKind, Query, Insert, Remove, Update, Spec, IsAdequate, all_columns, plain_keeps_relation, all_rows, rows_on, EdgeRow, IsInRange, HasColumnAndNode, IsOpAmong, no_op, op_at, IsPlaced, KeepsO, Outcome, plain, plain_by, plain-known, plain_satisfies, range_column, range_columns, Call}
use Rattle.std.proofs.Common.{inl, inr, refl, sym, ap, subst, ◌∙◌}
use Rattle.std.proofs.lemmas.Bool.{false≢true}
use Rattle.std.proofs.lemmas.Option.{get_or_from_slice_get}
use Rattle.rc_plan.specs.declared.statement.Statement.{Statement}
use Rattle.rc_plan.specs.Evaluation.{begun, run, eval, RunState}
use Rattle.rc_plan.specs.InsertLaws.{insert_op, insert_runs}
use Rattle.rc_plan.specs.Laws.{Serves, AcceptedPlansServe, AllServe, AcceptedPlansServeInTurn}
use Rattle.rc_plan.specs.PlanRules.{at_start, AreKnown, given_columns, KeepsPlanRules}
use Rattle.rc_plan.specs.QueryLaws.{query_op, query_runs}
use Rattle.rc_plan.specs.RemoveLaws.{remove_op, remove_runs}
use Rattle.rc_plan.specs.RunLaws.{EndsAs, search_begins}
use Rattle.rc_plan.specs.StripeLocks.{stripes_of, AreHeld}
use Rattle.rc_plan.specs.StripeLocksLaws.{held_stripes, held_exclusive}
use Rattle.rc_plan.specs.UpdateLaws.{update_op, update_runs}
use Rattle.rc_plan.specs.Turns.{HasAcceptedPlan, eval_replies, rows_after, AllAreHeld, plain_replies}

-- an operation's pattern is among the columns
pattern_known : (spec : Spec) (op : Op) → IsOpAmong (length spec.columns) op → Within (gather nat_cmp op.pattern) (all_columns spec)
pattern_known spec op known c m = in_range_below (length spec.columns) c (known.pattern c (in_gather nat_cmp nat_order c op.pattern m))

module _ (spec : Spec) (range : IsInRange spec) (populated : HasColumnAndNode spec) (ok : IsAdequate spec) (placed : IsPlaced spec) (r : List Pairs) (i : IsRelation (all_columns spec) r) (h : Satisfies r spec.deps) (stripes : List ℕ) where
  -- a run on the rows of the stripes, and one on all rows
  abbrev RunsServe : Op → Call → List Statement → Type 0
  RunsServe op call plan =
      Within (stripes_of (run spec op call plan (begun call (rows_on spec r stripes))).named) stripes
      → EndsAs spec call.args (run spec op call plan (begun call (rows_on spec r stripes))) (run spec op call plan (begun call (all_rows spec r))) r
      (plain_by spec.most_rows op.kind op.pattern spec.deps call.args call.ranges r) stripes

  pub runs_serve : (name pattern : List ℕ) (kind : OpKind) → (let op : Op = record { name = name; pattern = pattern; kind = kind } in
      IsOpAmong (length spec.columns) op → KeepsO spec op → (call : Call) → cols_of call.args ≡ given_columns spec op → map range_column call.ranges ≡ range_columns kind
      → (plan : List Statement) → AreKnown spec plan → KeepsPlanRules spec op plan → RunsServe op call plan)
  runs_serve name pattern (Query outs cols) among o call fits ranged plan known keeps v =
      query_runs spec range ok placed r i h call (rising_cols call.args (subst (IsRising nat_cmp) (sym fits) (rising_gather nat_cmp nat_order pattern))) name pattern outs cols
      (λ c m. pattern_known spec (query_op name pattern outs cols) among c (subst (In c) fits m)) fits ranged ((o.o3 outs cols refl).some) stripes plan
      (at_start spec (query_op name pattern outs cols)) (call.args ∷ []) [] (search_begins spec r call.args (query_op name pattern outs cols) fits) known keeps v
  runs_serve name pattern Remove among o call fits ranged plan known keeps v =
      remove_runs spec range populated ok placed r i h call (rising_cols call.args (subst (IsRising nat_cmp) (sym fits) (rising_gather nat_cmp nat_order pattern))) name pattern
      (λ c m. pattern_known spec (remove_op name pattern) among c (subst (In c) fits m)) stripes plan
      (at_start spec (remove_op name pattern)) (call.args ∷ []) [] (search_begins spec r call.args (remove_op name pattern) fits) refl (λ lock z. absurd z) known keeps v
  runs_serve name pattern Insert among o call fits ranged plan known keeps v =
      insert_runs spec range ok placed r i h call (fits ∙ gather-rising nat_cmp nat_order (all_columns spec) (rising_range 0 (length spec.columns))) name pattern (o.o1 refl) stripes plan
      (at_start spec (insert_op name pattern)) call.args (call.args ∷ []) []
      (record {
        search = search_begins spec r call.args (insert_op name pattern) fits;
        probing = inl (refl, refl, refl);
        locks = λ x z. absurd z;
        exclusive = λ lock z. absurd z;
        absent = λ e. absurd (false≢true e);
        checked = λ dep z. absurd z;
      })
      known keeps v
  runs_serve name pattern Update among o call fits ranged plan known keeps v =
      update_runs spec range ok placed r i h call (fits ∙ gather-rising nat_cmp nat_order (all_columns spec) (rising_range 0 (length spec.columns))) name pattern
      (pattern_known spec (update_op name pattern) among)
      (λ e. subst (In 0) e (in_range_below (length spec.columns) 0 populated.column)) (o.o2 tt) stripes plan
      (at_start spec (update_op name pattern)) call.args (call.args ∷ []) [] None
      (record {
        search = search_begins spec r call.args (update_op name pattern) fits;
        probing = inl (refl, refl, refl);
        locks = λ x z. absurd z;
        exclusive = λ lock z. absurd z;
        found = λ e. absurd (false≢true e);
        checked = λ dep z. absurd z;
      })
      known keeps v

pub plans_law : AcceptedPlansServe
plans_law spec range populated ok placed call op fits o plan known keeps r i h held v =
    let stripes : List ℕ = stripes_of held in
    let is : op_at spec call.op ≡ op = get_or_from_slice_get spec.ops call.op op no_op fits.known in
    let among : IsOpAmong (length spec.columns) op = range.known_ops op (slice_get_in spec.ops call.op op fits.known) in
    let ran : Op → List EdgeRow → RunState = λ x rows. run spec x call plan (begun call rows) in
    let ends : (op' : Op) → op' ≡ op → AreHeld (ran op' (rows_on spec r stripes)).named held
    → EndsAs spec call.args (ran op' (rows_on spec r stripes)) (ran op' (all_rows spec r)) r (plain_by spec.most_rows op.kind op.pattern spec.deps call.args call.ranges r) stripes =
    λ op' e w. subst (λ (x : Op). EndsAs spec call.args (ran x (rows_on spec r stripes)) (ran x (all_rows spec r)) r (plain_by spec.most_rows op.kind op.pattern spec.deps call.args call.ranges r) stripes) (sym e)
    (runs_serve spec range populated ok placed r i h stripes op.name op.pattern op.kind among o call fits.columns fits.ranges plan known keeps
    (held_stripes (ran op (rows_on spec r stripes)).named held
    (subst (λ (x : Op). AreHeld (ran x (rows_on spec r stripes)).named held) e w))) in
    let d : EndsAs spec call.args (eval spec plan call (rows_on spec r stripes)) (eval spec plan call (all_rows spec r)) r (plain spec r call) stripes =
    subst (λ (x : Outcome). EndsAs spec call.args (eval spec plan call (rows_on spec r stripes)) (eval spec plan call (all_rows spec r)) r x stripes) (sym (plain-known spec r call op fits.known)) (ends (op_at spec call.op) is v) in
    record { reply = d.reply; named = d.named; rows = d.rows; taken = d.taken; others = d.others }

-- ---- several calls

pub plans_in_turn_law : AcceptedPlansServeInTurn
plans_in_turn_law spec range populated ok placed [] planned r i h held v = record { replies = refl; rows = refl; relation = i; satisfies = h; others = λ stripe g. refl }
plans_in_turn_law spec range populated ok placed (x ∷ calls) planned r i h held v =
    let p : HasAcceptedPlan spec x = planned x (inl refl) in
    let one : Serves spec x.plan x.call r held = plans_law spec range populated ok placed x.call p.op p.fits p.keeps x.plan p.known p.rules r i h held v.0 in
    let next : List Pairs = (plain spec r x.call).relation in
    let rest : AllServe spec calls next held =
    plans_in_turn_law spec range populated ok placed calls (λ y m. planned y (inr m)) next (plain_keeps_relation spec r x.call (p.op, p.fits) i) (plain_satisfies spec r x.call h) held
    (subst (λ z. AllAreHeld spec calls z held) one.rows v.1) in
    let first : (eval spec x.plan x.call (rows_on spec r (stripes_of held))).reply ≡ Some (plain spec r x.call).reply = one.reply in
    let later : eval_replies spec calls (eval spec x.plan x.call (rows_on spec r (stripes_of held))).rows ≡ plain_replies spec calls next = ap (eval_replies spec calls) one.rows ∙ rest.replies in
    record {
      replies = λ i. first i ∷ later i;
      rows = ap (rows_after spec calls) one.rows ∙ rest.rows;
      relation = rest.relation;
      satisfies = rest.satisfies;
      others = λ stripe g. rest.others stripe g ∙ one.others stripe (λ m. g (held_exclusive (eval spec x.plan x.call (rows_on spec r (stripes_of held))).named held v.0 stripe m));
    }
