-- Calls that are answered by an access path.
use Rattle.std.specs.Prelude.{◌≡◌, ℕ, true, false, List, [], ◌∷◌, ◌++◌, None, Some, length, map}
use Rattle.rc_machine.proofs.Imports.{list_any, nat_cmp, eqb-true, In, gather, append_in_left, append_in_right, gather_in, in_append, in_gather, nat_order, slice_get_in, in_list_any, list_any_in, Within, IsRelation, in_range_below, Pairs, cols_of, Call, Reply, Mode, Edge, OpKind, Query, Insert, Remove, Update, Range, Spec, IsSealed, Fits, FitsAt, all_columns, value_columns, fits_at_op, bound, edge_at, EdgeRow, fragment_of, rows_on, AreBelow, IsOpAmong, class_at, class_of, op_at, Outcome, plain, plain_by, plain-known, range_column, range_columns, physical_stripe, shape_of, FragmentRows, AreOfOneRelation, AreOfRelation, HeldStripe, Holding, IsLent, held_of, Asks, AsksForRow, AsksForRows, AsksQuery, IsAccessPath, is_lock, is_lock_of, named-no_lock, IsPlanOf, SpecWithPlans, eval, given_columns, pattern_columns, updating, AccessPath, ReadMode, Lookup, Scan, Statement, Lock, Which, AreLockedFor, HasListed, HasLockedPath, HasLookedUp, leaving, HasReplied, locks_of, stripes_held, IsAt}
use Rattle.std.proofs.Common.{inl, inr, refl, sym, ap, subst, ◌∙◌}
use Rattle.rc_machine.proofs.AccessLemmas.{key_and_extra_within, listed, looked_up}
use Rattle.rc_machine.proofs.ReadLemmas.{is_held, lent_columns}
use Rattle.rc_machine.proofs.ReadStepLemmas.{good_stripes}
use Rattle.rc_machine.proofs.RunLemmas.{has_evaluated, has_served, serves, stripes_named}

-- ---- one Lock more

pub one_lock_more : (spec : Spec) (t : Pairs) (first : List Statement) (c : ℕ) (choice : Which) (mode : Mode) (stripes more : List ℕ) → AreLockedFor spec t first stripes → In (physical_stripe spec c t) more
    → AreLockedFor spec t (first ++ Lock c choice mode ∷ []) (stripes ++ more)
one_lock_more spec t first c choice mode stripes more are falls k e =
    let x : Statement = Lock c choice mode in
    let q : (y : Statement) × In y (first ++ x ∷ []) × (is_lock_of k y ≡ true) = in_list_any (is_lock_of k) (first ++ x ∷ []) e in
    elim (in_append q.0 first (x ∷ []) q.1) [
      | inl m ↦ append_in_left (physical_stripe spec k t) stripes more (are k (list_any_in (is_lock_of k) first q.0 m q.2))
      | inr (inl is) ↦ append_in_right (physical_stripe spec k t) stripes more
          (subst (λ z. In (physical_stripe spec z t) more) (eqb-true c k (subst (λ y. is_lock_of k y ≡ true) is q.2)) falls)
      | inr (inr z) ↦ absurd z
    ]

-- ---- queries

no_ranges : (ranges : List Range) → map range_column ranges ≡ [] → ranges ≡ []
no_ranges [] e = refl
no_ranges (range ∷ ranges) e = absurd (none e)
  where
    none : map range_column (range ∷ ranges) ≡ [] → ⊥
    none e = cc

abbrev outs_of : OpKind → List ℕ
outs_of (Query outs ranges) = outs
outs_of Insert = []
outs_of Remove = []
outs_of Update = []

-- a call's tuple has the pattern's columns
pattern_given : (spec : Spec) (pattern : List ℕ) (kind : OpKind) → AreBelow (length spec.columns) pattern → Within (gather nat_cmp pattern) (gather nat_cmp (value_columns spec pattern kind))
pattern_given spec pattern (Query outs ranges) below c m = m
pattern_given spec pattern Insert below c m = gather_in nat_cmp nat_order c (all_columns spec) (in_range_below (length spec.columns) c (below c (in_gather nat_cmp nat_order c pattern m)))
pattern_given spec pattern Remove below c m = m
pattern_given spec pattern Update below c m = gather_in nat_cmp nat_order c (all_columns spec) (in_range_below (length spec.columns) c (below c (in_gather nat_cmp nat_order c pattern m)))

module _ (spec : Spec) (sealed : IsSealed spec) (call : Call) (fits : Fits spec call) where
  at : FitsAt spec call (op_at spec call.op)
  at = fits_at_op spec call fits

  pub args_are : cols_of call.args ≡ given_columns spec (op_at spec call.op)
  args_are = at.columns

  pub pattern_in_args : Within (pattern_columns (op_at spec call.op)) (cols_of call.args)
  pattern_in_args c m =
      let among : IsOpAmong (length spec.columns) (op_at spec call.op) = sealed.in_range.known_ops (op_at spec call.op) (slice_get_in spec.ops call.op (op_at spec call.op) at.known) in
      subst (In c) (sym at.columns) (pattern_given spec (op_at spec call.op).pattern (op_at spec call.op).kind among.pattern c m)

module _ (spec : Spec) (sealed : IsSealed spec) (call : Call) (fits : Fits spec call) (plan : List Statement) (p : AccessPath) (path : IsAccessPath spec (op_at spec call.op) plan p) where
  pub args_striped : Within (class_at spec (class_of spec p.edge)).cols (cols_of call.args)
  args_striped c m = pattern_in_args spec sealed call fits c (path.locks.striped c m)

  -- ---- a query

  module _ (outs ranges : List ℕ) (kind : (op_at spec call.op).kind ≡ Query outs ranges) where
    asks : AsksQuery p.mode spec (op_at spec call.op) (edge_at spec p.edge)
    asks = subst (λ k. Asks k p.mode spec (op_at spec call.op) plan (edge_at spec p.edge)) kind path.asks

    abbrev query_of : (mode : ReadMode) (e : Edge) → AsksQuery mode spec (op_at spec call.op) e → (outs : List ℕ) × ((op_at spec call.op).kind ≡ Query outs [])
    query_of Lookup e asks = (asks.outs, asks.query)
    query_of Scan e asks = (_, asks.query)

    abbrev query : (outs : List ℕ) × ((op_at spec call.op).kind ≡ Query outs [])
    query = query_of p.mode (edge_at spec p.edge) asks

    args_given : cols_of call.args ≡ pattern_columns (op_at spec call.op)
    args_given = args_are spec sealed call fits ∙ ap (λ k. gather nat_cmp (value_columns spec (op_at spec call.op).pattern k)) kind

    none : call.ranges ≡ []
    none = no_ranges call.ranges ((at spec sealed call fits).ranges ∙ ap range_columns query.1)

    plain_is : (r : List Pairs) → plain spec r call ≡ plain_by spec.most_rows (Query query.0 []) (op_at spec call.op).pattern spec.deps call.args call.ranges r
    plain_is r =
        plain-known spec r call (op_at spec call.op) (at spec sealed call fits).known
        ∙ ap (λ k. plain_by spec.most_rows k (op_at spec call.op).pattern spec.deps call.args call.ranges r) query.1

    outs_are : outs ≡ query.0
    outs_are = ap outs_of (sym kind ∙ query.1)

    module _ (rows : List EdgeRow) (r : List Pairs) (i : IsRelation (all_columns spec) r) (rows_are : rows ≡ fragment_of spec r (physical_stripe spec (class_of spec p.edge) call.args)) where
      -- what the look-up found is the plain reply
      pub row_served : (reply : Reply) → p.mode ≡ Lookup → HasLookedUp (shape_of spec p.edge) rows p.edge call.args outs reply → plain spec r call ≡ leaving reply r
      row_served reply mode found =
          let row : AsksForRow spec (op_at spec call.op) (edge_at spec p.edge) = subst (λ m. AsksQuery m spec (op_at spec call.op) (edge_at spec p.edge)) mode asks in
          let same : query.0 ≡ row.outs = ap outs_of (sym query.1 ∙ row.query) in
          plain_is r
          ∙ ap (λ z. leaving z r)
          (looked_up spec sealed p.edge path.locks.edge call.args (at spec sealed call fits).tuple (args_striped) r i rows rows_are call.ranges none query.0
          (subst (λ z. Within z (shape_of spec p.edge).target) (sym same) row.within) spec.most_rows (args_given ∙ row.given) row.told reply
          (subst (λ z. HasLookedUp (shape_of spec p.edge) rows p.edge call.args z reply) outs_are found))

      -- and so is what the scan listed
      pub rows_served : (reply : Reply) → p.mode ≡ Scan → HasListed (shape_of spec p.edge) rows p.edge call.args outs spec.most_rows reply → plain spec r call ≡ leaving reply r
      rows_served reply mode found =
          let listing : AsksForRows spec (op_at spec call.op) (edge_at spec p.edge) = subst (λ m. AsksQuery m spec (op_at spec call.op) (edge_at spec p.edge)) mode asks in
          let same = ap outs_of (sym query.1 ∙ listing.query) in
          plain_is r
          ∙ ap (λ z. leaving z r)
          (listed spec sealed p.edge path.locks.edge call.args (at spec sealed call fits).tuple (args_striped) r i rows rows_are call.ranges none query.0
          (subst (λ z. Within z (shape_of spec p.edge).target) (sym same) (key_and_extra_within spec sealed p.edge path.locks.edge)) spec.most_rows (args_given ∙ listing.given) same reply
          (subst (λ z. HasListed (shape_of spec p.edge) rows p.edge call.args z spec.most_rows reply) outs_are found))

-- ---- the rows that are lent of the path's stripe

module _ (compiled : SpecWithPlans) (call : Call) (p : AccessPath) (stripe : ℕ) (s : Holding) (locked : HasLockedPath compiled call p stripe s) (fragment : FragmentRows) (lent : IsLent s stripe fragment) where
  -- they are those of each relation of which the held stripes have fragments
  pub lent_rows : (r : List Pairs) → AreOfRelation compiled.spec (held_of s) r → fragment.now ≡ fragment_of compiled.spec r (physical_stripe compiled.spec (class_of compiled.spec p.edge) call.args)
  lent_rows r a =
      let q = is_held (held_of s) stripe locked.held in
      lent.now q.0 q.1 q.2 ∙ locked.run.unchanged q.0 q.1 ∙ a.rows q.0 q.1 ∙ ap (fragment_of compiled.spec r) (q.2 ∙ locked.falls)

  -- and have their edges' columns
  pub lent_over : AreOfOneRelation compiled.spec (held_of s) → (w : EdgeRow) → In w fragment.now → cols_of w.1 ≡ bound compiled.spec (edge_at compiled.spec w.0).to
  lent_over one = lent_columns s stripe fragment locked.held lent compiled.spec (good_stripes compiled.spec locked.sealed (held_of s) locked.run.unchanged one.0 one.1)

-- ---- the end of a run that leaves the relation

module _ (spec : Spec) (sealed : IsSealed spec) (call : Call) (fits : Fits spec call) (plan : List Statement) (planned : IsPlanOf spec call.op plan) (rest : List Statement) (others : list_any is_lock rest ≡ false) (held : List HeldStripe)
    (begun : IsAt spec plan call rest (call.args ∷ []) None held) (one : AreOfOneRelation spec held) (answer : Reply) (served : (r : List Pairs) → AreOfRelation spec held r → plain spec r call ≡ leaving answer r) where
  named : (r : List Pairs) → AreOfRelation spec held r → (eval spec plan call (rows_on spec r (stripes_held held))).named ≡ locks_of held
  named r a =
      ap (λ z. z.named) (begun.runs r a (stripes_held held) (λ n k. k))
      ∙ named-no_lock spec (op_at spec call.op) call rest (updating None (call.args ∷ []) (locks_of held) (rows_on spec r (stripes_held held))) others

  replied : (r : List Pairs) → AreOfRelation spec held r → (eval spec plan call (rows_on spec r (stripes_held held))).reply ≡ Some answer
  replied r a =
      ap (λ z. (eval spec plan call (rows_on spec r z)).reply) (sym (stripes_named held)) ∙ (serves spec sealed plan call fits planned r held a (named r a)).reply ∙ ap (λ (o : Outcome). Some o.reply) (served r a)

  rows_after : (r : List Pairs) → AreOfRelation spec held r → (h : HeldStripe) → In h held → h.now ≡ fragment_of spec (plain spec r call).relation h.stripe
  rows_after r a h m = begun.unchanged h m ∙ a.rows h m ∙ ap (λ (o : Outcome). fragment_of spec o.relation h.stripe) (sym (served r a))

  -- the call is replied to as its plan does
  pub path_replies : HasReplied spec plan call held answer
  path_replies = record {
    evaluated = has_evaluated spec sealed plan call fits planned held begun.stripes_rise answer named replied rows_after one.0 one.1;
    served = has_served spec sealed plan call fits planned held begun.stripes_rise answer named replied rows_after;
  }
