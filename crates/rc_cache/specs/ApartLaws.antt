-- Proofs that what a plan is asked depends on its own operation, and on the specification without its operations.
use Rattle.std.specs.Prelude.{◌≡◌, ℕ, zero, suc, ◌++◌, List, [], ◌∷◌, reverse}
use Rattle.std.specs.List.{flat_map}
use Rattle.std.specs.Ordering.{nat_cmp, ordering_then}
use Rattle.std.specs.Cmp.Lexicographic.{slice_cmp}
use Rattle.std.proofs.Common.{refl, sym, ap, subst, ◌∙◌, inl, inr}
use Rattle.rc_tuple.specs.RisingSet.{gather}
use Rattle.rc_tuple.specs.ColSet.{Within, union}
use Rattle.rc_spec.specs.declared.items.Op.{Op}
use Rattle.rc_spec.specs.declared.items.OpKind.{OpKind}
use Rattle.rc_spec.specs.declared.items.OpKind.TheVariants.{Query, Insert, Remove, Update}
use Rattle.rc_spec.specs.declared.lock.Mode.{Mode}
use Rattle.rc_spec.specs.declared.lock.Mode.TheVariants.{Shared, Exclusive}
use Rattle.rc_spec.specs.declared.spec.Spec.{Spec}
use Rattle.rc_spec.specs.Calls.{all_columns, value_columns}
use Rattle.rc_spec.specs.Decomposition.{bound, edge_at, target_columns}
use Rattle.rc_spec.specs.Placement.{class_of}
use Rattle.rc_plan.specs.declared.statement.Statement.{Statement}
use Rattle.rc_plan.specs.declared.statement.Statement.TheVariants.{Lock, Probe, Read, CheckAbsent, CheckFound, CheckDep, Apply, Emit, Commit, Release}
use Rattle.rc_plan.specs.declared.statement.Which.{Which}
use Rattle.rc_plan.specs.declared.statement.Which.TheVariants as which
use Rattle.rc_plan.specs.PlanRules.{AreKnown, ChecksAreDone, Covers, CoversOld, FindsTuples, IsKnown, KeepsAll, KeepsFrom, KeepsK3, KeepsK4, KeepsK5, KeepsK6, KeepsK7, KeepsPlanRules, Progress, after, at_start, pattern_columns}
use Rattle.rc_route.specs.GoodRoutes.{IsGoodFrom, IsGoodRoute, all_edges}
use Rattle.rc_route.specs.Paths.{IsChosenRoute, IsLeastPath, IsPath, IsPathFor, Least, Pruned, cost, end_of, path_cmp}
use Rattle.rc_route.specs.PrunedWalk.{ArePasses, IsLeftFrom, onto}
use Rattle.rc_query.specs.declared.probe.PlannedProbe.{PlannedProbe}
use Rattle.rc_cache.specs.Apart.{IsPlannedFor, PlansAreApart}
use Rattle.rc_query.specs.Planned.{IsPlanned, Routing, asked_columns, classes_of_edges, due, ending, insert_probes, later, left_after, locks, locks_and_reads, plan_for, probe_statements, read_mode_where, update_probes, update_which, which_under, which_where, written_classes}

-- ---- passes by a test that is met alike

left_to : (Good Other : List ℕ → Type 0) → ((route : List ℕ) → Good route → Other route) → ((route : List ℕ) → Other route → Good route)
    → (before kept left : List ℕ) → IsLeftFrom Good before kept left → IsLeftFrom Other before kept left
left_to Good Other to back [] kept left k = k
left_to Good Other to back (e ∷ before) kept left (inl k) = inl (to (onto before kept) k.0, left_to Good Other to back before kept left k.1)
left_to Good Other to back (e ∷ before) kept left (inr k) = inr ((λ g. k.0 (back (onto before kept) g)), left_to Good Other to back before (e ∷ kept) left k.1)

pass_to : (Good Other : List ℕ → Type 0) → ((route : List ℕ) → Good route → Other route) → ((route : List ℕ) → Other route → Good route)
    → (before kept left : List ℕ) → IsLeftFrom Good before kept left → IsLeftFrom Other before kept left
pass_to = left_to

passes_to : (Good Other : List ℕ → Type 0) → ((route : List ℕ) → Good route → Other route) → ((route : List ℕ) → Other route → Good route)
    → (n : ℕ) (es left : List ℕ) → ArePasses Good n es left → ArePasses Other n es left
passes_to Good Other to back zero es left k = k
passes_to Good Other to back (suc n) es left k = (k.0, left_to Good Other to back (onto es []) [] k.0 k.1, passes_to Good Other to back n k.0 left k.2)

module _ (spec : Spec) (ops : List Op) (name : List ℕ) where
  -- the specification with other operations
  abbrev other : Spec
  other = record spec { ops = ops }

  -- the operation under another name
  abbrev renamed : Op → Op
  renamed op = record op { name = name }

  -- ---- K1 to K7

  covers : (p : Progress) (c : ℕ) (choice : Which) → Covers spec p c choice → Covers other p c choice
  covers p c which.Keyed k = k
  covers p c which.All k = k

  k3 : (p : Progress) (x : Statement) → KeepsK3 spec p x → KeepsK3 other p x
  k3 p (Lock c which.Keyed mode) k = k
  k3 p (Lock c which.All mode) k = k
  k3 p (Probe cols) k = k
  k3 p (Read e mode) k = (k.0, k.1, covers p (class_of spec e) k.0 k.2)
  k3 p CheckAbsent k = k
  k3 p CheckFound k = k
  k3 p (CheckDep dep) k = k
  k3 p Apply k = k
  k3 p Emit k = k
  k3 p Commit k = k
  k3 p (Release c) k = k

  finds : (kind : OpKind) (visited : List ℕ) → FindsTuples spec kind visited → FindsTuples other kind visited
  finds (Query outs ranges) visited k = k
  finds Insert visited k = k
  finds Remove visited k = k
  finds Update visited k = k

  k6 : (op : Op) (p : Progress) (x : Statement) → KeepsK6 spec op p x → KeepsK6 other (renamed op) p x
  k6 op p (Lock c choice mode) k = k
  k6 op p (Probe cols) k = k
  k6 op p (Read e mode) k = k
  k6 op p CheckAbsent k = k
  k6 op p CheckFound k = k
  k6 op p (CheckDep dep) k = k
  k6 op p Apply k = finds op.kind p.visited k
  k6 op p Emit k = k
  k6 op p Commit k = k
  k6 op p (Release c) k = k

  done : (op : Op) (kind : OpKind) (p : Progress) → ChecksAreDone spec op kind p → ChecksAreDone other (renamed op) kind p
  done op (Query outs ranges) p k = k
  done op Insert p k = k
  done op Remove p k = k
  done op Update p k = k

  k7 : (op : Op) (p : Progress) (x : Statement) → KeepsK7 spec op p x → KeepsK7 other (renamed op) p x
  k7 op p (Lock c choice mode) k = k
  k7 op p (Probe cols) k = k
  k7 op p (Read e mode) k = k
  k7 op p CheckAbsent k = k
  k7 op p CheckFound k = k
  k7 op p (CheckDep dep) k = k
  k7 op p Apply k = done op op.kind p k
  k7 op p Emit k = k
  k7 op p Commit k = k
  k7 op p (Release c) k = k

  covers_old : (op : Op) (kind : OpKind) (p : Progress) → CoversOld spec op kind p → CoversOld other (renamed op) kind p
  covers_old op (Query outs ranges) p k = k
  covers_old op Insert p k = k
  covers_old op Remove p k = k
  covers_old op Update p k = k

  keeps_all : (op : Op) (p : Progress) (x : Statement) → KeepsAll spec op p x → KeepsAll other (renamed op) p x
  keeps_all op p x k = record { k1 = k.k1; k2 = k.k2; k3 = k3 p x k.k3; k4 = k4 x k.k4; k5 = k5 x k.k5; k6 = k6 op p x k.k6; k7 = k7 op p x k.k7 }
    where
      k4 : (x : Statement) → KeepsK4 spec op p x → KeepsK4 other (renamed op) p x
      k4 (Lock c choice mode) k = k
      k4 (Probe cols) k = k
      k4 (Read e mode) k = k
      k4 CheckAbsent k = k
      k4 CheckFound k = k
      k4 (CheckDep dep) k = k
      k4 Apply k = (k.0, covers_old op op.kind p k.1)
      k4 Emit k = k
      k4 Commit k = k
      k4 (Release c) k = k

      k5 : (x : Statement) → KeepsK5 spec p x → KeepsK5 other p x
      k5 (Lock c choice mode) k = k
      k5 (Probe cols) k = k
      k5 (Read e mode) k = k
      k5 CheckAbsent k = k
      k5 CheckFound k = k
      k5 (CheckDep dep) k = k
      k5 Apply k = k
      k5 Emit k = k
      k5 Commit k = k
      k5 (Release c) k = k

  after_same : (p : Progress) (x : Statement) → after other p x ≡ after spec p x
  after_same p (Lock c choice mode) = refl
  after_same p (Probe cols) = refl
  after_same p (Read e mode) = refl
  after_same p CheckAbsent = refl
  after_same p CheckFound = refl
  after_same p (CheckDep dep) = refl
  after_same p Apply = refl
  after_same p Emit = refl
  after_same p Commit = refl
  after_same p (Release c) = refl

  keeps_from : (op : Op) (p : Progress) (plan : List Statement) → KeepsFrom spec op p plan → KeepsFrom other (renamed op) p plan
  keeps_from op p [] k = k
  keeps_from op p (x ∷ plan) k = (keeps_all op p x k.0, subst (λ (q : Progress). KeepsFrom other (renamed op) q plan) (sym (after_same p x)) (keeps_from op (after spec p x) plan k.1))

  values_same : (pattern : List ℕ) (kind : OpKind) → value_columns other pattern kind ≡ value_columns spec pattern kind
  values_same pattern (Query outs ranges) = refl
  values_same pattern Insert = refl
  values_same pattern Remove = refl
  values_same pattern Update = refl

  start_same : (op : Op) → at_start other (renamed op) ≡ at_start spec op
  start_same op = ap (λ (cols : List ℕ). let p : Progress = record (at_start spec op) { columns = gather nat_cmp cols } in p) (values_same op.pattern op.kind)

  pub rules_apart : (op : Op) (plan : List Statement) → KeepsPlanRules spec op plan → KeepsPlanRules other (renamed op) plan
  rules_apart op plan k = subst (λ (p : Progress). KeepsFrom other (renamed op) p plan) (sym (start_same op)) (keeps_from op (at_start spec op) plan k)

  known : (x : Statement) → IsKnown spec x → IsKnown other x
  known (Lock c choice mode) k = k
  known (Probe cols) k = k
  known (Read e mode) k = k
  known CheckAbsent k = k
  known CheckFound k = k
  known (CheckDep dep) k = k
  known Apply k = k
  known Emit k = k
  known Commit k = k
  known (Release c) k = k

  pub known_apart : (plan : List Statement) → AreKnown spec plan → AreKnown other plan
  known_apart plan k x m = known x (k x m)

  -- ---- routes

  good_same : (need reached visited es : List ℕ) → IsGoodFrom spec need reached visited es → IsGoodFrom other need reached visited es
  good_same need reached visited [] g = g
  good_same need reached visited (e ∷ es) g = (
    record { known = g.0.known; source = g.0.source; lossless = g.0.lossless },
    good_same need ((edge_at spec e).to ∷ reached) (union visited (target_columns spec e)) es g.1,
  )

  good_back : (need reached visited es : List ℕ) → IsGoodFrom other need reached visited es → IsGoodFrom spec need reached visited es
  good_back need reached visited [] g = g
  good_back need reached visited (e ∷ es) g = (
    record { known = g.0.known; source = g.0.source; lossless = g.0.lossless },
    good_back need ((edge_at spec e).to ∷ reached) (union visited (target_columns spec e)) es g.1,
  )

  path_to : (u v : ℕ) (es : List ℕ) → IsPath spec u v es → IsPath other u v es
  path_to u v [] k = k
  path_to u v (e ∷ es) k = (k.0, k.1, path_to (edge_at spec e).to v es k.2)

  path_back : (u v : ℕ) (es : List ℕ) → IsPath other u v es → IsPath spec u v es
  path_back u v [] k = k
  path_back u v (e ∷ es) k = (k.0, k.1, path_back (edge_at spec e).to v es k.2)

  end_same : (u : ℕ) (es : List ℕ) → end_of other u es ≡ end_of spec u es
  end_same u [] = refl
  end_same u (e ∷ es) = end_same (edge_at spec e).to es

  path_for : (need path : List ℕ) → IsPathFor spec need path → IsPathFor other need path
  path_for need path k = record {
    from_root = subst (λ v. IsPath other 0 v path) (sym (end_same 0 path)) (path_to 0 (end_of spec 0 path) path k.from_root);
    binds = subst (λ v. Within need (bound spec v)) (sym (end_same 0 path)) k.binds;
  }

  path_for_back : (need path : List ℕ) → IsPathFor other need path → IsPathFor spec need path
  path_for_back need path k = record {
    from_root = subst (λ v. IsPath spec 0 v path) (end_same 0 path) (path_back 0 (end_of other 0 path) path k.from_root);
    binds = subst (λ v. Within need (bound spec v)) (end_same 0 path) k.binds;
  }

  cmp_same : (pattern p q : List ℕ) → path_cmp other pattern p q ≡ path_cmp spec pattern p q
  cmp_same pattern p q = λ i.
      ordering_then (nat_cmp (cost spec pattern p) (cost spec pattern q))
      (ordering_then (nat_cmp (end_same 0 p i) (end_same 0 q i)) (slice_cmp nat_cmp (reverse p) (reverse q)))

  least_to : (pattern need path : List ℕ) → IsLeastPath spec pattern need path → IsLeastPath other pattern need path
  least_to pattern need path k = record {
    path_for = path_for need path k.path_for;
    least = λ q f. elim (k.least q (path_for_back need q f)) [ inl e ↦ inl e | inr less ↦ inr (cmp_same pattern path q ∙ less) ];
  }

  route_to : (pattern need route : List ℕ) → IsChosenRoute spec pattern need route → IsChosenRoute other pattern need route
  route_to pattern need route (Least k) = Least (least_to pattern need route k)
  route_to pattern need route (Pruned none walk) = Pruned none (record {
    passes = (walk.passes.0, passes_to (IsGoodRoute spec need) (IsGoodRoute other need) (good_same need [] []) (good_back need [] []) walk.passes.0 (all_edges spec) route walk.passes.1);
    last = pass_to (IsGoodRoute spec need) (IsGoodRoute other need) (good_same need [] []) (good_back need [] []) (onto route []) [] route walk.last;
  })

  -- ---- plans

  reads_same : (mode : Mode) (columns left es : List ℕ) → locks_and_reads other mode columns left es ≡ locks_and_reads spec mode columns left es
  reads_same mode columns left [] = refl
  reads_same mode columns left (e ∷ es) =
      ap (λ (rest : List Statement). locks mode (which_where spec columns) (due spec e left) ++ Read e (read_mode_where spec columns e) ∷ rest)
      (reads_same mode (union columns (target_columns spec e)) (later spec e left) es)

  left_same : (left es : List ℕ) → left_after other left es ≡ left_after spec left es
  left_same left [] = refl
  left_same left (e ∷ es) = left_same (later spec e left) es

  probe_same : (probe : PlannedProbe) → probe_statements other probe ≡ probe_statements spec probe
  probe_same probe = ap (λ (reads : List Statement). Probe probe.columns ∷ reads ++ probe.check ∷ []) (reads_same Exclusive probe.columns [] probe.route)

  probes_same : (probes : List PlannedProbe) → flat_map (probe_statements other) probes ≡ flat_map (probe_statements spec) probes
  probes_same [] = refl
  probes_same (probe ∷ probes) = λ i. probe_same probe i ++ probes_same probes i

  plan_same : (route : Routing) (pattern : List ℕ) (kind : OpKind) → plan_for other route pattern kind ≡ plan_for spec route pattern kind
  plan_same route pattern (Query outs ranges) =
      let found : List ℕ = route pattern (union pattern (asked_columns ranges outs)) in
      ap (λ (reads : List Statement). reads ++ ending Emit (classes_of_edges spec found)) (reads_same Shared pattern (classes_of_edges spec found) found)
  plan_same route pattern Insert =
      let probes : List PlannedProbe = insert_probes spec route pattern in
      ap (λ (z : List Statement). locks Exclusive (which_under spec probes) (written_classes spec) ++ (z ++ ending Apply (written_classes spec))) (probes_same probes)
  plan_same route pattern Remove =
      let found : List ℕ = route pattern (all_columns spec) in
      λ i. reads_same Exclusive pattern (written_classes spec) found i
      ++ (locks Exclusive (λ c. which.Keyed) (left_same (written_classes spec) found i) ++ ending Apply (written_classes spec))
  plan_same route pattern Update =
      let probes : List PlannedProbe = update_probes spec route pattern in
      ap (λ (z : List Statement). locks Exclusive (update_which spec pattern probes) (written_classes spec) ++ (z ++ ending Apply (written_classes spec))) (probes_same probes)

  pub planned_apart : (op : Op) (plan : List Statement) → IsPlanned spec op plan → IsPlanned other (renamed op) plan
  planned_apart op plan k = record {
    route = k.route;
    chosen = λ pattern need. route_to pattern need (k.route pattern need) (k.chosen pattern need);
    value = k.value ∙ sym (plan_same k.route (pattern_columns op) op.kind);
  }

planned_for : (spec : Spec) (ops : List Op) (name : List ℕ) (op : Op) (plan : List Statement) → IsPlannedFor spec op plan
    → IsPlannedFor (record spec { ops = ops }) (record op { name = name }) plan
planned_for spec ops name op plan k = record {
  planned = planned_apart spec ops name op plan k.planned;
  accepted = record { known = known_apart spec ops name plan k.accepted.known; rules = rules_apart spec ops name op plan k.accepted.rules };
}

pub plans_are_apart : PlansAreApart
plans_are_apart spec ops op other plan same k =
    subst (λ (z : Op). IsPlannedFor (record spec { ops = ops }) z plan)
    (λ i. let z : Op = record { name = other.name; pattern = same.pattern i; kind = same.kind i } in z)
    (planned_for spec ops other.name op plan k)
