-- Laws of the plans of updates: over any good routes they are accepted.
use Rattle.std.specs.Prelude.{◌≡◌, ℕ, ◌<◌, ◌≤◌, Bool, true, false, List, [], ◌∷◌, ◌++◌, Option, None, Some, map, length, if◌then◌else◌}
use Rattle.rc_query.specs.Imports.{flat_map, nat_cmp, In, gather, nat_order, in_gather, gather_in, map_in, in_map, Within, is_within, union, within_from_test, union_left, union_right, union_within, Op, Update, Exclusive, Spec, IsAdequate, all_columns, IsInRange, IsDepAmong, class_at, class_of, IsPlaced, Statement, Apply, Which, dep_at, IsKeyBound, at_start, all_edges, IsGoodRoute, good_known}
use Rattle.std.proofs.Common.{inl, inr, refl, sym, subst}
use Rattle.std.proofs.lemmas.List.{append_assoc}
use Rattle.rc_plan.specs.declared.statement.Which.TheVariants as which
use Rattle.rc_query.specs.declared.probe.PlannedProbe.{PlannedProbe}
use Rattle.rc_query.specs.Laws.{GivesGoodRoutes}
use Rattle.rc_query.specs.InsertPlanLaws.{CoverReads, probe_reads_fit, dep_known, set_known, Checks, checks_step, in_checked, checked_in, no_checks, keyed_covers, all_bound}
use Rattle.rc_query.specs.Planned.{written_classes, locks_and_reads, ending, Routing, found_probe, update_dependency_probe, checked_deps, update_probes, which_under, update_which, probe_statements, update_plan}
use Rattle.rc_query.specs.ProgressLaws.{AreAcceptedFrom, searching, with_locks, with_locks_new, in_with_locks, locks_fit, ending_fits, edge_in, in_edge, class_in, classes_known, rising_classes, class_columns_known}

abbrev updating : List ℕ → List ℕ → Op
updating name pattern = record { name = name; pattern = pattern; kind = Update }

-- a Probe and its Reads, where the check behind them fits
probe_fits : (spec : Spec) (name pattern need columns visited reached : List ℕ) (ls : List (ℕ × Which)) (last : Option (List ℕ)) (absent : Bool) (checked : List ℕ) (probe : PlannedProbe)
    → Within probe.columns (all_columns spec) → CoverReads spec ls probe.columns probe.route → IsGoodRoute spec need probe.route → (rest : List Statement)
    → ((columns visited reached : List ℕ) → Within need visited → AreAcceptedFrom spec (updating name pattern) (searching columns visited reached ls (Some probe.columns) absent checked) (probe.check ∷ rest))
    → AreAcceptedFrom spec (updating name pattern) (searching columns visited reached ls last absent checked) (probe_statements spec probe ++ rest)
probe_fits spec name pattern need columns visited reached ls last absent checked probe n v g rest f = (
  record { known = n; k1 = (refl, tt); k2 = tt; k3 = tt; k4 = tt; k5 = tt; k6 = tt; k7 = tt },
  subst (AreAcceptedFrom spec (updating name pattern) (searching probe.columns [] [] ls (Some probe.columns) absent checked)) (sym (append_assoc (locks_and_reads spec Exclusive probe.columns [] probe.route) (probe.check ∷ []) rest))
      (probe_reads_fit spec (updating name pattern) need probe.columns probe.route probe.columns [] [] ls absent checked v g (probe.check ∷ rest) f),
)

-- ---- checks of dependencies

deps_fit : (spec : Spec) → IsInRange spec → (route : Routing) → GivesGoodRoutes spec route → (name pattern : List ℕ) → Within (gather nat_cmp pattern) (all_columns spec) → (ls : List (ℕ × Which)) (all : List ℕ) (rest : List Statement)
    → ((columns visited reached checked xs : List ℕ) → Within all checked → AreAcceptedFrom spec (updating name pattern) (searching columns visited reached ls (Some xs) true checked) rest)
    → (left columns visited reached checked last : List ℕ) → Checks spec all left checked
    → ((d : ℕ) → In d left → CoverReads spec ls (update_dependency_probe spec route (gather nat_cmp pattern) d).columns (update_dependency_probe spec route (gather nat_cmp pattern) d).route)
    → AreAcceptedFrom spec (updating name pattern) (searching columns visited reached ls (Some last) true checked) (flat_map (probe_statements spec) (map (update_dependency_probe spec route (gather nat_cmp pattern)) left) ++ rest)
deps_fit spec i route good name pattern wp ls all rest f [] columns visited reached checked last k v =
    f columns visited reached checked last (λ j h. elim (k.each j h) [ inl m ↦ m | inr m ↦ absurd m ])
deps_fit spec i route good name pattern wp ls all rest f (d ∷ left) columns visited reached checked last k v =
    let number : (0 < d) × (d ≤ length spec.deps) = k.known d (inl refl) in
    let known : IsDepAmong (length spec.columns) (dep_at spec d) = dep_known spec i d number.0 number.1 in
    let xs : List ℕ = (dep_at spec d).left in
    let ys : List ℕ = (dep_at spec d).right in
    let inside : Within xs (all_columns spec) = set_known spec xs known.left in
    let zs : List ℕ = gather nat_cmp pattern in
    let need : List ℕ = union (union xs ys) zs in
    let more : List Statement = flat_map (probe_statements spec) (map (update_dependency_probe spec route (gather nat_cmp pattern)) left) in
    subst (AreAcceptedFrom spec (updating name pattern) (searching columns visited reached ls (Some last) true checked)) (sym (append_assoc (probe_statements spec (update_dependency_probe spec route (gather nat_cmp pattern) d)) more rest))
    (probe_fits spec name pattern need columns visited reached ls (Some last) true checked (update_dependency_probe spec route (gather nat_cmp pattern) d) inside (v d (inl refl))
    (good xs need (union_within (union xs ys) zs (all_columns spec) (union_within xs ys (all_columns spec) inside (set_known spec ys known.right)) wp)) (more ++ rest)
    (λ columns visited reached w. (
      record {
        known = number;
        k1 = (refl, tt, (xs, refl));
        k2 = tt;
        k3 = tt;
        k4 = tt;
        k5 = tt;
        k6 = (
          refl,
          (λ c h. w c (union_left (union xs ys) zs c (union_left xs ys c h))),
          (λ c h. w c (union_left (union xs ys) zs c (union_right xs ys c h))),
          (λ c h. w c (union_right (union xs ys) zs c h)),
        );
        k7 = (refl, λ j h. k.below j h d (inl refl));
      },
      deps_fit spec i route good name pattern wp ls all rest f left columns visited reached (d ∷ checked) xs (checks_step spec all d left checked k) (λ e m. v e (inr m)),
    )))

-- ---- the routes of an update's probes

dep_route_good : (spec : Spec) → IsInRange spec → (route : Routing) → GivesGoodRoutes spec route → (pattern : List ℕ) → Within pattern (all_columns spec)
    → (d : ℕ) → In d (checked_deps spec pattern (length spec.deps))
    → IsGoodRoute spec (union (union (dep_at spec d).left (dep_at spec d).right) pattern) (update_dependency_probe spec route pattern d).route
dep_route_good spec i route good pattern w d m =
    let number : (0 < d) × (d ≤ length spec.deps) = in_checked spec pattern d m in
    let known : IsDepAmong (length spec.columns) (dep_at spec d) = dep_known spec i d number.0 number.1 in
    good (dep_at spec d).left (union (union (dep_at spec d).left (dep_at spec d).right) pattern)
    (union_within (union (dep_at spec d).left (dep_at spec d).right) pattern (all_columns spec)
    (union_within (dep_at spec d).left (dep_at spec d).right (all_columns spec) (set_known spec (dep_at spec d).left known.left) (set_known spec (dep_at spec d).right known.right)) w)

-- they read edges of the specification
pub update_edges_known : (spec : Spec) → IsInRange spec → (route : Routing) → GivesGoodRoutes spec route → (pattern : List ℕ) → Within pattern (all_columns spec)
    → (probe : PlannedProbe) → In probe (update_probes spec route pattern) → (e : ℕ) → In e probe.route → e < length spec.edges
update_edges_known spec i route good pattern w probe (inl q) e m =
    good_known spec (all_columns spec) (route pattern (all_columns spec)) (good pattern (all_columns spec) (λ c h. h)) e (subst (λ (z : PlannedProbe). In e z.route) q m)
update_edges_known spec i route good pattern w probe (inr h) e m =
    let q : (d : ℕ) × In d (checked_deps spec pattern (length spec.deps)) × (probe ≡ update_dependency_probe spec route pattern d) =
    in_map (update_dependency_probe spec route pattern) probe (checked_deps spec pattern (length spec.deps)) h in
    good_known spec (union (union (dep_at spec q.0).left (dep_at spec q.0).right) pattern) (update_dependency_probe spec route pattern q.0).route (dep_route_good spec i route good pattern w q.0 q.1) e
    (subst (λ (z : PlannedProbe). In e z.route) q.2 m)

-- ---- the locks of an update

-- a class that is locked keyed has its columns in the pattern
which_of_pattern : (spec : Spec) (pattern : List ℕ) (probes : List PlannedProbe) (c : ℕ) → which.Keyed ≡ update_which spec pattern probes c → Within (class_at spec c).cols pattern
which_of_pattern spec pattern probes c e = go (is_within (class_at spec c).cols pattern) refl e
  where
    go : (b : Bool) → is_within (class_at spec c).cols pattern ≡ b → which.Keyed ≡ (if b then which_under spec probes c else which.All) → Within (class_at spec c).cols pattern
    go true q h = within_from_test (class_at spec c).cols pattern q
    go false q h = absurd (let g : which.Keyed ≡ which.All = h in cc)

-- what holds of the choice under which the probes read, and of All, holds of an update's
update_bound : (spec : Spec) (pattern : List ℕ) (probes : List PlannedProbe) (c : ℕ) (columns : List ℕ) → IsKeyBound spec c (which_under spec probes c) columns → IsKeyBound spec c (update_which spec pattern probes c) columns
update_bound spec pattern probes c columns h = go (is_within (class_at spec c).cols pattern)
  where
    go : (b : Bool) → IsKeyBound spec c (if b then which_under spec probes c else which.All) columns
    go true = h
    go false = tt

-- ---- updates

pub update_fits : (spec : Spec) → IsInRange spec → IsAdequate spec → IsPlaced spec → (route : Routing) → GivesGoodRoutes spec route
    → (name pattern : List ℕ) → Within pattern (all_columns spec)
    → AreAcceptedFrom spec (updating name pattern) (at_start spec (updating name pattern)) (update_plan spec (gather nat_cmp pattern) (update_probes spec route (gather nat_cmp pattern)))
update_fits spec i a pl route good name pattern w =
    let op : Op = updating name pattern in
    let given : List ℕ = gather nat_cmp (all_columns spec) in
    let xs : List ℕ = gather nat_cmp pattern in
    let inside : Within xs (all_columns spec) = λ c h. w c (in_gather nat_cmp nat_order c pattern h) in
    let probes : List PlannedProbe = update_probes spec route xs in
    let deps : List ℕ = checked_deps spec xs (length spec.deps) in
    let first : PlannedProbe = found_probe spec route xs in
    let wanted : List ℕ = written_classes spec in
    let choice : ℕ → Which = update_which spec xs probes in
    let ls : List (ℕ × Which) = with_locks choice wanted [] in
    let n : (c : ℕ) → In c wanted → c < length spec.classes = classes_known spec i pl (all_edges spec) (in_edge spec) in
    let g : IsGoodRoute spec (all_columns spec) (route xs (all_columns spec)) = good xs (all_columns spec) (λ c h. h) in
    let own : (e : ℕ) → e < length spec.edges → In (class_of spec e) wanted = λ e l. class_in spec (all_edges spec) e (edge_in spec e l) in
    let covers : (probe : PlannedProbe) → In probe probes → CoverReads spec ls probe.columns probe.route = λ probe h e k. (
      choice (class_of spec e),
      with_locks_new choice wanted [] (class_of spec e) (own e (update_edges_known spec i route good xs inside probe h e k)),
      update_bound spec xs probes (class_of spec e) probe.columns (keyed_covers spec probes probe h (class_of spec e) (map_in (class_of spec) e probe.route k)),
    ) in
    let more : List Statement = flat_map (probe_statements spec) (map (update_dependency_probe spec route xs) deps) in
    let end : List Statement = ending Apply wanted in
    locks_fit spec op Exclusive refl choice wanted given [] [] [] false [] (rising_classes spec (all_edges spec)) n
    (λ c h. update_bound spec xs probes c given (all_bound spec probes c given (λ d m. gather_in nat_cmp nat_order d (all_columns spec) (class_columns_known spec i a pl c h d m)))) (λ x z. absurd z) (flat_map (probe_statements spec) probes ++ end)
    (subst (AreAcceptedFrom spec op (searching given [] [] ls None false [])) (sym (append_assoc (probe_statements spec first) more end))
    (probe_fits spec name pattern (all_columns spec) given [] [] ls None false [] first inside (covers first (inl refl)) g (more ++ end)
    (λ columns visited reached v. (
      record { known = tt; k1 = (refl, tt, (xs, refl)); k2 = tt; k3 = tt; k4 = tt; k5 = tt; k6 = (refl, v); k7 = tt },
      deps_fit spec i route good name pattern inside ls deps end
          (λ columns visited reached checked last all.
          ending_fits spec op Apply wanted (searching columns visited reached ls (Some last) true checked)
          (record {
            known = tt;
            k1 = (refl, (last, refl));
            k2 = tt;
            k3 = tt;
            k4 = (
              (λ e l. (choice (class_of spec e), with_locks_new choice wanted [] (class_of spec e) (own e l))),
              (λ e l m. elim (in_with_locks choice wanted [] (class_of spec e, which.Keyed) m) [ inl z ↦ absurd z | inr q ↦ which_of_pattern spec xs probes (class_of spec e) q.1 ]),
            );
            k5 = tt;
            k6 = tt;
            k7 = (refl, λ d some most risk. all d (checked_in spec xs d some most risk));
          })
          refl refl (rising_classes spec (all_edges spec)) (λ c h. (n c h, (choice c, with_locks_new choice wanted [] c h)))
          (λ c h. elim (in_with_locks choice wanted [] (c, h.0) h.1) [ inl z ↦ absurd z | inr q ↦ q.0 ]))
          deps columns visited reached [] xs (no_checks spec xs)
          (λ d m. covers (update_dependency_probe spec route xs d) (inr (map_in (update_dependency_probe spec route xs) d deps m))),
    ))))
