-- Laws of the plans of inserts: over any good routes they are accepted.
use Rattle.std.specs.Prelude.{◌≡◌, ℕ, ◌+◌, ◌-◌, ◌<◌, ◌≤◌, Bool, true, false, List, [], ◌∷◌, ◌++◌, ◌⊎◌, ◌&&◌, Option, None, Some, map, not, length, if◌then◌else◌}
use Rattle.rc_query.specs.Imports.{flat_map, list_any, range_with_len, nat_cmp, In, IsRising, gather, nat_order, get_or_in, in_gather, gather_in, in_has, has_in, in_filter, filter_in, rising_filter, map_in, in_map, has, Within, is_within, union, within_from_test, union_left, union_right, union_within, has-range, rising_range, in_range_bounds, in_range_below, list_any_in, Op, Insert, Exclusive, Spec, IsAdequate, all_columns, edge_at, target_columns, IsInRange, IsSetBelow, IsDepAmong, class_at, class_of, IsPlaced, Statement, Apply, Which, no_dep, dep_at, IsKeyBound, Covers, at_start, all_edges, IsGoodFrom, IsGoodRoute, good_known}
use Rattle.std.proofs.Common.{inl, inr, refl, sym, subst, ◌∙◌, arith, leb, ltb}
use Rattle.std.proofs.lemmas.Bool.{cases_Bool, and_from, not_from_false, false≢true}
use Rattle.std.proofs.lemmas.Bool.Decides.{nat_tests}
use Rattle.std.proofs.lemmas.List.{append_assoc}
use Rattle.rc_plan.specs.declared.statement.Which.TheVariants as which
use Rattle.rc_query.specs.declared.probe.PlannedProbe.{PlannedProbe}
use Rattle.rc_query.specs.Laws.{GivesGoodRoutes}
use Rattle.rc_query.specs.Planned.{written_classes, locks_and_reads, ending, Routing, pattern_probe, dependency_probe, checked_deps, insert_probes, reads_unbound, which_under, probe_statements, insert_plan}
use Rattle.rc_query.specs.ProgressLaws.{AreAcceptedFrom, searching, with_locks, with_locks_new, in_with_locks, locks_fit, less_from, read_fits, ending_fits, edge_in, in_edge, class_in, classes_known, rising_classes, class_columns_known}

-- ---- Reads behind a Probe

abbrev inserting : List ℕ → List ℕ → Op
inserting name pattern = record { name = name; pattern = pattern; kind = Insert }

-- the locks cover the Reads of a route behind a Probe of some columns
abbrev pub CoverReads : Spec → List (ℕ × Which) → List ℕ → List ℕ → Type 0
CoverReads spec ls columns es = (e : ℕ) → In e es → (choice : Which) × In (class_of spec e, choice) ls × IsKeyBound spec (class_of spec e) choice columns

covers_probed : (spec : Spec) (columns visited reached : List ℕ) (ls : List (ℕ × Which)) (xs : List ℕ) (absent : Bool) (checked : List ℕ) (c : ℕ) (choice : Which)
    → IsKeyBound spec c choice xs → Covers spec (searching columns visited reached ls (Some xs) absent checked) c choice
covers_probed spec columns visited reached ls xs absent checked c which.Keyed h = h
covers_probed spec columns visited reached ls xs absent checked c which.All h = tt

pub probe_reads_fit : (spec : Spec) (op : Op) (need xs es columns visited reached : List ℕ) (ls : List (ℕ × Which)) (absent : Bool) (checked : List ℕ)
    → CoverReads spec ls xs es → IsGoodFrom spec need reached visited es → (rest : List Statement)
    → ((columns visited reached : List ℕ) → Within need visited → AreAcceptedFrom spec op (searching columns visited reached ls (Some xs) absent checked) rest)
    → AreAcceptedFrom spec op (searching columns visited reached ls (Some xs) absent checked) (locks_and_reads spec Exclusive columns [] es ++ rest)
probe_reads_fit spec op need xs [] columns visited reached ls absent checked v g rest f = f columns visited reached g
probe_reads_fit spec op need xs (e ∷ es) columns visited reached ls absent checked v g rest f =
    let k : (choice : Which) × In (class_of spec e, choice) ls × IsKeyBound spec (class_of spec e) choice xs = v e (inl refl) in (
      read_fits spec op columns visited reached ls (Some xs) absent checked e (λ i. (xs, refl)) g.0
          (k.0, k.1, covers_probed spec columns visited reached ls xs absent checked (class_of spec e) k.0 k.2),
      probe_reads_fit spec op need xs es (union columns (target_columns spec e)) (union visited (target_columns spec e)) ((edge_at spec e).to ∷ reached) ls absent checked (λ d h. v d (inr h)) g.1 rest f,
    )

-- a Probe and its Reads, where the check behind them fits
probe_fits : (spec : Spec) (name pattern need columns visited reached : List ℕ) (ls : List (ℕ × Which)) (last : Option (List ℕ)) (absent : Bool) (checked : List ℕ) (probe : PlannedProbe)
    → Within probe.columns (all_columns spec) → CoverReads spec ls probe.columns probe.route → IsGoodRoute spec need probe.route → (rest : List Statement)
    → ((columns visited reached : List ℕ) → Within need visited → AreAcceptedFrom spec (inserting name pattern) (searching columns visited reached ls (Some probe.columns) absent checked) (probe.check ∷ rest))
    → AreAcceptedFrom spec (inserting name pattern) (searching columns visited reached ls last absent checked) (probe_statements spec probe ++ rest)
probe_fits spec name pattern need columns visited reached ls last absent checked probe n v g rest f = (
  record { known = n; k1 = (refl, tt); k2 = tt; k3 = tt; k4 = tt; k5 = tt; k6 = tt; k7 = tt },
  subst (AreAcceptedFrom spec (inserting name pattern) (searching probe.columns [] [] ls (Some probe.columns) absent checked)) (sym (append_assoc (locks_and_reads spec Exclusive probe.columns [] probe.route) (probe.check ∷ []) rest))
      (probe_reads_fit spec (inserting name pattern) need probe.columns probe.route probe.columns [] [] ls absent checked v g (probe.check ∷ rest) f),
)

-- ---- checks of dependencies

pub dep_known : (spec : Spec) → IsInRange spec → (dep : ℕ) → 0 < dep → dep ≤ length spec.deps → IsDepAmong (length spec.columns) (dep_at spec dep)
dep_known spec i dep some most = i.known_deps (dep_at spec dep) (get_or_in spec.deps (dep - 1) no_dep (omega arith))

pub set_known : (spec : Spec) (cols : List ℕ) → IsSetBelow (length spec.columns) cols → Within cols (all_columns spec)
set_known spec cols s c m = in_range_below (length spec.columns) c (s.below c m)

-- of all dependencies that have to be checked some are left, which are after those that were checked
pub record Checks (spec : Spec) (all left checked : List ℕ) : Type 0 where
  pub rising : IsRising nat_cmp left
  pub known : (d : ℕ) → In d left → (0 < d) × (d ≤ length spec.deps)
  pub below : (j : ℕ) → In j checked → (d : ℕ) → In d left → j < d
  pub each : (j : ℕ) → In j all → In j checked ⊎ In j left

pub checks_step : (spec : Spec) (all : List ℕ) (d : ℕ) (left checked : List ℕ) → Checks spec all (d ∷ left) checked → Checks spec all left (d ∷ checked)
checks_step spec all d left checked k = record {
  rising = k.rising.1;
  known = λ e m. k.known e (inr m);
  below = λ j h e m. elim h [ inl q ↦ subst (λ z. z < e) (sym q) (less_from d e (k.rising.0 e m)) | inr n ↦ k.below j n e (inr m) ];
  each = λ j h. elim (k.each j h) [ inl m ↦ inl (inr m) | inr m ↦ elim m [ inl q ↦ inl (inl q) | inr n ↦ inr n ] ];
}

deps_fit : (spec : Spec) → IsInRange spec → (route : Routing) → GivesGoodRoutes spec route → (name pattern : List ℕ) (ls : List (ℕ × Which)) (all : List ℕ) (rest : List Statement)
    → ((columns visited reached checked xs : List ℕ) → Within all checked → AreAcceptedFrom spec (inserting name pattern) (searching columns visited reached ls (Some xs) true checked) rest)
    → (left columns visited reached checked last : List ℕ) → Checks spec all left checked
    → ((d : ℕ) → In d left → CoverReads spec ls (dependency_probe spec route d).columns (dependency_probe spec route d).route)
    → AreAcceptedFrom spec (inserting name pattern) (searching columns visited reached ls (Some last) true checked) (flat_map (probe_statements spec) (map (dependency_probe spec route) left) ++ rest)
deps_fit spec i route good name pattern ls all rest f [] columns visited reached checked last k v =
    f columns visited reached checked last (λ j h. elim (k.each j h) [ inl m ↦ m | inr m ↦ absurd m ])
deps_fit spec i route good name pattern ls all rest f (d ∷ left) columns visited reached checked last k v =
    let number : (0 < d) × (d ≤ length spec.deps) = k.known d (inl refl) in
    let known : IsDepAmong (length spec.columns) (dep_at spec d) = dep_known spec i d number.0 number.1 in
    let xs : List ℕ = (dep_at spec d).left in
    let ys : List ℕ = (dep_at spec d).right in
    let inside : Within xs (all_columns spec) = set_known spec xs known.left in
    let more : List Statement = flat_map (probe_statements spec) (map (dependency_probe spec route) left) in
    subst (AreAcceptedFrom spec (inserting name pattern) (searching columns visited reached ls (Some last) true checked)) (sym (append_assoc (probe_statements spec (dependency_probe spec route d)) more rest))
    (probe_fits spec name pattern (union xs ys) columns visited reached ls (Some last) true checked (dependency_probe spec route d) inside (v d (inl refl))
    (good xs (union xs ys) (union_within xs ys (all_columns spec) inside (set_known spec ys known.right))) (more ++ rest)
    (λ columns visited reached w. (
      record {
        known = number;
        k1 = (refl, tt, (xs, refl));
        k2 = tt;
        k3 = tt;
        k4 = tt;
        k5 = tt;
        k6 = (refl, (λ c h. w c (union_left xs ys c h)), (λ c h. w c (union_right xs ys c h)), tt);
        k7 = (refl, λ j h. k.below j h d (inl refl));
      },
      deps_fit spec i route good name pattern ls all rest f left columns visited reached (d ∷ checked) xs (checks_step spec all d left checked k) (λ e m. v e (inr m)),
    )))

-- ---- the dependencies that are checked

range_tests : (a n c : ℕ) → a ≤ c → c < a + n → (leb a c && ltb c (a + n)) ≡ true
range_tests a n c l m = grind (arith, nat_tests)

in_range : (a n c : ℕ) → a ≤ c → c < a + n → In c (range_with_len a n)
in_range a n c l m = in_has (range_with_len a n) c (has-range a n c ∙ range_tests a n c l m)

pub in_checked : (spec : Spec) (pattern : List ℕ) (dep : ℕ) → In dep (checked_deps spec pattern (length spec.deps)) → (0 < dep) × (dep ≤ length spec.deps)
in_checked spec pattern dep m =
    let q : (1 ≤ dep) × (dep < 1 + length spec.deps) =
    in_range_bounds 1 (length spec.deps) dep (in_filter (λ d. not (is_within pattern (dep_at spec d).left)) dep (range_with_len 1 (length spec.deps)) m).0 in
    (omega (arith, q.0), omega (arith, q.1))

pub checked_in : (spec : Spec) (pattern : List ℕ) (dep : ℕ) → 0 < dep → dep ≤ length spec.deps → (Within pattern (dep_at spec dep).left → ⊥) → In dep (checked_deps spec pattern (length spec.deps))
checked_in spec pattern dep some most risk =
    filter_in (λ d. not (is_within pattern (dep_at spec d).left)) dep (range_with_len 1 (length spec.deps)) (in_range 1 (length spec.deps) dep some (omega arith))
    (not_from_false (is_within pattern (dep_at spec dep).left)
    (elim (cases_Bool (is_within pattern (dep_at spec dep).left)) [ inl e ↦ absurd (risk (within_from_test pattern (dep_at spec dep).left e)) | inr e ↦ e ]))

pub no_checks : (spec : Spec) (pattern : List ℕ) → Checks spec (checked_deps spec pattern (length spec.deps)) (checked_deps spec pattern (length spec.deps)) []
no_checks spec pattern = record {
  rising = rising_filter nat_cmp (λ d. not (is_within pattern (dep_at spec d).left)) (range_with_len 1 (length spec.deps)) (rising_range 1 (length spec.deps));
  known = in_checked spec pattern;
  below = λ j z. absurd z;
  each = λ j h. inr h;
}

-- ---- the routes of an insert's probes

dep_route_good : (spec : Spec) → IsInRange spec → (route : Routing) → GivesGoodRoutes spec route → (pattern : List ℕ) (d : ℕ) → In d (checked_deps spec pattern (length spec.deps))
    → IsGoodRoute spec (union (dep_at spec d).left (dep_at spec d).right) (dependency_probe spec route d).route
dep_route_good spec i route good pattern d m =
    let number : (0 < d) × (d ≤ length spec.deps) = in_checked spec pattern d m in
    let known : IsDepAmong (length spec.columns) (dep_at spec d) = dep_known spec i d number.0 number.1 in
    good (dep_at spec d).left (union (dep_at spec d).left (dep_at spec d).right)
    (union_within (dep_at spec d).left (dep_at spec d).right (all_columns spec) (set_known spec (dep_at spec d).left known.left) (set_known spec (dep_at spec d).right known.right))

-- they read edges of the specification
pub probe_edges_known : (spec : Spec) → IsInRange spec → (route : Routing) → GivesGoodRoutes spec route → (pattern : List ℕ) → Within pattern (all_columns spec)
    → (probe : PlannedProbe) → In probe (insert_probes spec route pattern) → (e : ℕ) → In e probe.route → e < length spec.edges
probe_edges_known spec i route good pattern w probe (inl q) e m =
    good_known spec pattern (route pattern pattern) (good pattern pattern w) e (subst (λ (z : PlannedProbe). In e z.route) q m)
probe_edges_known spec i route good pattern w probe (inr h) e m =
    let q : (d : ℕ) × In d (checked_deps spec pattern (length spec.deps)) × (probe ≡ dependency_probe spec route d) = in_map (dependency_probe spec route) probe (checked_deps spec pattern (length spec.deps)) h in
    good_known spec (union (dep_at spec q.0).left (dep_at spec q.0).right) (dependency_probe spec route q.0).route (dep_route_good spec i route good pattern q.0 q.1) e
    (subst (λ (z : PlannedProbe). In e z.route) q.2 m)

-- ---- the locks of an insert

-- a keyed class's columns are those of each probe that reads under it
pub keyed_covers : (spec : Spec) (probes : List PlannedProbe) (probe : PlannedProbe) → In probe probes → (c : ℕ) → In c (map (class_of spec) probe.route) → IsKeyBound spec c (which_under spec probes c) probe.columns
keyed_covers spec probes probe h c k = go (list_any (reads_unbound spec c) probes) refl
  where
    go : (b : Bool) → list_any (reads_unbound spec c) probes ≡ b → IsKeyBound spec c (if b then which.All else which.Keyed) probe.columns
    go true e = tt
    go false e =
        elim (cases_Bool (is_within (class_at spec c).cols probe.columns)) [
          | inl f ↦ within_from_test (class_at spec c).cols probe.columns f
          | inr f ↦ absurd (false≢true (sym e ∙ list_any_in (reads_unbound spec c) probes probe h
              (and_from (has (map (class_of spec) probe.route) c) (not (is_within (class_at spec c).cols probe.columns)) (has_in (map (class_of spec) probe.route) c k) (not_from_false (is_within (class_at spec c).cols probe.columns) f))))
        ]

-- and the whole tuple has them, before the first Probe
pub all_bound : (spec : Spec) (probes : List PlannedProbe) (c : ℕ) (columns : List ℕ) → Within (class_at spec c).cols columns → IsKeyBound spec c (which_under spec probes c) columns
all_bound spec probes c columns w = go (list_any (reads_unbound spec c) probes)
  where
    go : (b : Bool) → IsKeyBound spec c (if b then which.All else which.Keyed) columns
    go true = tt
    go false = w

-- ---- inserts

pub insert_fits : (spec : Spec) → IsInRange spec → IsAdequate spec → IsPlaced spec → (route : Routing) → GivesGoodRoutes spec route
    → (name pattern : List ℕ) → Within pattern (all_columns spec)
    → AreAcceptedFrom spec (inserting name pattern) (at_start spec (inserting name pattern)) (insert_plan spec (insert_probes spec route (gather nat_cmp pattern)))
insert_fits spec i a pl route good name pattern w =
    let op : Op = inserting name pattern in
    let given : List ℕ = gather nat_cmp (all_columns spec) in
    let xs : List ℕ = gather nat_cmp pattern in
    let inside : Within xs (all_columns spec) = λ c h. w c (in_gather nat_cmp nat_order c pattern h) in
    let probes : List PlannedProbe = insert_probes spec route xs in
    let deps : List ℕ = checked_deps spec xs (length spec.deps) in
    let first : PlannedProbe = pattern_probe route xs in
    let wanted : List ℕ = written_classes spec in
    let choice : ℕ → Which = which_under spec probes in
    let ls : List (ℕ × Which) = with_locks choice wanted [] in
    let n : (c : ℕ) → In c wanted → c < length spec.classes = classes_known spec i pl (all_edges spec) (in_edge spec) in
    let g : IsGoodRoute spec xs (route xs xs) = good xs xs inside in
    let own : (e : ℕ) → e < length spec.edges → In (class_of spec e) wanted = λ e l. class_in spec (all_edges spec) e (edge_in spec e l) in
    let covers : (probe : PlannedProbe) → In probe probes → CoverReads spec ls probe.columns probe.route = λ probe h e k. (
      choice (class_of spec e),
      with_locks_new choice wanted [] (class_of spec e) (own e (probe_edges_known spec i route good xs inside probe h e k)),
      keyed_covers spec probes probe h (class_of spec e) (map_in (class_of spec) e probe.route k),
    ) in
    let more : List Statement = flat_map (probe_statements spec) (map (dependency_probe spec route) deps) in
    let end : List Statement = ending Apply wanted in
    locks_fit spec op Exclusive refl choice wanted given [] [] [] false [] (rising_classes spec (all_edges spec)) n
    (λ c h. all_bound spec probes c given (λ d m. gather_in nat_cmp nat_order d (all_columns spec) (class_columns_known spec i a pl c h d m))) (λ x z. absurd z) (flat_map (probe_statements spec) probes ++ end)
    (subst (AreAcceptedFrom spec op (searching given [] [] ls None false [])) (sym (append_assoc (probe_statements spec first) more end))
    (probe_fits spec name pattern xs given [] [] ls None false [] first inside (covers first (inl refl)) g (more ++ end)
    (λ columns visited reached v. (
      record { known = tt; k1 = (refl, tt, (xs, refl)); k2 = tt; k3 = tt; k4 = tt; k5 = tt; k6 = (refl, v); k7 = tt },
      deps_fit spec i route good name pattern ls deps end
          (λ columns visited reached checked last all.
          ending_fits spec op Apply wanted (searching columns visited reached ls (Some last) true checked)
          (record {
            known = tt;
            k1 = (refl, (last, refl));
            k2 = tt;
            k3 = tt;
            k4 = ((λ e l. (choice (class_of spec e), with_locks_new choice wanted [] (class_of spec e) (own e l))), tt);
            k5 = tt;
            k6 = tt;
            k7 = (refl, λ d some most risk. all d (checked_in spec xs d some most risk));
          })
          refl refl (rising_classes spec (all_edges spec)) (λ c h. (n c h, (choice c, with_locks_new choice wanted [] c h)))
          (λ c h. elim (in_with_locks choice wanted [] (c, h.0) h.1) [ inl z ↦ absurd z | inr q ↦ q.0 ]))
          deps columns visited reached [] xs (no_checks spec xs)
          (λ d m. covers (dependency_probe spec route d) (inr (map_in (dependency_probe spec route) d deps m))),
    ))))
