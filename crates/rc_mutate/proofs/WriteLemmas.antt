-- The plans of removes and inserts as they were made, and what their loops add.
use Rattle.std.specs.Prelude.{◌≡◌, ℕ, ◌+◌, ◌-◌, ◌<◌, Bool, true, false, not, cond, List, [], ◌∷◌, ◌++◌, length, map, filter}
use Rattle.rc_mutate.proofs.Imports.{flat_map, range_with_len, nat_cmp, cases_eq, get_or-append_seam, append_assoc, append-nil, map-append, get_or_append_left, filter-append, In, put, gather, nat_order, gather_more, get_or_in, Within, is_within, union, range_with_len_more, in_range_below, union_left, union_within, Dep, Insert, Remove, Update, Op, Spec, IsSealed, all_columns, HasColumnAndNode, IsDepAmong, at_found, class_of, Statement, Apply, CheckDep, no_dep, dep_at, plan_at, pattern_columns, PlannedProbe, Exclusive, Routing, ChoosesRoutes, IsPlanned, classes_of_edges, written_classes, locks, locks_and_reads, left_after, ending, remove_plan, which_under, probe_statements, insert_plan, insert_probes, pattern_probe, dependency_probe, checked_deps, found_probe, update_dependency_probe, update_probes, update_which, update_plan, plan_for, chosen_routing, routing_chooses}
use Rattle.std.proofs.Common.{inl, inr, refl, sym, ap, subst, ◌∙◌, arith, get_or}
use Rattle.rc_plan.specs.declared.statement.Which.TheVariants as which

-- ---- numbers from 0

from_none : (n : ℕ) → 0 + n ≡ n
from_none n = omega arith

pub range_classes_more : (spec : Spec) (k : ℕ) → classes_of_edges spec (range_with_len 0 (k + 1)) ≡ put nat_cmp (class_of spec k) (classes_of_edges spec (range_with_len 0 k))
range_classes_more spec k =
    ap (classes_of_edges spec) (range_with_len_more 0 k ∙ ap (λ z. range_with_len 0 k ++ z ∷ []) (from_none k))
    ∙ ap (gather nat_cmp) (map-append (class_of spec) (range_with_len 0 k) (k ∷ []))
    ∙ gather_more nat_cmp nat_order (map (class_of spec) (range_with_len 0 k)) (class_of spec k)

pub all_some : (spec : Spec) → HasColumnAndNode spec → all_columns spec ≡ [] → ⊥
all_some spec some e = subst (In 0) e (in_range_below (length spec.columns) 0 some.column)

-- ---- the plan of a remove

pub removal_made : (spec given : Spec) (pattern classes left route edges : List ℕ) (begun reads locked plan : List Statement) → given ≡ spec → edges ≡ route
    → classes ≡ written_classes given → begun ≡ [] → reads ≡ begun ++ locks_and_reads given Exclusive pattern classes edges → left ≡ left_after given classes edges
    → locked ≡ reads ++ locks Exclusive (λ c. which.Keyed) left → plan ≡ locked ++ ending Apply classes
    → plan ≡ remove_plan spec pattern route
removal_made spec given pattern classes left route edges begun reads locked plan same one of none read rest lock end =
    let wanted : classes ≡ written_classes spec = of ∙ ap (λ (s : Spec). written_classes s) same in
    let made : reads ≡ locks_and_reads spec Exclusive pattern (written_classes spec) route =
    read ∙ ap (λ z. z ++ locks_and_reads given Exclusive pattern classes edges) none ∙ ap (λ (s : Spec). locks_and_reads s Exclusive pattern classes edges) same
    ∙ ap (locks_and_reads spec Exclusive pattern classes) one ∙ ap (λ z. locks_and_reads spec Exclusive pattern z route) wanted in
    let last : left ≡ left_after spec (written_classes spec) route =
    rest ∙ ap (λ (s : Spec). left_after s classes edges) same ∙ ap (left_after spec classes) one ∙ ap (λ z. left_after spec z route) wanted in
    let all : List Statement = locks_and_reads spec Exclusive pattern (written_classes spec) route in
    let keyed : List Statement = locks Exclusive (λ c. which.Keyed) (left_after spec (written_classes spec) route) in
    let both : locked ≡ all ++ keyed = lock ∙ ap (λ z. z ++ locks Exclusive (λ c. which.Keyed) left) made ∙ ap (λ z. all ++ locks Exclusive (λ c. which.Keyed) z) last in
    end ∙ ap (λ z. z ++ ending Apply classes) both ∙ ap (λ z. (all ++ keyed) ++ ending Apply z) wanted ∙ append_assoc all keyed (ending Apply (written_classes spec))

pub remove_planned : (spec : Spec) → IsSealed spec → (op : Op) (pattern : List ℕ) (plan : List Statement) → op.kind ≡ Remove → pattern ≡ pattern_columns op
    → ((route : Routing) → ChoosesRoutes spec route → plan ≡ remove_plan spec pattern (route pattern (all_columns spec))) → IsPlanned spec op plan
remove_planned spec s op pattern plan kind given made =
    let route : Routing = chosen_routing spec s in
    record {
      route = route;
      chosen = routing_chooses spec s;
      value = made route (routing_chooses spec s) ∙ ap (λ z. remove_plan spec z (route z (all_columns spec))) given ∙ ap (plan_for spec route (pattern_columns op)) (sym kind);
    }

-- ---- the probes of an insert

pub checked_more : (spec : Spec) (pattern : List ℕ) (k : ℕ) (b : Bool) → is_within pattern (dep_at spec (k + 1)).left ≡ b
    → checked_deps spec pattern (k + 1) ≡ checked_deps spec pattern k ++ cond b [] ((k + 1) ∷ [])
checked_more spec pattern k b e =
    ap (filter (λ dep. not (is_within pattern (dep_at spec dep).left))) (range_with_len_more 1 k ∙ ap (λ z. range_with_len 1 k ++ z ∷ []) (one_more k))
    ∙ filter-append (λ dep. not (is_within pattern (dep_at spec dep).left)) (range_with_len 1 k) ((k + 1) ∷ [])
    ∙ ap (λ z. checked_deps spec pattern k ++ z) (last b e)
  where
    one_more : (k : ℕ) → 1 + k ≡ k + 1
    one_more k = omega arith

    last : (b : Bool) → is_within pattern (dep_at spec (k + 1)).left ≡ b → filter (λ dep. not (is_within pattern (dep_at spec dep).left)) ((k + 1) ∷ []) ≡ cond b [] ((k + 1) ∷ [])
    last true e = ap (λ (z : Bool). cond (not z) ((k + 1) ∷ []) []) e
    last false e = ap (λ (z : Bool). cond (not z) ((k + 1) ∷ []) []) e

-- the probe for the pattern, and those for the first dependencies
abbrev pub probes_of_first : Spec → Routing → List ℕ → ℕ → List PlannedProbe
probes_of_first spec route pattern count = pattern_probe route pattern ∷ map (dependency_probe spec route) (checked_deps spec pattern count)

-- the dependency with a number, as it was found in the list of a specification
pub dep_found : (spec given : Spec) (deps : List Dep) (place : ℕ) (dep : Dep) → given ≡ spec → deps ≡ given.deps → place < length deps → dep ≡ get_or deps place dep → dep_at spec (place + 1) ≡ dep
dep_found spec given deps place dep same list l found =
    let all : deps ≡ spec.deps = list ∙ ap (λ (s : Spec). s.deps) same in
    ap (λ z. get_or spec.deps z no_dep) (one_less place) ∙ at_found deps spec.deps place no_dep dep all (omega (arith, ap length all)) found
  where
    one_less : (k : ℕ) → k + 1 - 1 ≡ k
    one_less k = omega arith

pub dep_among : (spec given : Spec) (deps : List Dep) (place : ℕ) (dep : Dep) → IsSealed spec → given ≡ spec → deps ≡ given.deps → place < length deps → dep ≡ get_or deps place dep → IsDepAmong (length spec.columns) dep
dep_among spec given deps place dep s same list l found =
    s.in_range.known_deps dep (subst (In dep) (list ∙ ap (λ (z : Spec). z.deps) same) (subst (λ z. In z deps) (sym found) (get_or_in deps place dep l)))

pub need_known : (spec : Spec) (dep : Dep) → IsDepAmong (length spec.columns) dep → Within (union dep.left dep.right) (all_columns spec)
need_known spec dep known =
    union_within dep.left dep.right (all_columns spec) (λ c m. in_range_below (length spec.columns) c (known.left.below c m)) (λ c m. in_range_below (length spec.columns) c (known.right.below c m))

pub probes_same : (spec : Spec) (route : Routing) (pattern : List ℕ) (place : ℕ) (dep : Dep) (before : List PlannedProbe) → dep_at spec (place + 1) ≡ dep → is_within pattern dep.left ≡ true
    → before ≡ probes_of_first spec route pattern place → before ≡ probes_of_first spec route pattern (place + 1)
probes_same spec route pattern place dep before found within same =
    let none : checked_deps spec pattern (place + 1) ≡ checked_deps spec pattern place ++ [] = checked_more spec pattern place true (ap (λ (z : Dep). is_within pattern z.left) found ∙ within) in
    same ∙ ap (λ z. pattern_probe route pattern ∷ map (dependency_probe spec route) z) (sym (none ∙ append-nil (checked_deps spec pattern place)))

pub probes_more : (spec : Spec) (route : Routing) (pattern need : List ℕ) (place : ℕ) (dep : Dep) (before now : List PlannedProbe) (probe : PlannedProbe) → dep_at spec (place + 1) ≡ dep → is_within pattern dep.left ≡ false
    → need ≡ union dep.left dep.right → before ≡ probes_of_first spec route pattern place → (let new : PlannedProbe = record { columns = dep.left; route = route dep.left need; check = CheckDep (place + 1) } in probe ≡ new)
    → now ≡ before ++ probe ∷ [] → now ≡ probes_of_first spec route pattern (place + 1)
probes_more spec route pattern need place dep before now probe found within wanted same made more =
    let list : List ℕ = checked_deps spec pattern place in
    let one : checked_deps spec pattern (place + 1) ≡ list ++ (place + 1) ∷ [] = checked_more spec pattern place false (ap (λ (z : Dep). is_within pattern z.left) found ∙ within) in
    let new : probe ≡ dependency_probe spec route (place + 1) =
    made ∙ ap (λ z. let r : PlannedProbe = record { columns = dep.left; route = route dep.left z; check = CheckDep (place + 1) } in r) wanted
    ∙ ap (λ (d : Dep). let r : PlannedProbe = record { columns = d.left; route = route d.left (union d.left d.right); check = CheckDep (place + 1) } in r) (sym found) in
    more ∙ ap (λ z. z ++ probe ∷ []) same ∙ ap (λ z. probes_of_first spec route pattern place ++ z ∷ []) new
    ∙ ap (λ z. pattern_probe route pattern ∷ z) (sym (ap (map (dependency_probe spec route)) one ∙ map-append (dependency_probe spec route) list ((place + 1) ∷ [])))

-- ---- the plan of an insert

pub insertion_made : (spec given : Spec) (classes : List ℕ) (probes first second : List PlannedProbe) (begun locked probed plan : List Statement) → given ≡ spec → first ≡ probes → second ≡ probes
    → classes ≡ written_classes given → begun ≡ [] → locked ≡ begun ++ locks Exclusive (which_under given first) classes → probed ≡ locked ++ flat_map (probe_statements given) second
    → plan ≡ probed ++ ending Apply classes → plan ≡ insert_plan spec probes
insertion_made spec given classes probes first second begun locked probed plan same one two of none lock probe end =
    let wanted : classes ≡ written_classes spec = of ∙ ap (λ (s : Spec). written_classes s) same in
    let front : List Statement = locks Exclusive (which_under spec probes) (written_classes spec) in
    let middle : List Statement = flat_map (probe_statements spec) probes in
    let made : locked ≡ front =
    lock ∙ ap (λ z. z ++ locks Exclusive (which_under given first) classes) none ∙ ap (λ (s : Spec). locks Exclusive (which_under s first) classes) same
    ∙ ap (λ z. locks Exclusive (which_under spec z) classes) one ∙ ap (λ z. locks Exclusive (which_under spec probes) z) wanted in
    let both : probed ≡ front ++ middle =
    probe ∙ ap (λ z. z ++ flat_map (probe_statements given) second) made ∙ ap (λ (s : Spec). front ++ flat_map (probe_statements s) second) same ∙ ap (λ z. front ++ flat_map (probe_statements spec) z) two in
    end ∙ ap (λ z. z ++ ending Apply classes) both ∙ ap (λ z. (front ++ middle) ++ ending Apply z) wanted ∙ append_assoc front middle (ending Apply (written_classes spec))

pub insert_planned : (spec : Spec) → IsSealed spec → (op : Op) (pattern : List ℕ) (plan : List Statement) → op.kind ≡ Insert → pattern ≡ pattern_columns op
    → ((route : Routing) → ChoosesRoutes spec route → plan ≡ insert_plan spec (insert_probes spec route pattern)) → IsPlanned spec op plan
insert_planned spec s op pattern plan kind given made =
    let route : Routing = chosen_routing spec s in
    record {
      route = route;
      chosen = routing_chooses spec s;
      value = made route (routing_chooses spec s) ∙ ap (λ z. insert_plan spec (insert_probes spec route z)) given ∙ ap (plan_for spec route (pattern_columns op)) (sym kind);
    }

-- ---- the probes of an update

pub union_some_left : (xs ys : List ℕ) → (xs ≡ [] → ⊥) → union xs ys ≡ [] → ⊥
union_some_left xs ys f e = go xs refl
  where
    go : (zs : List ℕ) → zs ≡ xs → ⊥
    go [] q = f (sym q)
    go (z ∷ zs) q = subst (In z) e (union_left xs ys z (subst (In z) q (inl refl)))

-- the probe for the pattern, and those for the first dependencies
abbrev pub update_probes_of_first : Spec → Routing → List ℕ → ℕ → List PlannedProbe
update_probes_of_first spec route pattern count = found_probe spec route pattern ∷ map (update_dependency_probe spec route pattern) (checked_deps spec pattern count)

pub update_probes_same : (spec : Spec) (route : Routing) (pattern : List ℕ) (place : ℕ) (dep : Dep) (before : List PlannedProbe) → dep_at spec (place + 1) ≡ dep → is_within pattern dep.left ≡ true
    → before ≡ update_probes_of_first spec route pattern place → before ≡ update_probes_of_first spec route pattern (place + 1)
update_probes_same spec route pattern place dep before found within same =
    let none : checked_deps spec pattern (place + 1) ≡ checked_deps spec pattern place ++ [] = checked_more spec pattern place true (ap (λ (z : Dep). is_within pattern z.left) found ∙ within) in
    same ∙ ap (λ z. found_probe spec route pattern ∷ map (update_dependency_probe spec route pattern) z) (sym (none ∙ append-nil (checked_deps spec pattern place)))

pub update_probes_more : (spec : Spec) (route : Routing) (pattern sides need : List ℕ) (place : ℕ) (dep : Dep) (before now : List PlannedProbe) (probe : PlannedProbe) → dep_at spec (place + 1) ≡ dep → is_within pattern dep.left ≡ false
    → sides ≡ union dep.left dep.right → need ≡ union sides pattern → before ≡ update_probes_of_first spec route pattern place → (let new : PlannedProbe = record { columns = dep.left; route = route dep.left need; check = CheckDep (place + 1) } in probe ≡ new)
    → now ≡ before ++ probe ∷ [] → now ≡ update_probes_of_first spec route pattern (place + 1)
update_probes_more spec route pattern sides need place dep before now probe found within both wanted same made more =
    let list : List ℕ = checked_deps spec pattern place in
    let one : checked_deps spec pattern (place + 1) ≡ list ++ (place + 1) ∷ [] = checked_more spec pattern place false (ap (λ (z : Dep). is_within pattern z.left) found ∙ within) in
    let new : probe ≡ update_dependency_probe spec route pattern (place + 1) =
    made ∙ ap (λ z. let r : PlannedProbe = record { columns = dep.left; route = route dep.left z; check = CheckDep (place + 1) } in r) (wanted ∙ ap (λ z. union z pattern) both)
    ∙ ap (λ (d : Dep). let r : PlannedProbe = record { columns = d.left; route = route d.left (union (union d.left d.right) pattern); check = CheckDep (place + 1) } in r) (sym found) in
    more ∙ ap (λ z. z ++ probe ∷ []) same ∙ ap (λ z. update_probes_of_first spec route pattern place ++ z ∷ []) new
    ∙ ap (λ z. found_probe spec route pattern ∷ z) (sym (ap (map (update_dependency_probe spec route pattern)) one ∙ map-append (update_dependency_probe spec route pattern) list ((place + 1) ∷ [])))

-- ---- the plan of an update

pub replacement_made : (spec given : Spec) (pattern classes : List ℕ) (probes first second : List PlannedProbe) (begun locked probed plan : List Statement) → given ≡ spec → first ≡ probes → second ≡ probes
    → classes ≡ written_classes given → begun ≡ [] → locked ≡ begun ++ locks Exclusive (update_which given pattern first) classes → probed ≡ locked ++ flat_map (probe_statements given) second
    → plan ≡ probed ++ ending Apply classes → plan ≡ update_plan spec pattern probes
replacement_made spec given pattern classes probes first second begun locked probed plan same one two of none lock probe end =
    let wanted : classes ≡ written_classes spec = of ∙ ap (λ (s : Spec). written_classes s) same in
    let front : List Statement = locks Exclusive (update_which spec pattern probes) (written_classes spec) in
    let middle : List Statement = flat_map (probe_statements spec) probes in
    let made : locked ≡ front =
    lock ∙ ap (λ z. z ++ locks Exclusive (update_which given pattern first) classes) none ∙ ap (λ (s : Spec). locks Exclusive (update_which s pattern first) classes) same
    ∙ ap (λ z. locks Exclusive (update_which spec pattern z) classes) one ∙ ap (λ z. locks Exclusive (update_which spec pattern probes) z) wanted in
    let both : probed ≡ front ++ middle =
    probe ∙ ap (λ z. z ++ flat_map (probe_statements given) second) made ∙ ap (λ (s : Spec). front ++ flat_map (probe_statements s) second) same ∙ ap (λ z. front ++ flat_map (probe_statements spec) z) two in
    end ∙ ap (λ z. z ++ ending Apply classes) both ∙ ap (λ z. (front ++ middle) ++ ending Apply z) wanted ∙ append_assoc front middle (ending Apply (written_classes spec))

pub update_planned : (spec : Spec) → IsSealed spec → (op : Op) (pattern : List ℕ) (plan : List Statement) → op.kind ≡ Update → pattern ≡ pattern_columns op
    → ((route : Routing) → ChoosesRoutes spec route → plan ≡ update_plan spec pattern (update_probes spec route pattern)) → IsPlanned spec op plan
update_planned spec s op pattern plan kind given made =
    let route : Routing = chosen_routing spec s in
    record {
      route = route;
      chosen = routing_chooses spec s;
      value = made route (routing_chooses spec s) ∙ ap (λ z. update_plan spec z (update_probes spec route z)) given ∙ ap (plan_for spec route (pattern_columns op)) (sym kind);
    }

-- ---- the plans of all operations

pub plan_more : (P : ℕ → List Statement → Type 0) (plans : List (List Statement)) (plan : List Statement) (count : ℕ) → length plans ≡ count
    → ((op : ℕ) → op < count → P op (plan_at plans op)) → P count plan → (op : ℕ) → op < count + 1 → P op (plan_at (plans ++ plan ∷ []) op)
plan_more P plans plan count same before here op l = elim (cases_eq op count) [
  | inl e ↦ subst (λ z. P z (plan_at (plans ++ plan ∷ []) z)) (sym e)
      (subst (P count) (sym (ap (λ z. get_or (plans ++ plan ∷ []) z []) (sym same) ∙ get_or-append_seam plans plan [] [])) here)
  | inr n ↦ let less : op < count = omega arith in
      subst (P op) (sym (get_or_append_left plans (plan ∷ []) [] op (omega (arith, same)))) (before op less)
]
