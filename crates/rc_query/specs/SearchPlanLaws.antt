-- Laws of the plans of queries and removes: over any good route they are accepted.
use Rattle.std.specs.Prelude.{◌≡◌, ℕ, ◌<◌, false, List, [], ◌++◌, None, length}
use Rattle.rc_query.specs.Imports.{nat_cmp, In, gather, nat_order, gather_in, union, union_left, union_right, Op, Query, Remove, Shared, Exclusive, Spec, IsAdequate, all_columns, IsInRange, class_of, IsPlaced, Apply, Emit, Which, at_start, all_edges, IsGoodRoute, good_known}
use Rattle.std.proofs.Common.{inl, inr, refl, arith}
use Rattle.rc_plan.specs.declared.statement.Which.TheVariants as which
use Rattle.rc_query.specs.Planned.{classes_of_edges, written_classes, locks, left_after, ending, asked_columns, query_plan, remove_plan}
use Rattle.rc_query.specs.ProgressLaws.{AreAcceptedFrom, searching, with_locks, with_locks_old, with_locks_new, in_with_locks, locks_fit, left_after_later, locks_and_reads_fit, ending_fits, edge_in, in_edge, class_in, in_class, classes_known, no_locks, rising_classes, class_columns_known}

-- ---- queries

pub query_fits : (spec : Spec) → IsInRange spec → IsPlaced spec → (name pattern outs ranges route : List ℕ)
    → IsGoodRoute spec (union (gather nat_cmp pattern) (asked_columns ranges outs)) route
    → (let op : Op = record { name = name; pattern = pattern; kind = Query outs ranges } in AreAcceptedFrom spec op (at_start spec op) (query_plan spec (gather nat_cmp pattern) route))
query_fits spec i pl name pattern outs ranges route g =
    let op : Op = record { name = name; pattern = pattern; kind = Query outs ranges } in
    let bound : List ℕ = gather nat_cmp pattern in
    let asked : List ℕ = asked_columns ranges outs in
    let need : List ℕ = union bound asked in
    let wanted : List ℕ = classes_of_edges spec route in
    let n : (c : ℕ) → In c wanted → c < length spec.classes = classes_known spec i pl route (good_known spec need route g) in
    locks_and_reads_fit spec op Shared tt need wanted route wanted bound [] [] [] (λ z. z) n (class_in spec route)
    (no_locks wanted (rising_classes spec route)) (λ c z. absurd z) g (ending Emit wanted)
    (λ columns visited reached ls k w v.
    ending_fits spec op Emit wanted (searching columns visited reached ls None false [])
    (record {
      known = tt;
      k1 = (refl, tt);
      k2 = tt;
      k3 = tt;
      k4 = tt;
      k5 = tt;
      k6 = (
        (λ c h. w c (union_left bound asked c h)),
        (λ c h. w c (union_right bound asked c (union_right (gather nat_cmp ranges) (gather nat_cmp outs) c (gather_in nat_cmp nat_order c outs h)))),
        (λ c h. w c (union_right bound asked c (union_left (gather nat_cmp ranges) (gather nat_cmp outs) c (gather_in nat_cmp nat_order c ranges h)))),
      );
      k7 = tt;
    })
    refl refl (rising_classes spec route)
    (λ c h. (
      n c h,
      elim (k.each c h) [
        | inl q ↦ q
        | inr l ↦ absurd (let q : (e : ℕ) × In e route × (c ≡ class_of spec e) = in_class spec route c h in
            let l : class_of spec q.0 < c = (left_after_later spec route wanted c l).1 q.0 q.1 in
            let f : c ≡ class_of spec q.0 = q.2 in omega arith)
      ],
    ))
    (λ c h. k.only (c, h.0) h.1))

-- ---- removes

pub remove_fits : (spec : Spec) → IsInRange spec → IsAdequate spec → IsPlaced spec → (name pattern route : List ℕ) → IsGoodRoute spec (all_columns spec) route
    → (let op : Op = record { name = name; pattern = pattern; kind = Remove } in AreAcceptedFrom spec op (at_start spec op) (remove_plan spec (gather nat_cmp pattern) route))
remove_fits spec i a pl name pattern route g =
    let wanted : List ℕ = written_classes spec in
    let left : List ℕ = left_after spec wanted route in
    let op : Op = record { name = name; pattern = pattern; kind = Remove } in
    let n : (c : ℕ) → In c wanted → c < length spec.classes = classes_known spec i pl (all_edges spec) (in_edge spec) in
    locks_and_reads_fit spec op Exclusive refl (all_columns spec) wanted route wanted (gather nat_cmp pattern) [] [] [] (λ z. z) n
    (λ e h. class_in spec (all_edges spec) e (edge_in spec e (good_known spec (all_columns spec) route g e h)))
    (no_locks wanted (rising_classes spec (all_edges spec))) (λ c z. absurd z) g (locks Exclusive (λ c. which.Keyed) left ++ ending Apply wanted)
    (λ columns visited reached ls k w v.
    let all : (c : ℕ) → In c wanted → (z : Which) × In (c, z) (with_locks (λ c. which.Keyed) left ls) = λ c h. elim (k.each c h) [
      | inl q ↦ (q.0, with_locks_old (λ c. which.Keyed) left ls (c, q.0) q.1)
      | inr j ↦ (which.Keyed, with_locks_new (λ c. which.Keyed) left ls c j)
    ] in
    locks_fit spec op Exclusive refl (λ c. which.Keyed) left columns visited reached ls false [] k.rising (λ c h. n c (k.within c h))
    (λ c h d m. v d (w d (class_columns_known spec i a pl c (k.within c h) d m))) k.below (ending Apply wanted)
    (ending_fits spec op Apply wanted (searching columns visited reached (with_locks (λ c. which.Keyed) left ls) None false [])
    (record { known = tt; k1 = (refl, tt); k2 = tt; k3 = tt; k4 = ((λ e l. all (class_of spec e) (class_in spec (all_edges spec) e (edge_in spec e l))), tt); k5 = tt; k6 = w; k7 = tt })
    refl refl (rising_classes spec (all_edges spec)) (λ c h. (n c h, all c h))
    (λ c h. elim (in_with_locks (λ c. which.Keyed) left ls (c, h.0) h.1) [ inl q ↦ k.only (c, h.0) q | inr q ↦ k.within c q.0 ])))
