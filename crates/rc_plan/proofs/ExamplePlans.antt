-- The plans of the example keep K1 to K7, and serve calls.
use Rattle.std.specs.Prelude.{◌≡◌, ℕ, zero, suc, ◌<◌, ◌≤◌, ◌^◌, List, [], ◌∷◌}
use Rattle.rc_plan.proofs.Imports.{inl, inr, refl, ap, arith, lit<, lit≤, In, each_in, Within, rising_range, tuple_cmp, IsOver, IsRelation, SatisfiesOne, Satisfies, satisfies_from_test, Dep, Mode, IsBounded, All-nil, Shared, Exclusive, FitsAt, class_of, Which, IsPlanOf, IsCompiled, plan_at, dep_at, Serves, IsKnown, AreKnown, KeepsPlanRules, plans_law, StripeLock, Suffices, graph, add_edge, drop_edge, successors, add_plan, drop_plan, successor_plan, plans}
use Rattle.rc_spec.specs.Stripes.{mix}
use Rattle.rc_plan.specs.declared.statement.Which.TheVariants as which
use Rattle.rc_plan.proofs.Example.{edge, some_edges, add, successors_of, within_by, numbered, follows_within, sealed}

-- ---- numbers

add_known : AreKnown graph add_plan
add_known = each_in (IsKnown graph) add_plan
    (lit< tt, (within_by (0 ∷ 1 ∷ []) (0 ∷ 1 ∷ 2 ∷ []) refl, (lit< tt, (lit< tt, (tt, (within_by (2 ∷ []) (0 ∷ 1 ∷ 2 ∷ []) refl, (lit< tt, (lit< tt, ((lit< tt, lit≤ tt), (tt, (tt, (lit< tt, tt))))))))))))

drop_known : AreKnown graph drop_plan
drop_known = each_in (IsKnown graph) drop_plan (lit< tt, (lit< tt, (lit< tt, (tt, (tt, (lit< tt, tt))))))

successor_known : AreKnown graph successor_plan
successor_known = each_in (IsKnown graph) successor_plan (lit< tt, (lit< tt, (lit< tt, (tt, (tt, (lit< tt, tt))))))

-- ---- rules

released_all : (choice : Which) (c : ℕ) → (w : Which) × In {A = ℕ × Which} (c, w) ((0, choice) ∷ []) → In c (0 ∷ [])
released_all choice c h = elim h.1 [ inl e ↦ inl (ap (λ (x : ℕ × Which). x.0) e) | inr z ↦ absurd z ]

all_locked : (choice : Which) (e : ℕ) → e < 2 → (w : Which) × In {A = ℕ × Which} (class_of graph e, w) ((0, choice) ∷ [])
all_locked choice = numbered (λ e. (w : Which) × In {A = ℕ × Which} (class_of graph e, w) ((0, choice) ∷ [])) 2 ((choice, inl refl), ((choice, inl refl), tt))

-- the one dependency that an insert may break is checked
risks_checked : (dep : ℕ) → 0 < dep → dep ≤ 2 → (Within (0 ∷ 1 ∷ []) (dep_at graph dep).left → ⊥) → In dep (2 ∷ [])
risks_checked zero z l n = absurd (omega arith)
risks_checked (suc zero) z l n = absurd (n (λ c m. m))
risks_checked (suc (suc zero)) z l n = inl refl
risks_checked (suc (suc (suc dep))) z l n = absurd (omega arith)

add_keeps : KeepsPlanRules graph add_edge add_plan
add_keeps = (
  record { k1 = (refl, refl, refl); k2 = λ x z. absurd z; k3 = tt; k4 = tt; k5 = tt; k6 = tt; k7 = tt },
  (
    record { k1 = (refl, tt); k2 = tt; k3 = tt; k4 = tt; k5 = tt; k6 = tt; k7 = tt },
    (
      record { k1 = (refl, (0 ∷ 1 ∷ [], refl)); k2 = tt; k3 = (which.All, inl refl, tt); k4 = tt; k5 = (inl refl, within_by (0 ∷ []) (0 ∷ 1 ∷ []) refl, inl (follows_within [] [] refl)); k6 = tt; k7 = tt },
      (
        record { k1 = (refl, (0 ∷ 1 ∷ [], refl)); k2 = tt; k3 = (which.All, inl refl, tt); k4 = tt; k5 = (inr (inl refl), within_by (1 ∷ []) (0 ∷ 1 ∷ []) refl, inl (follows_within (0 ∷ []) (0 ∷ []) refl)); k6 = tt; k7 = tt },
        (
          record { k1 = (refl, tt, (0 ∷ 1 ∷ [], refl)); k2 = tt; k3 = tt; k4 = tt; k5 = tt; k6 = (refl, within_by (0 ∷ 1 ∷ []) (0 ∷ 1 ∷ 2 ∷ []) refl); k7 = tt },
          (
            record { k1 = (refl, tt); k2 = tt; k3 = tt; k4 = tt; k5 = tt; k6 = tt; k7 = tt },
            (
              record { k1 = (refl, (2 ∷ [], refl)); k2 = tt; k3 = (which.All, inl refl, tt); k4 = tt; k5 = (inl refl, tt, inl (follows_within [] [] refl)); k6 = tt; k7 = tt },
              (
                record { k1 = (refl, (2 ∷ [], refl)); k2 = tt; k3 = (which.All, inl refl, tt); k4 = tt; k5 = (inr (inl refl), tt, inl (follows_within (0 ∷ []) (0 ∷ []) refl)); k6 = tt; k7 = tt },
                (
                  record {
                    k1 = (refl, tt, (2 ∷ [], refl));
                    k2 = tt;
                    k3 = tt;
                    k4 = tt;
                    k5 = tt;
                    k6 = (refl, within_by (2 ∷ []) (0 ∷ 1 ∷ 2 ∷ []) refl, within_by (0 ∷ []) (0 ∷ 1 ∷ 2 ∷ []) refl, tt);
                    k7 = (refl, λ d z. absurd z);
                  },
                  (
                    record { k1 = (refl, (2 ∷ [], refl)); k2 = tt; k3 = tt; k4 = (all_locked which.All, tt); k5 = tt; k6 = tt; k7 = (refl, risks_checked) },
                    (
                      record { k1 = refl; k2 = tt; k3 = tt; k4 = tt; k5 = tt; k6 = tt; k7 = tt },
                      (record { k1 = (refl, (which.All, inl refl), λ z. absurd z); k2 = tt; k3 = tt; k4 = tt; k5 = tt; k6 = tt; k7 = tt }, (refl, released_all which.All)),
                    ),
                  ),
                ),
              ),
            ),
          ),
        ),
      ),
    ),
  ),
)

drop_keeps : KeepsPlanRules graph drop_edge drop_plan
drop_keeps = (
  record { k1 = (refl, refl, refl); k2 = λ x z. absurd z; k3 = within_by (0 ∷ []) (0 ∷ 1 ∷ []) refl; k4 = tt; k5 = tt; k6 = tt; k7 = tt },
  (
    record { k1 = (refl, tt); k2 = tt; k3 = (which.Keyed, inl refl, tt); k4 = tt; k5 = (inl refl, within_by (0 ∷ []) (0 ∷ 1 ∷ []) refl, inl (follows_within [] [] refl)); k6 = tt; k7 = tt },
    (
      record { k1 = (refl, tt); k2 = tt; k3 = (which.Keyed, inl refl, tt); k4 = tt; k5 = (inr (inl refl), within_by (1 ∷ []) (0 ∷ 1 ∷ []) refl, inl (follows_within (0 ∷ []) (0 ∷ []) refl)); k6 = tt; k7 = tt },
      (
        record { k1 = (refl, tt); k2 = tt; k3 = tt; k4 = (all_locked which.Keyed, tt); k5 = tt; k6 = λ c m. m; k7 = tt },
        (
          record { k1 = refl; k2 = tt; k3 = tt; k4 = tt; k5 = tt; k6 = tt; k7 = tt },
          (record { k1 = (refl, (which.Keyed, inl refl), λ z. absurd z); k2 = tt; k3 = tt; k4 = tt; k5 = tt; k6 = tt; k7 = tt }, (refl, released_all which.Keyed)),
        ),
      ),
    ),
  ),
)

successors_keep : KeepsPlanRules graph successors successor_plan
successors_keep = (
  record { k1 = (refl, refl, tt); k2 = λ x z. absurd z; k3 = λ c m. m; k4 = tt; k5 = tt; k6 = tt; k7 = tt },
  (
    record { k1 = (refl, tt); k2 = tt; k3 = (which.Keyed, inl refl, tt); k4 = tt; k5 = (inl refl, λ c m. m, inl (follows_within [] [] refl)); k6 = tt; k7 = tt },
    (
      record { k1 = (refl, tt); k2 = tt; k3 = (which.Keyed, inl refl, tt); k4 = tt; k5 = (inr (inl refl), tt, inl (follows_within (0 ∷ []) (0 ∷ []) refl)); k6 = tt; k7 = tt },
      (
        record { k1 = (refl, tt); k2 = tt; k3 = tt; k4 = tt; k5 = tt; k6 = (within_by (0 ∷ []) (0 ∷ 1 ∷ 2 ∷ []) refl, within_by (1 ∷ 2 ∷ []) (0 ∷ 1 ∷ 2 ∷ []) refl, λ c z. absurd z); k7 = tt },
        (
          record { k1 = refl; k2 = tt; k3 = tt; k4 = tt; k5 = tt; k6 = tt; k7 = tt },
          (record { k1 = (refl, (which.Keyed, inl refl), λ z. absurd z); k2 = tt; k3 = tt; k4 = tt; k5 = tt; k6 = tt; k7 = tt }, (refl, released_all which.Keyed)),
        ),
      ),
    ),
  ),
)

-- the accepted specification with its plans
pub compiled : IsCompiled graph plans
compiled = record {
  sealed = sealed;
  planned = record {
    count = refl;
    each = numbered (λ op. IsPlanOf graph op (plan_at plans op)) 3
        (record { known = add_known; rules = add_keeps }, (record { known = drop_known; rules = drop_keeps }, (record { known = successor_known; rules = successors_keep }, tt)));
  };
}

-- ---- the law at the example

edges_relation : IsRelation (0 ∷ 1 ∷ 2 ∷ []) some_edges
edges_relation = record {
  rising = (
    (λ u m. elim m [ inl e ↦ ap (tuple_cmp (edge 1 2 5)) e | inr k ↦ elim k [ inl e ↦ ap (tuple_cmp (edge 1 2 5)) e | inr z ↦ absurd z ] ]),
    ((λ u m. elim m [ inl e ↦ ap (tuple_cmp (edge 1 3 7)) e | inr z ↦ absurd z ]), ((λ u z. absurd z), tt)),
  );
  each = each_in (IsOver (0 ∷ 1 ∷ 2 ∷ [])) some_edges (over 1 2 5 (lit< tt) (lit< tt) (lit< tt), (over 1 3 7 (lit< tt) (lit< tt) (lit< tt), (over 4 1 8 (lit< tt) (lit< tt) (lit< tt), tt)));
}
  where
    over : (x y z : ℕ) → x < 2 ^ 64 → y < 2 ^ 64 → z < 2 ^ 64 → IsOver (0 ∷ 1 ∷ 2 ∷ []) (edge x y z)
    over x y z a b c = record { over = refl; fits = each_in (λ (p : ℕ × ℕ). p.1 < 2 ^ 64) (edge x y z) (a, (b, (c, tt))) }

edges_satisfy : Satisfies some_edges graph.deps
edges_satisfy = each_in (λ (d : Dep). SatisfiesOne some_edges d.left d.right) graph.deps
    (satisfies_from_test some_edges (record { left = 0 ∷ 1 ∷ []; right = 2 ∷ [] }) refl, (satisfies_from_test some_edges (record { left = 2 ∷ []; right = 0 ∷ [] }) refl, tt))

add_fits : FitsAt graph (add (edge 1 9 9)) add_edge
add_fits = record {
  known = refl;
  tuple = record {
    rising = rising_range 0 3;
    columns = each_in (λ (p : ℕ × ℕ). p.0 < 32) (edge 1 9 9) (lit< tt, (lit< tt, (lit< tt, tt)));
    values = each_in (λ (p : ℕ × ℕ). p.1 < 2 ^ 64) (edge 1 9 9) (lit< tt, (lit< tt, (lit< tt, tt)));
  };
  columns = refl;
  ranges = refl;
  bounds = All-nil IsBounded;
}

successors_fit : FitsAt graph (successors_of 1) successors
successors_fit = record {
  known = refl;
  tuple = record {
    rising = ((λ y z. absurd z), tt);
    columns = each_in (λ (p : ℕ × ℕ). p.0 < 32) ((0, 1) ∷ []) (lit< tt, tt);
    values = each_in (λ (p : ℕ × ℕ). p.1 < 2 ^ 64) ((0, 1) ∷ []) (lit< tt, tt);
  };
  columns = refl;
  ranges = refl;
  bounds = All-nil IsBounded;
}

-- all stripes, each held alone
abbrev all_alone : List StripeLock
all_alone = (0, Exclusive) ∷ (1, Exclusive) ∷ (2, Exclusive) ∷ (3, Exclusive) ∷ []

insert_served : Serves graph add_plan (add (edge 1 9 9)) some_edges all_alone
unfolding mix
insert_served =
    plans_law graph sealed.in_range sealed.populated sealed.accepted.adequate sealed.accepted.placed (add (edge 1 9 9)) add_edge add_fits (sealed.accepted.ops 0 (lit< tt)) add_plan add_known add_keeps
    some_edges edges_relation edges_satisfy all_alone (λ lock m. (lock.1, named lock m, suffices lock.1))
  where
    suffices : (mode : Mode) → Suffices mode mode
    suffices Shared = tt
    suffices Exclusive = tt

    named : (lock : StripeLock) → In lock all_alone → In (lock.0, lock.1) all_alone
    named lock m = m

-- the stripe of src 1, named Shared, is held alone beside others
query_served : Serves graph successor_plan (successors_of 1) some_edges all_alone
unfolding mix
query_served =
    plans_law graph sealed.in_range sealed.populated sealed.accepted.adequate sealed.accepted.placed (successors_of 1) successors successors_fit (sealed.accepted.ops 2 (lit< tt)) successor_plan successor_known successors_keep
    some_edges edges_relation edges_satisfy all_alone (λ lock m. elim m [ inl e ↦ (Exclusive, stripe lock e, tt) | inr z ↦ absurd z ])
  where
    stripe : (lock : StripeLock) → lock ≡ (2, Shared) → In (lock.0, Exclusive) all_alone
    stripe lock e = inr (inr (inl (λ i. ((e i).0, Exclusive))))
