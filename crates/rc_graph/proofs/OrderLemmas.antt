-- The order that is built node by node.
use Rattle.std.proofs.Common.{◌≡◌, ℕ, zero, suc, ◌<◌, ◌≤◌, ◌↔◌, Bool, true, false, List, [], ◌∷◌, ◌++◌, ◌⊎◌, length, take, get_or, inl, inr, refl, sym, ap, subst, ◌∙◌, arith}
use Rattle.rc_graph.proofs.Imports.{nat_cmp, false≢true, cases_eq, cases_lt, take-append-le, length-append, get_or-append, take-append_seam, get_or-append_seam, In, nat_order, in_put, put_new, put_old, in_append, append_in_left, append_in_right, in_has, has_in, has, with_column, Edge, Spec, KeepsA2, IsInRange, CanBeNext, IsNext, IsTopologicalOrder, Reaches, reaches_one, reaches_before, reaches_circle, missing, missing_lt}

-- ---- where no node can be next, all are before

-- an edge into the node from one that is not before, if the node cannot be next
entry_in : (before : List ℕ) (v : ℕ) (es : List Edge) → ((e : Edge) → In e es → e.to ≡ v → In e.from before) ⊎ ((e : Edge) × In e es × (e.to ≡ v) × (In e.from before → ⊥))
entry_in before v [] = inl (λ e m. absurd m)
entry_in before v (d ∷ es) = elim (entry_in before v es) [
  | inr r ↦ inr (r.0, inr r.1, r.2, r.3)
  | inl f ↦ here f (cases_eq d.to v) (has before d.from) refl
]
  where
    here : ((e : Edge) → In e es → e.to ≡ v → In e.from before) → (d.to ≡ v) ⊎ (d.to ≡ v → ⊥) → (b : Bool) → has before d.from ≡ b
        → ((e : Edge) → In e (d ∷ es) → e.to ≡ v → In e.from before) ⊎ ((e : Edge) × In e (d ∷ es) × (e.to ≡ v) × (In e.from before → ⊥))
    here f (inl to) false q = inr (d, inl refl, to, λ m. false≢true (sym q ∙ has_in before d.from m))
    here f (inl to) true q = inl (λ e m t. elim m [ inl p ↦ subst (λ (z : Edge). In z.from before) (sym p) (in_has before d.from q) | inr p ↦ f e p t ])
    here f (inr other) b q = inl (λ e m t. elim m [ inl p ↦ absurd (other (ap (λ (z : Edge). z.to) (sym p) ∙ t)) | inr p ↦ f e p t ])

-- a node that is not before and that leads to each of some others
record LeadsTo (spec : Spec) (before others : List ℕ) (v : ℕ) : Type 0 where
  known : v < length spec.nodes
  new : In v before → ⊥
  reaches : (w : ℕ) → In w others → Reaches spec v w

-- such a node is entered from another one, which leads to it too
retreat : (spec : Spec) (before : List ℕ) → IsInRange spec → ((v : ℕ) → v < length spec.nodes → KeepsA2 spec v) → ((v : ℕ) → CanBeNext spec before v → ⊥)
    → (v : ℕ) (others : List ℕ) → LeadsTo spec before others v
    → (u : ℕ) × LeadsTo spec before (v ∷ others) u × (missing 32 (u ∷ (v ∷ others)) < missing 32 (v ∷ others))
retreat spec before range acyclic stuck v others leads =
    elim (entry_in before v spec.edges) [
      | inl f ↦ absurd (stuck v (record { known = leads.known; new = leads.new; sources = f }))
      | inr r ↦ go r.0 r.1 r.2 r.3
    ]
  where
    go : (e : Edge) → In e spec.edges → e.to ≡ v → (In e.from before → ⊥)
        → (u : ℕ) × LeadsTo spec before (v ∷ others) u × (missing 32 (u ∷ (v ∷ others)) < missing 32 (v ∷ others))
    go e m to new =
        let known : e.from < length spec.nodes = (range.known_edges e m).from in
        let few : length spec.nodes ≤ 16 = range.nodes in
        let reaches : (w : ℕ) → In w (v ∷ others) → Reaches spec e.from w = λ w i. elim i [
          | inl q ↦ subst (Reaches spec e.from) (to ∙ sym q) (reaches_one spec e m)
          | inr q ↦ reaches_before spec w e m (subst (λ z. Reaches spec z w) (sym to) (leads.reaches w q))
        ] in
        let away = λ (i : In e.from (v ∷ others)). acyclic e.from known (reaches_circle spec e.from (reaches e.from i)) in (
          e.from,
          record { known = known; new = new; reaches = reaches },
          missing_lt 32 (v ∷ others) (e.from ∷ (v ∷ others)) (λ c i. inr i) e.from (omega arith) (inl refl) away,
        )

-- so the list of them grows, and there are not so many nodes
no_retreat : (spec : Spec) (before : List ℕ) → IsInRange spec → ((v : ℕ) → v < length spec.nodes → KeepsA2 spec v) → ((v : ℕ) → CanBeNext spec before v → ⊥)
    → (room v : ℕ) (others : List ℕ) → LeadsTo spec before others v → missing 32 (v ∷ others) ≤ room → ⊥
no_retreat spec before range acyclic stuck zero v others leads few =
    let r : (u : ℕ) × LeadsTo spec before (v ∷ others) u × (missing 32 (u ∷ (v ∷ others)) < missing 32 (v ∷ others)) = retreat spec before range acyclic stuck v others leads in
    let less : missing 32 (r.0 ∷ (v ∷ others)) < missing 32 (v ∷ others) = r.2 in omega arith
no_retreat spec before range acyclic stuck (suc room) v others leads few =
    let r : (u : ℕ) × LeadsTo spec before (v ∷ others) u × (missing 32 (u ∷ (v ∷ others)) < missing 32 (v ∷ others)) = retreat spec before range acyclic stuck v others leads in
    let less : missing 32 (r.0 ∷ (v ∷ others)) < missing 32 (v ∷ others) = r.2 in
    no_retreat spec before range acyclic stuck room r.0 (v ∷ others) r.1 (omega arith)

pub all_ordered : (spec : Spec) (before : List ℕ) → IsInRange spec → ((v : ℕ) → v < length spec.nodes → KeepsA2 spec v) → ((v : ℕ) → CanBeNext spec before v → ⊥)
    → (v : ℕ) → v < length spec.nodes → In v before
all_ordered spec before range acyclic stuck v l = go (has before v) refl
  where
    go : (b : Bool) → has before v ≡ b → In v before
    go true q = in_has before v q
    go false q = absurd (no_retreat spec before range acyclic stuck (missing 32 (v ∷ [])) v []
        (record { known = l; new = λ m. false≢true (sym q ∙ has_in before v m); reaches = λ w m. absurd m }) (omega arith))

-- ---- the order so far

-- the same nodes are before
next_same : (spec : Spec) (before others : List ℕ) (v : ℕ) → ((w : ℕ) → In w before ↔ In w others) → IsNext spec before v → IsNext spec others v
next_same spec before others v same next = record {
  can = record { known = next.can.known; new = λ m. next.can.new ((same v).1 m); sources = λ e m t. (same e.from).0 (next.can.sources e m t) };
  first = λ w can. next.first w (record { known = can.known; new = λ m. can.new ((same w).0 m); sources = λ e m t. (same e.from).1 (can.sources e m t) });
}

-- the order has the before nodes, each of them next after those before it
pub record IsOrderOf (spec : Spec) (before order : List ℕ) : Type 0 where
  pub same : (v : ℕ) → In v before ↔ In v order
  pub next : (k : ℕ) → k < length order → IsNext spec (take k order) (get_or order k 0)

-- the same by equations
next_at : (spec : Spec) (xs ys : List ℕ) (v w : ℕ) → xs ≡ ys → v ≡ w → IsNext spec ys w → IsNext spec xs v
next_at spec xs ys v w e f next = subst (λ z. IsNext spec z v) (sym e) (subst (IsNext spec ys) (sym f) next)

pub order_more : (spec : Spec) (before order : List ℕ) (v : ℕ) → IsOrderOf spec before order → IsNext spec before v → IsOrderOf spec (with_column before v) (order ++ v ∷ [])
order_more spec before order v is next = record { same = λ w. (forth w, back w); next = λ k l. step k l (cases_lt k (length order)) }
  where
    forth : (w : ℕ) → In w (with_column before v) → In w (order ++ v ∷ [])
    forth w m = elim (in_put nat_cmp nat_order w v before m) [
      | inl e ↦ append_in_right w order (v ∷ []) (inl e)
      | inr p ↦ append_in_left w order (v ∷ []) ((is.same w).0 p)
    ]

    back : (w : ℕ) → In w (order ++ v ∷ []) → In w (with_column before v)
    back w m = elim (in_append w order (v ∷ []) m) [
      | inl p ↦ put_old nat_cmp nat_order w v before ((is.same w).1 p)
      | inr (inl e) ↦ subst (λ z. In z (with_column before v)) (sym e) (put_new nat_cmp nat_order v before)
      | inr (inr p) ↦ absurd p
    ]

    step : (k : ℕ) → k < length (order ++ v ∷ []) → (k < length order) ⊎ (length order ≤ k) → IsNext spec (take k (order ++ v ∷ [])) (get_or (order ++ v ∷ []) k 0)
    step k l (inl p) =
        next_at spec (take k (order ++ v ∷ [])) (take k order) (get_or (order ++ v ∷ []) k 0) (get_or order k 0)
        (take-append-le k order (v ∷ []) (omega arith)) (get_or-append order (v ∷ []) 0 k p) (is.next k p)
    step k l (inr p) =
        let here : k ≡ length order = omega (arith, length-append order (v ∷ [])) in
        next_at spec (take k (order ++ v ∷ [])) order (get_or (order ++ v ∷ []) k 0) v
        (ap (λ z. take z (order ++ v ∷ [])) here ∙ take-append_seam order (v ∷ []))
        (ap (λ z. get_or (order ++ v ∷ []) z 0) here ∙ get_or-append_seam order v [] 0)
        (next_same spec before order v is.same next)

pub missing_next : (spec : Spec) (before : List ℕ) (v : ℕ) → IsInRange spec → IsNext spec before v → missing 32 (with_column before v) < missing 32 before
missing_next spec before v range next =
    let known : v < length spec.nodes = next.can.known in
    let few : length spec.nodes ≤ 16 = range.nodes in
    missing_lt 32 before (with_column before v) (λ c m. put_old nat_cmp nat_order c v before m) v (omega arith) (put_new nat_cmp nat_order v before) next.can.new

pub order_whole : (spec : Spec) (before order : List ℕ) → IsInRange spec → ((v : ℕ) → v < length spec.nodes → KeepsA2 spec v) → ((v : ℕ) → CanBeNext spec before v → ⊥)
    → IsOrderOf spec before order → IsTopologicalOrder spec order
order_whole spec before order range acyclic stuck is =
    record { all = λ v l. (is.same v).0 (all_ordered spec before range acyclic stuck v l); next = is.next }
