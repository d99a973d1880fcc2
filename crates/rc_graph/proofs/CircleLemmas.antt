-- The set of nodes that are reached from a node.
use Rattle.std.proofs.Common.{◌≡◌, ℕ, ◌+◌, ◌↔◌, true, List, ◌∷◌, ◌⊎◌, take, inl, inr, refl, sym, subst}
use Rattle.rc_graph.proofs.Imports.{nat_cmp, In, nat_order, in_put, put_new, put_old, in_has, has_in, has, is_within, union, with_column, in_union, within_from_test, Edge, Spec, IsWalk, LiesOnCircle, Reaches, IsTarget, reaches_one, reaches_more, walk_inside, circle_reaches, reaches_circle}
use Rattle.rc_graph.proofs.EdgeLemmas.{IsAt, passed_before, passed_here, passed_next}

-- each of the set is reached from the node
abbrev pub AreReached : Spec → ℕ → List ℕ → Type 0
AreReached spec v set = (w : ℕ) → In w set → Reaches spec v w

-- the set has the targets of the edges that begin at the node or in the other set
abbrev pub AreTargets : List Edge → ℕ → List ℕ → List ℕ → Type 0
AreTargets edges v set targets = (w : ℕ) → In w targets ↔ IsTarget edges v set w

pub targets_reached : (spec : Spec) (v : ℕ) (set : List ℕ) → AreReached spec v set → (w : ℕ) → IsTarget spec.edges v set w → Reaches spec v w
targets_reached spec v set reached w t = subst (Reaches spec v) t.3 (go t.2)
  where
    go : (t.0.from ≡ v) ⊎ In t.0.from set → Reaches spec v t.0.to
    go (inl e) = subst (λ z. Reaches spec z t.0.to) e (reaches_one spec t.0 t.1)
    go (inr m) = reaches_more spec v t.0 t.1 (reached t.0.from m)

pub union_reached : (spec : Spec) (v : ℕ) (set next new : List ℕ) → AreReached spec v set → AreTargets spec.edges v set next → new ≡ union set next → AreReached spec v new
union_reached spec v set next new reached targets e w m = elim (in_union set next w (subst (In w) e m)) [
  | inl p ↦ reached w p
  | inr p ↦ targets_reached spec v set reached w ((targets w).0 p)
]

-- a set of reached nodes that has the targets of its own edges has all that are reached
pub reached_exactly : (spec : Spec) (v : ℕ) (set next : List ℕ) → AreReached spec v set → AreTargets spec.edges v set next → is_within next set ≡ true
    → (w : ℕ) → In w set ↔ Reaches spec v w
reached_exactly spec v set next reached targets h w = (reached w, λ r. complete r.0 r.1 r.2)
  where
    closed : (u : ℕ) → IsTarget spec.edges v set u → In u set
    closed u t = within_from_test next set h u ((targets u).1 t)

    complete : (e : Edge) (es : List Edge) → IsWalk spec v w (e ∷ es) → In w set
    complete e es walk =
        walk_inside spec set (λ d m i. closed d.to (d, m, inr i, refl)) e.to w es walk.2 (closed e.to (e, walk.0, inl walk.1, refl))

-- ---- the targets of the edges that were passed

target_before : (edges : List Edge) (v : ℕ) (set : List ℕ) (i : ℕ) (d : Edge) → IsAt edges i d → (w : ℕ) → IsTarget (take i edges) v set w → IsTarget (take (i + 1) edges) v set w
target_before edges v set i d at w t = (t.0, passed_before edges i d at t.0 t.1, t.2, t.3)

-- a target is that of the edge at hand, or of one passed before
target_here : (edges : List Edge) (v : ℕ) (set : List ℕ) (i : ℕ) (d : Edge) → IsAt edges i d → (w : ℕ) → IsTarget (take (i + 1) edges) v set w
    → (((d.from ≡ v) ⊎ In d.from set) × (d.to ≡ w)) ⊎ IsTarget (take i edges) v set w
target_here edges v set i d at w t = elim (passed_next edges i d at t.0 t.1) [
  | inl m ↦ inr (t.0, m, t.2, t.3)
  | inr q ↦ inl (subst (λ (z : Edge). ((z.from ≡ v) ⊎ In z.from set) × (z.to ≡ w)) q (t.2, t.3))
]

pub targets_more : (edges : List Edge) (v : ℕ) (set found : List ℕ) (i : ℕ) (d : Edge) → IsAt edges i d
    → AreTargets (take i edges) v set found → (d.from ≡ v) ⊎ In d.from set → AreTargets (take (i + 1) edges) v set (with_column found d.to)
targets_more edges v set found i d at targets begins w = (forth, back)
  where
    forth : In w (with_column found d.to) → IsTarget (take (i + 1) edges) v set w
    forth m = elim (in_put nat_cmp nat_order w d.to found m) [
      | inl q ↦ (d, passed_here edges i d at, begins, sym q)
      | inr p ↦ target_before edges v set i d at w ((targets w).0 p)
    ]

    back : IsTarget (take (i + 1) edges) v set w → In w (with_column found d.to)
    back t = elim (target_here edges v set i d at w t) [
      | inl h ↦ subst (λ z. In z (with_column found d.to)) h.1 (put_new nat_cmp nat_order d.to found)
      | inr p ↦ put_old nat_cmp nat_order w d.to found ((targets w).1 p)
    ]

pub targets_same : (edges : List Edge) (v : ℕ) (set found : List ℕ) (i : ℕ) (d : Edge) → IsAt edges i d
    → AreTargets (take i edges) v set found → ((d.from ≡ v) ⊎ In d.from set → ⊥) → AreTargets (take (i + 1) edges) v set found
targets_same edges v set found i d at targets elsewhere w = (forth, back)
  where
    forth : In w found → IsTarget (take (i + 1) edges) v set w
    forth m = target_before edges v set i d at w ((targets w).0 m)

    back : IsTarget (take (i + 1) edges) v set w → In w found
    back t = elim (target_here edges v set i d at w t) [
      | inl h ↦ absurd (elsewhere h.0)
      | inr p ↦ (targets w).1 p
    ]

-- whether a node lies on a circle, by the set of those that are reached from it
pub circle_exactly : (spec : Spec) (v : ℕ) (set : List ℕ) → ((w : ℕ) → In w set ↔ Reaches spec v w) → (has set v ≡ true) ↔ LiesOnCircle spec v
circle_exactly spec v set h =
    ((λ e. reaches_circle spec v ((h v).0 (in_has set v e))), (λ on. has_in set v ((h v).1 (circle_reaches spec v on))))
