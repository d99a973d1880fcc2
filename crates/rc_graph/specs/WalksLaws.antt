-- Laws of walks and circles.
use Rattle.std.specs.Prelude.{◌≡◌, ℕ, List, [], ◌∷◌, ◌++◌, ◌⊎◌}
use Rattle.std.proofs.Common.{inl, inr, refl, sym, ap, subst, ◌∙◌}
use Rattle.rc_tuple.specs.RisingSet.{In}
use Rattle.rc_spec.specs.declared.items.Edge.{Edge}
use Rattle.rc_spec.specs.declared.spec.Spec.{Spec}
use Rattle.rc_spec.specs.Decomposition.{IsWalk, IsCircle, LiesOn, LiesOnCircle}
use Rattle.rc_graph.specs.Walks.{Reaches}

pub walk_append : (spec : Spec) (u v w : ℕ) (xs ys : List Edge) → IsWalk spec u v xs → IsWalk spec v w ys → IsWalk spec u w (xs ++ ys)
walk_append spec u v w [] ys h k = subst (λ z. IsWalk spec z w ys) (sym h) k
walk_append spec u v w (e ∷ xs) ys h k = (h.0, h.1, walk_append spec e.to v w xs ys h.2 k)

-- a walk over a node, in two parts
pub walk_split : (spec : Spec) (u v w : ℕ) (es : List Edge) → IsWalk spec u w es → LiesOn v es → ((before : List Edge) × IsWalk spec u v before) × Reaches spec v w
walk_split spec u v w [] h on = absurd on.1
walk_split spec u v w (e ∷ es) h on = go on.1 (λ m. walk_split spec e.to v w es h.2 (on.0, m, on.2))
  where
    go : (on.0 ≡ e) ⊎ In on.0 es → (In on.0 es → ((before : List Edge) × IsWalk spec e.to v before) × Reaches spec v w)
        → ((before : List Edge) × IsWalk spec u v before) × Reaches spec v w
    go (inl q) later =
        let here : u ≡ v = sym h.1 ∙ (ap (λ (d : Edge). d.from) (sym q) ∙ on.2) in
        (([], here), (e, es, subst (λ z. IsWalk spec z w (e ∷ es)) here h))
    go (inr m) later =
        let parts : ((before : List Edge) × IsWalk spec e.to v before) × Reaches spec v w = later m in
        ((e ∷ parts.0.0, (h.0, h.1, parts.0.1)), parts.1)

-- ---- what is reached

pub reaches_one : (spec : Spec) (e : Edge) → In e spec.edges → Reaches spec e.from e.to
reaches_one spec e m = (e, [], (m, refl, refl))

pub reaches_more : (spec : Spec) (u : ℕ) (e : Edge) → In e spec.edges → Reaches spec u e.from → Reaches spec u e.to
reaches_more spec u e m r = (r.0, r.1 ++ e ∷ [], walk_append spec u e.from e.to (r.0 ∷ r.1) (e ∷ []) r.2 (m, refl, refl))

pub reaches_before : (spec : Spec) (w : ℕ) (e : Edge) → In e spec.edges → Reaches spec e.to w → Reaches spec e.from w
reaches_before spec w e m r = (e, r.0 ∷ r.1, (m, refl, r.2))

-- a set that no edge leaves holds the end of each walk that begins in it
pub walk_inside : (spec : Spec) (set : List ℕ) → ((e : Edge) → In e spec.edges → In e.from set → In e.to set)
    → (u w : ℕ) (es : List Edge) → IsWalk spec u w es → In u set → In w set
walk_inside spec set closed u w [] h m = subst (λ z. In z set) h m
walk_inside spec set closed u w (e ∷ es) h m = walk_inside spec set closed e.to w es h.2 (closed e h.0 (subst (λ z. In z set) (sym h.1) m))

-- ---- circles

-- a circle begins at each node that lies on it
pub circle_reaches : (spec : Spec) (v : ℕ) → LiesOnCircle spec v → Reaches spec v v
circle_reaches spec v on = go on.0 on.1 on.2
  where
    go : (es : List Edge) → IsCircle spec es → LiesOn v es → Reaches spec v v
    go [] circle on = absurd circle
    go (e ∷ es) circle on =
        let parts : ((before : List Edge) × IsWalk spec e.from v before) × Reaches spec v e.from = walk_split spec e.from v e.from (e ∷ es) circle on in
        (parts.1.0, parts.1.1 ++ parts.0.0, walk_append spec v e.from v (parts.1.0 ∷ parts.1.1) parts.0.0 parts.1.2 parts.0.1)

pub reaches_circle : (spec : Spec) (v : ℕ) → Reaches spec v v → LiesOnCircle spec v
reaches_circle spec v r =
    let here : r.0.from ≡ v = r.2.1 in
    (r.0 ∷ r.1, subst (λ z. IsWalk spec z z (r.0 ∷ r.1)) (sym here) r.2, (r.0, inl refl, here))
