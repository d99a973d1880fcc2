-- A contraction leaves a graph: one root, no circle, and an edge into each other node.
use Rattle.std.proofs.Common.{◌≡◌, ◌==◌, ℕ, zero, suc, ◌+◌, ◌-◌, ◌<◌, Bool, true, false, cond, if◌then◌else◌, nat_lt, List, [], ◌∷◌, Some, get_or, length, refl, sym, ap, ◌∙◌, subst, ◌⊎◌, inl, inr, arith}
use Rattle.rc_inline.proofs.Imports.{count_by, remove, eq-eqb, eqb-true, eqb-false, ne_eqb, sum_by-cons, In, in_map, map_in, Edge, Spec, IsSealed, HasEdgeInto, HasEdgeOutOf, IsRoot, KeepsA1, KeepsA2, bound, edge_at, no_edge, IsCircle, IsWalk, LiesOn, LiesOnCircle, edge_at_in, contracted, first_inlinable, rejoined, renumbered, in_removed, others_fail}
use Rattle.rc_inline.proofs.BackLemmas.{before, before_other, before_renumbered, before_within, renumbered_before}
use Rattle.rc_inline.proofs.ContractionLemmas.{among, apart, found_known, left, one_in, one_out}
use Rattle.rc_inline.proofs.KeptLemmas.{bound_kept}

-- an element is the one that goes, or one of those that are left
gone_or_left : {A : Type 0} (xs : List A) (i : ℕ) (d x : A) → In x xs → (x ≡ get_or xs i d) ⊎ In x (remove xs i)
gone_or_left [] i d x m = absurd m
gone_or_left (y ∷ ys) zero d x m = m
gone_or_left (y ∷ ys) (suc i) d x (inl q) = inr (inl q)
gone_or_left (y ∷ ys) (suc i) d x (inr m) = elim (gone_or_left ys i d x m) [ inl q ↦ inl q | inr n ↦ inr (inr n) ]

-- where one element passes a test, it stands somewhere
place_of_one : {A : Type 0} (p : A → Bool) (xs : List A) (d : A) → count_by p xs ≡ 1 → (i : ℕ) × (i < length xs) × (p (get_or xs i d) ≡ true)
place_of_one p [] d one = absurd (omega (arith, one))
place_of_one p (y ∷ ys) d one = go (p y) refl (sym (sum_by-cons (λ x. cond (p x) 1 0) y ys) ∙ one) (place_of_one p ys d)
  where
    go : (b : Bool) → p y ≡ b → cond b 1 0 + count_by p ys ≡ 1
        → (count_by p ys ≡ 1 → (i : ℕ) × (i < length ys) × (p (get_or ys i d) ≡ true))
        → (i : ℕ) × (i < length (y ∷ ys)) × (p (get_or (y ∷ ys) i d) ≡ true)
    go true is whole rest = (0, omega arith, is)
    go false is whole rest = let r = rest (omega (arith, whole)) in let l = r.1 in (suc r.0, omega (arith, l), r.2)

pub renumbered_root : (gone : ℕ) → renumbered gone 0 ≡ 0
renumbered_root gone = go (nat_lt gone 0)
  where
    go : (b : Bool) → (if b then 0 - 1 else 0) ≡ 0
    go true = refl
    go false = refl

before_suc : (gone k : ℕ) → before gone (suc k) ≡ 0 → ⊥
before_suc gone k = go (nat_lt (suc k) gone)
  where
    go : (b : Bool) → (if b then suc k else suc k + 1) ≡ 0 → ⊥
    go true e = omega (arith, e)
    go false e = omega (arith, e)

module _ (spec : Spec) (f : ℕ) (sealed : IsSealed spec) (found : first_inlinable spec ≡ Some f) where
  abbrev gone : Edge
  gone = edge_at spec f

  abbrev w : ℕ
  w = gone.from

  abbrev stay : List Edge
  stay = remove spec.edges f

  -- the one edge that leads to the node that goes
  pub entering : (i : ℕ) × (i < length spec.edges) × (i ≡ f → ⊥) × ((edge_at spec i).to ≡ (edge_at spec f).from)
  entering =
      let at = place_of_one (λ (e : Edge). e.to == w) spec.edges no_edge (one_in spec f sealed found) in
      let leads = eqb-true (edge_at spec at.0).to w at.2 in
      (at.0, at.1, (λ same. apart spec f sealed found (ap (λ n. (edge_at spec n).to) (sym same) ∙ leads)), leads)

  root : IsRoot spec 0
  root = let l = (among spec f sealed found).from in sealed.accepted.adequate.a1 0 (omega (arith, l))

  pub not_root : (edge_at spec f).from ≡ 0 → ⊥
  not_root e = root.no_edge_in (edge_at spec entering.0, edge_at_in spec entering.0 entering.1, entering.3 ∙ e)

  gone_in : In gone spec.edges
  gone_in = edge_at_in spec f (found_known spec f sealed found)

  -- another edge begins elsewhere
  elsewhere : (e : Edge) → In e stay → e.from ≡ w → ⊥
  elsewhere e m =
      eqb-false e.from w (others_fail (λ (e : Edge). e.from == w) spec.edges f no_edge (found_known spec f sealed found) (eq-eqb w w refl) (one_out spec f sealed found) e m)

  from_before : (e : Edge) → In e stay → before w (renumbered w e.from) ≡ e.from
  from_before e m = before_renumbered w e.from (elsewhere e m)

  node_before : (v : ℕ) → v < length (contracted spec f).nodes → before w v < length spec.nodes
  node_before v l =
      let last = before_within w v (length (remove spec.nodes w)) l in
      let count = left spec f sealed found in
      omega (arith, last, count)

  -- ---- A1

  -- an edge that led elsewhere leads there still
  led : (e : Edge) (v : ℕ) → In e stay → e.to ≡ before w v → HasEdgeInto (contracted spec f) v
  led e v m to = (
    rejoined gone e,
    map_in (rejoined gone) e stay m,
    ap (λ b. renumbered w (if b then gone.to else e.to)) (ne_eqb e.to w (λ q. before_other w v (sym to ∙ q)))
        ∙ ap (renumbered w) to ∙ renumbered_before w v,
  )

  -- the edge that led to the node that goes leads where the edge led that goes
  led_by : (v : ℕ) → gone.to ≡ before w v → HasEdgeInto (contracted spec f) v
  led_by v to = (
    rejoined gone e,
    map_in (rejoined gone) e stay stays,
    ap (λ b. renumbered w (if b then gone.to else e.to)) (eq-eqb e.to w entering.3)
        ∙ ap (renumbered w) to ∙ renumbered_before w v,
  )
    where
      e : Edge
      e = edge_at spec entering.0

      stays : In e stay
      stays = elim (gone_or_left spec.edges f no_edge e (edge_at_in spec entering.0 entering.1)) [
        | inl q ↦ absurd (apart spec f sealed found (ap (λ (e : Edge). e.to) (sym q) ∙ entering.3))
        | inr m ↦ m
      ]

  into : (v : ℕ) → HasEdgeInto spec (before w v) → HasEdgeInto (contracted spec f) v
  into v (e, m, to) = elim (gone_or_left spec.edges f no_edge e m) [
    | inl q ↦ led_by v (ap (λ (e : Edge). e.to) (sym q) ∙ to)
    | inr n ↦ led e v n to
  ]

  entered : (n : ℕ) → (n ≡ 0 → ⊥) → n < length spec.nodes → HasEdgeInto spec n
  entered zero other l = absurd (other refl)
  entered (suc n) other l = sealed.accepted.adequate.a1 (suc n) l

  root_renumbered : (n : ℕ) → (n ≡ w → ⊥) → renumbered w n ≡ 0 → n ≡ 0
  root_renumbered n other e =
      sym (before_renumbered w n other) ∙ ap (before w) e ∙ ap (before w) (sym (renumbered_root w))
      ∙ before_renumbered w 0 (λ q. not_root (sym q))

  none_into_root : (e : Edge) → In e stay → (rejoined gone e).to ≡ 0 → ⊥
  none_into_root e m = go (e.to == w) refl
    where
      go : (b : Bool) → (e.to == w) ≡ b → renumbered w (if b then gone.to else e.to) ≡ 0 → ⊥
      go true is to = root.no_edge_in (gone, gone_in, root_renumbered gone.to (apart spec f sealed found) to)
      go false is to = root.no_edge_in (e, in_removed spec.edges f e m, root_renumbered e.to (eqb-false e.to w is) to)

  out_of_root : HasEdgeOutOf spec 0 → HasEdgeOutOf (contracted spec f) 0
  out_of_root (e, m, from) = elim (gone_or_left spec.edges f no_edge e m) [
    | inl q ↦ absurd (not_root (ap (λ (e : Edge). e.from) (sym q) ∙ from))
    | inr n ↦ (rejoined gone e, map_in (rejoined gone) e stay n, ap (renumbered w) from ∙ renumbered_root w)
  ]

  root_kept : IsRoot (contracted spec f) 0
  root_kept = record {
    nothing =
        subst (λ n. bound (contracted spec f) n ≡ []) (renumbered_root w)
        (bound_kept spec f sealed found 0 (λ q. not_root (sym q)) ∙ root.nothing);
    no_edge_in = λ h.
        let from = in_map (rejoined gone) h.0 stay h.1 in
        none_into_root from.0 from.1 (ap (λ (e : Edge). e.to) (sym from.2) ∙ h.2);
    edge_out = out_of_root root.edge_out;
  }

  pub a1_kept : (v : ℕ) → v < length (contracted spec f).nodes → KeepsA1 (contracted spec f) v
  a1_kept zero l = root_kept
  a1_kept (suc v) l = into (suc v) (entered (before w (suc v)) (before_suc w v) (node_before (suc v) l))

  -- ---- A2

  -- a walk between the nodes as they were, on which lies what lies on the other
  abbrev HasWalkBefore : ℕ → ℕ → List Edge → Type 0
  HasWalkBefore u v es = (old : List Edge) × IsWalk spec (before w u) (before w v) old × ((n : ℕ) → LiesOn n es → LiesOn (before w n) old)

  step_back : (u v : ℕ) (es : List Edge) (e : Edge) → In e stay → (rejoined gone e).from ≡ u → HasWalkBefore (rejoined gone e).to v es
      → HasWalkBefore u v (rejoined gone e ∷ es)
  step_back u v es e m from = go (e.to == w) refl
    where
      begins : e.from ≡ before w u
      begins = sym (from_before e m) ∙ ap (before w) from

      first : (n : ℕ) (x : Edge) → x ≡ rejoined gone e → x.from ≡ n → e.from ≡ before w n
      first n x p q = sym (from_before e m) ∙ ap (before w) (ap (λ (e : Edge). e.from) (sym p) ∙ q)

      lies : (old : List Edge) → ((n : ℕ) → LiesOn n es → LiesOn (before w n) old) → (n : ℕ) → LiesOn n (rejoined gone e ∷ es) → LiesOn (before w n) (e ∷ old)
      lies old rest n (x, inl p, q) = (e, inl refl, first n x p q)
      lies old rest n (x, inr k, q) = let there = rest n (x, k, q) in (there.0, inr there.1, there.2)

      further : (old : List Edge) → ((n : ℕ) → LiesOn n es → LiesOn (before w n) old) → (n : ℕ) → LiesOn n es → LiesOn (before w n) (gone ∷ old)
      further old rest n k = let there = rest n k in (there.0, inr there.1, there.2)

      go : (b : Bool) → (e.to == w) ≡ b → HasWalkBefore (renumbered w (if b then gone.to else e.to)) v es → HasWalkBefore u v (rejoined gone e ∷ es)
      go true is (old, walk, rest) = (
        e ∷ gone ∷ old,
        (
          in_removed spec.edges f e m,
          begins,
          (
            gone_in,
            sym (eqb-true e.to w is),
            subst (λ n. IsWalk spec n (before w v) old) (before_renumbered w gone.to (apart spec f sealed found)) walk,
          ),
        ),
        lies (gone ∷ old) (further old rest),
      )
      go false is (old, walk, rest) = (
        e ∷ old,
        (
          in_removed spec.edges f e m,
          begins,
          subst (λ n. IsWalk spec n (before w v) old) (before_renumbered w e.to (eqb-false e.to w is)) walk,
        ),
        lies old rest,
      )

  walk_back : (u v : ℕ) (es : List Edge) → IsWalk (contracted spec f) u v es → HasWalkBefore u v es
  walk_back u v [] end = ([], ap (before w) end, λ n h. absurd h.1)
  walk_back u v (e ∷ es) walk =
      let from = in_map (rejoined gone) e stay walk.0 in
      subst (λ (e : Edge). e.from ≡ u → HasWalkBefore e.to v es → HasWalkBefore u v (e ∷ es)) (sym from.2)
      (step_back u v es from.0 from.1) walk.1 (walk_back e.to v es walk.2)

  -- a walk that ends where it begins, and on which a node lies, is a circle
  closed : (u n : ℕ) (es : List Edge) → IsWalk spec u u es → LiesOn n es → IsCircle spec es
  closed u n [] walk on = absurd on.1
  closed u n (e ∷ es) walk on = (walk.0, refl, subst (λ k. IsWalk spec e.to k es) (sym walk.1) walk.2)

  circle_back : (v : ℕ) (es : List Edge) → IsCircle (contracted spec f) es → LiesOn v es → LiesOnCircle spec (before w v)
  circle_back v [] circle on = absurd circle
  circle_back v (e ∷ es) circle on =
      let back = walk_back e.from e.from (e ∷ es) circle in
      (back.0, closed (before w e.from) (before w v) back.0 back.1 (back.2 v on), back.2 v on)

  pub a2_kept : (v : ℕ) → v < length (contracted spec f).nodes → KeepsA2 (contracted spec f) v
  a2_kept v l h = sealed.accepted.adequate.a2 (before w v) (node_before v l) (circle_back v h.0 h.1 h.2)
