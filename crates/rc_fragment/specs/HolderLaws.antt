-- What the fragments of one relation are to a reader of containers.
use Rattle.std.specs.Prelude.{◌≡◌, ℕ, suc, ◌<◌, ◌≤◌, ◌^◌, Bool, true, false, cond, List, [], ◌∷◌, length, filter}
use Rattle.rc_fragment.specs.Imports.{nat_cmp, In, IsRising, get_or_in, Within, union, in_union, union_left, union_right, rising_range, Pairs, cols_of, project, pair_cmp, tuple_eq, cols-project, project_by, project-project, test_from_same, IsRelation, Satisfies, rising_of, IsSealed, IsAdequate, KeepsA3, KeepsA4, KeepsA5, all_columns, how_many, holds_on, target_within, bound, node_at, no_node, edge_at, source_and_key, EdgeRow, fragment_of, edge_at_in, IsEdgeRow, in_all_rows, in_fragments, IsInRange, Singleton, Spec}
use Rattle.std.proofs.Common.{refl, sym, ap, subst, ◌∙◌, inl, inr, arith}
use Rattle.std.proofs.lemmas.Bool.{false≢true}
use Rattle.rc_fragment.specs.Holder.{HeldStripe, AreGoodRows, AreOfRelation, AreReadable}

-- the fragments of one relation are good, and keyed over all stripes
abbrev pub FragmentsAreReadable : Type 0
FragmentsAreReadable = (spec : Spec) → IsSealed spec → (held : List HeldStripe) (r : List Pairs) → AreOfRelation spec held r → AreReadable spec held

-- ---- projections

-- tuples with the same projections on xs and on ys have one on both
project-union : (xs ys : List ℕ) (t u : Pairs) → IsRising pair_cmp t → IsRising pair_cmp u → project xs t ≡ project xs u → project ys t ≡ project ys u → project (union xs ys) t ≡ project (union xs ys) u
project-union xs ys t u a b e f = project_by (union xs ys) t u a b (λ c m. elim (in_union xs ys c m) [ inl x ↦ (xs, x, e) | inr y ↦ (ys, y, f) ])

-- ---- counts

how_many_le : (xs : List ℕ) (r : List Pairs) (row : Pairs) → how_many xs r row ≤ length r
how_many_le xs [] row = omega arith
how_many_le xs (t ∷ r) row = go (tuple_eq (project xs t) row) (how_many_le xs r row)
  where
    go : (b : Bool) → how_many xs r row ≤ length r → length (cond b (t ∷ filter (λ t. tuple_eq (project xs t) row) r) (filter (λ t. tuple_eq (project xs t) row) r)) ≤ suc (length r)
    go true h = omega arith
    go false h = omega arith

how_many_some : (xs : List ℕ) (r : List Pairs) (t row : Pairs) → In t r → row ≡ project xs t → 0 < how_many xs r row
how_many_some xs [] t row m e = absurd m
how_many_some xs (u ∷ r) t row m e = go (tuple_eq (project xs u) row) refl m (λ n. how_many_some xs r t row n e)
  where
    go : (b : Bool) → tuple_eq (project xs u) row ≡ b → In t (u ∷ r) → (In t r → 0 < how_many xs r row)
        → 0 < length (cond b (u ∷ filter (λ t. tuple_eq (project xs t) row) r) (filter (λ t. tuple_eq (project xs t) row) r))
    go true q n ih = omega arith
    go false q (inl p) ih = absurd (false≢true (sym q ∙ test_from_same (project xs u) row (ap (project xs) (sym p) ∙ sym e)))
    go false q (inr n) ih = ih n

-- ---- the rows of a relation that satisfies the dependencies

module _ (spec : Spec) (sealed : IsSealed spec) (r : List Pairs) (i : IsRelation (all_columns spec) r) (h : Satisfies r spec.deps) where
  range : IsInRange spec
  range = sealed.in_range

  adequate : IsAdequate spec
  adequate = sealed.accepted.adequate

  -- rows of one edge whose tuples agree on source and key are one
  same_by_key : (v w : EdgeRow) → IsEdgeRow spec r v → IsEdgeRow spec r w → v.0 ≡ w.0 → project (bound spec (edge_at spec v.0).from) v.1 ≡ project (bound spec (edge_at spec v.0).from) w.1
      → project (edge_at spec v.0).key v.1 ≡ project (edge_at spec v.0).key w.1 → v ≡ w
  same_by_key v w a b e s k =
      let T : List ℕ = bound spec (edge_at spec v.0).to in
      let S : List ℕ = bound spec (edge_at spec v.0).from in
      let K : List ℕ = (edge_at spec v.0).key in
      let a3 : KeepsA3 spec (edge_at spec v.0) = adequate.a3 v.0 a.edge in
      let a4 : KeepsA4 spec (edge_at spec v.0) = adequate.a4 v.0 a.edge in
      let t : Pairs = a.projected.0 in
      let u : Pairs = b.projected.0 in
      let vt : v.1 ≡ project T t = a.projected.2 in
      let wu : w.1 ≡ project T u = b.projected.2 ∙ ap (λ z. project (bound spec (edge_at spec z).to) u) (sym e) in
      let insideS : Within S T = λ c m. a3.inside c (union_left S K c m) in
      let insideK : Within K T = λ c m. a3.inside c (union_right S K c m) in
      let ps : project S t ≡ project S u = sym (ap (project S) vt ∙ project-project S T t insideS) ∙ s ∙ ap (project S) wu ∙ project-project S T u insideS in
      let pk : project K t ≡ project K u = sym (ap (project K) vt ∙ project-project K T t insideK) ∙ k ∙ ap (project K) wu ∙ project-project K T u insideK in
      let rise : (z : Pairs) → In z r → IsRising pair_cmp z = rising_of (all_columns spec) r (rising_range 0 (length spec.columns)) i in
      let both : project (source_and_key spec (edge_at spec v.0)) t ≡ project (source_and_key spec (edge_at spec v.0)) u =
      project-union S K t u (rise t a.projected.1) (rise u b.projected.1) ps pk in
      let inT : Within T (all_columns spec) = target_within spec range v.0 a.edge in
      let pt : project T t ≡ project T u = holds_on spec range adequate r i h (source_and_key spec (edge_at spec v.0)) T (λ c m. inT c (a3.inside c m)) inT a4 t u a.projected.1 b.projected.1 both in
      let rows : v.1 ≡ w.1 = vt ∙ pt ∙ sym wu in
      let counts : v.2 ≡ w.2 = a.count ∙ ap (how_many T r) rows ∙ ap (λ z. how_many (bound spec (edge_at spec z).to) r w.1) e ∙ sym b.count in
      λ j. (e j, rows j, counts j)

  same_by_source : (v w : EdgeRow) → IsEdgeRow spec r v → IsEdgeRow spec r w → v.0 ≡ w.0 → (edge_at spec v.0).kind ≡ Singleton
      → project (bound spec (edge_at spec v.0).from) v.1 ≡ project (bound spec (edge_at spec v.0).from) w.1 → v ≡ w
  same_by_source v w a b e kind s =
      let T : List ℕ = bound spec (edge_at spec v.0).to in
      let S : List ℕ = bound spec (edge_at spec v.0).from in
      let K : List ℕ = (edge_at spec v.0).key in
      let a3 : KeepsA3 spec (edge_at spec v.0) = adequate.a3 v.0 a.edge in
      let a5 : KeepsA5 spec (edge_at spec v.0) = adequate.a5 v.0 a.edge in
      let t : Pairs = a.projected.0 in
      let u : Pairs = b.projected.0 in
      let vt : v.1 ≡ project T t = a.projected.2 in
      let wu : w.1 ≡ project T u = b.projected.2 ∙ ap (λ z. project (bound spec (edge_at spec z).to) u) (sym e) in
      let insideS : Within S T = λ c m. a3.inside c (union_left S K c m) in
      let insideK : Within K T = λ c m. a3.inside c (union_right S K c m) in
      let ps : project S t ≡ project S u = sym (ap (project S) vt ∙ project-project S T t insideS) ∙ s ∙ ap (project S) wu ∙ project-project S T u insideS in
      let inT : Within T (all_columns spec) = target_within spec range v.0 a.edge in
      let pk : project K t ≡ project K u = holds_on spec range adequate r i h S K (λ c m. inT c (insideS c m)) (λ c m. inT c (insideK c m)) (a5.singleton kind) t u a.projected.1 b.projected.1 ps in
      let k : project K v.1 ≡ project K w.1 = ap (project K) vt ∙ project-project K T t insideK ∙ pk ∙ sym (ap (project K) wu ∙ project-project K T u insideK) in
      same_by_key v w a b e s k

  good_rows : (stripe : ℕ) → length r < 2 ^ 63 → AreGoodRows spec stripe (fragment_of spec r stripe)
  good_rows stripe few = record {
    edge = λ w m. (row w m).edge;
    own_stripe = λ w m. elim (in_fragments spec r (stripe ∷ []) w m).1 [ inl e ↦ e | inr z ↦ absurd z ];
    columns = λ w m.
        let q : IsEdgeRow spec r w = row w m in
        let T : List ℕ = bound spec (edge_at spec w.0).to in
        ap cols_of q.projected.2 ∙ cols-project (all_columns spec) T q.projected.0 (rising_range 0 (length spec.columns)) (target_rising w q) (target_within spec range w.0 q.edge) (i.each q.projected.0 q.projected.1).over;
    counted = λ w m.
        let q : IsEdgeRow spec r w = row w m in
        let T : List ℕ = bound spec (edge_at spec w.0).to in
        let a : 0 < how_many T r w.1 = how_many_some T r q.projected.0 w.1 q.projected.1 q.projected.2 in
        let b : how_many T r w.1 ≤ length r = how_many_le T r w.1 in
        let e : w.2 ≡ how_many T r w.1 = q.count in
        (omega arith, omega arith);
  }
    where
      row : (w : EdgeRow) → In w (fragment_of spec r stripe) → IsEdgeRow spec r w
      row w m = in_all_rows spec r w (in_fragments spec r (stripe ∷ []) w m).0

      target_rising : (w : EdgeRow) → IsEdgeRow spec r w → IsRising nat_cmp (bound spec (edge_at spec w.0).to)
      target_rising w q =
          let l : (edge_at spec w.0).to < length spec.nodes = (range.known_edges (edge_at spec w.0) (edge_at_in spec w.0 q.edge)).to in
          (range.known_nodes (node_at spec (edge_at spec w.0).to) (get_or_in spec.nodes (edge_at spec w.0).to no_node l)).set.rising

pub readable_law : FragmentsAreReadable
readable_law spec sealed held r o = record {
  good = λ h m. subst (AreGoodRows spec h.stripe) (sym (o.rows h m)) (good_rows spec sealed r o.relation o.satisfies h.stripe o.few);
  keyed = λ g h m n v w a b.
      let p : IsEdgeRow spec r v = in_all_rows spec r v (in_fragments spec r (g.stripe ∷ []) v (subst (In v) (o.rows g m) a)).0 in
      let q : IsEdgeRow spec r w = in_all_rows spec r w (in_fragments spec r (h.stripe ∷ []) w (subst (In w) (o.rows h n) b)).0 in
      record { by_key = same_by_key spec sealed r o.relation o.satisfies v w p q; single = same_by_source spec sealed r o.relation o.satisfies v w p q };
}
