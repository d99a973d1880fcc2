-- Laws of fragments: the fragments of all stripes hold all rows, and represent the relation.
use Rattle.std.specs.Prelude.{◌≡◌, ℕ, ◌+◌, ◌<◌, ◌≤◌, true, List, [], ◌∷◌, ◌==◌, length, map}
use Rattle.rc_spec.specs.Imports.{filter, flat_map, Equal, nat_cmp, ordering_then, In, IsRising, gather, IsOrder, same_rising, rising_gather, rising_filter, in_gather, gather_in, in_filter, filter_in, filter-filter, in_map, map_in, in_flat_map, flat_map_in, nat_order, in_has, has_in, has, in_range_bounds, in_range_below, Pairs, project, tuple_cmp, then_equal, tuple_order}
use Rattle.std.proofs.Common.{inl, inr, refl, sym, ap, subst, ◌∙◌, arith}
use Rattle.std.proofs.lemmas.Bool.{eqb-true, eq-eqb}
use Rattle.std.proofs.lemmas.Cmp.{nat_cmp_total, then_total, on_total}
use Rattle.rc_spec.specs.declared.spec.Spec.{Spec}
use Rattle.rc_spec.specs.Contents.{CountedTuple, projections, how_many, content}
use Rattle.rc_spec.specs.ContentsLaws.{rows_represent}
use Rattle.rc_spec.specs.Decomposition.{bound, edge_at}
use Rattle.rc_spec.specs.Fragments.{EdgeRow, edge_row_cmp, edge_numbers, numbered_rows, all_rows, tuples_of_edge, row_stripe, rows_on, fragment_of, all_stripes}
use Rattle.rc_spec.specs.HeathLaws.{AreProjections}
use Rattle.rc_spec.specs.InRange.{IsInRange}
use Rattle.rc_spec.specs.Laws.{EmptyHasNoRows, StripesHoldAll, FragmentsAreParts, FragmentsArePieces, InstancesRepresent}
use Rattle.rc_spec.specs.Placement.{class_of, IsPlaced}
use Rattle.rc_spec.specs.PlacementLaws.{class_of_known, physical_stripe_below}
use Rattle.rc_spec.specs.Stripes.{stripe_total}

-- ---- the order of rows

edge_row_ties : (v w : EdgeRow) → edge_row_cmp v w ≡ Equal → v ≡ w
edge_row_ties v w e =
    let f : (nat_cmp v.0 w.0 ≡ Equal) × (ordering_then (tuple_cmp v.1 w.1) (nat_cmp v.2 w.2) ≡ Equal) = then_equal (nat_cmp v.0 w.0) (ordering_then (tuple_cmp v.1 w.1) (nat_cmp v.2 w.2)) e in
    let g : (tuple_cmp v.1 w.1 ≡ Equal) × (nat_cmp v.2 w.2 ≡ Equal) = then_equal (tuple_cmp v.1 w.1) (nat_cmp v.2 w.2) f.1 in
    let a : v.0 ≡ w.0 = nat_order.ties v.0 w.0 f.0 in
    let b : v.1 ≡ w.1 = tuple_order.ties v.1 w.1 g.0 in
    let c : v.2 ≡ w.2 = nat_order.ties v.2 w.2 g.1 in λ i. (a i, b i, c i)

pub edge_row_order : IsOrder edge_row_cmp
edge_row_order = record {
  total = then_total (on_total (λ (w : EdgeRow). w.0) nat_cmp_total) (then_total (on_total (λ (w : EdgeRow). w.1) tuple_order.total) (on_total (λ (w : EdgeRow). w.2) nat_cmp_total));
  ties = edge_row_ties;
}

-- ---- all rows by their members

-- a row of an edge's content: the projection of some tuple, and how many project onto it
pub record IsEdgeRow (spec : Spec) (r : List Pairs) (row : EdgeRow) : Type 0 where
  pub edge : row.0 < length spec.edges
  pub projected : (t : Pairs) × In t r × (row.1 ≡ project (bound spec (edge_at spec row.0).to) t)
  pub count : row.2 ≡ how_many (bound spec (edge_at spec row.0).to) r row.1

pub in_all_rows : (spec : Spec) (r : List Pairs) (w : EdgeRow) → In w (all_rows spec r) → IsEdgeRow spec r w
in_all_rows spec r w h =
    let q : (e : ℕ) × In e (edge_numbers spec) × In w (numbered_rows spec r e) =
    in_flat_map (numbered_rows spec r) w (edge_numbers spec) (in_gather edge_row_cmp edge_row_order w (flat_map (numbered_rows spec r) (edge_numbers spec)) h) in
    let xs : List ℕ = bound spec (edge_at spec q.0).to in
    let m : (x : CountedTuple) × In x (content spec r (edge_at spec q.0)) × (w ≡ (q.0, x.0, x.1)) = in_map (λ (x : CountedTuple). (q.0, x.0, x.1)) w (content spec r (edge_at spec q.0)) q.2 in
    let y : (x : Pairs) × In x (projections xs r) × (m.0 ≡ (x, how_many xs r x)) = in_map (λ row. (row, how_many xs r row)) m.0 (projections xs r) m.1 in
    let c : (t : Pairs) × In t r × (y.0 ≡ project xs t) = in_map (project xs) y.0 r (in_gather tuple_cmp tuple_order y.0 (map (project xs) r) y.1) in
    let w_is : w ≡ (q.0, y.0, how_many xs r y.0) = m.2 ∙ ap (λ (x : CountedTuple). (q.0, x.0, x.1)) y.2 in
    let e : w.0 ≡ q.0 = ap (λ (x : EdgeRow). x.0) w_is in
    let f : w.1 ≡ y.0 = ap (λ (x : EdgeRow). x.1) w_is in
    let n : (0 ≤ q.0) × (q.0 < 0 + length spec.edges) = in_range_bounds 0 (length spec.edges) q.0 q.1 in
    record {
      edge = omega (arith, e, n.1);
      projected = (c.0, c.1, f ∙ c.2 ∙ ap (λ z. project (bound spec (edge_at spec z).to) c.0) (sym e));
      count = ap (λ (x : EdgeRow). x.2) w_is ∙ ap (λ z. how_many (bound spec (edge_at spec z).to) r y.0) (sym e) ∙ ap (how_many (bound spec (edge_at spec w.0).to) r) (sym f);
    }

pub all_rows_in : (spec : Spec) (r : List Pairs) (e : ℕ) (t : Pairs) → e < length spec.edges → In t r
    → In (e, project (bound spec (edge_at spec e).to) t, how_many (bound spec (edge_at spec e).to) r (project (bound spec (edge_at spec e).to) t)) (all_rows spec r)
all_rows_in spec r e t l h =
    let xs : List ℕ = bound spec (edge_at spec e).to in
    let row : Pairs = project xs t in
    gather_in edge_row_cmp edge_row_order (e, row, how_many xs r row) (flat_map (numbered_rows spec r) (edge_numbers spec))
    (flat_map_in (numbered_rows spec r) (e, row, how_many xs r row) e (edge_numbers spec) (in_range_below (length spec.edges) e l)
    (map_in (λ (x : CountedTuple). (e, x.0, x.1)) (row, how_many xs r row) (content spec r (edge_at spec e))
    (map_in (λ row. (row, how_many xs r row)) row (projections xs r)
    (gather_in tuple_cmp tuple_order row (map (project xs) r) (map_in (project xs) t r h)))))

pub rising_all_rows : (spec : Spec) (r : List Pairs) → IsRising edge_row_cmp (all_rows spec r)
rising_all_rows spec r = rising_gather edge_row_cmp edge_row_order (flat_map (numbered_rows spec r) (edge_numbers spec))

-- ---- the tuples of an edge

pub in_tuples_of_edge : (e : ℕ) (ws : List EdgeRow) (u : Pairs) → In u (tuples_of_edge e ws) → (w : EdgeRow) × In w ws × (w.0 ≡ e) × (u ≡ w.1)
in_tuples_of_edge e ws u h =
    let q : (w : EdgeRow) × In w (filter (λ (w : EdgeRow). w.0 == e) ws) × (u ≡ w.1) = in_map (λ (w : EdgeRow). w.1) u (filter (λ (w : EdgeRow). w.0 == e) ws) h in
    let f : In q.0 ws × ((q.0.0 == e) ≡ true) = in_filter (λ (w : EdgeRow). w.0 == e) q.0 ws q.1 in
    (q.0, f.0, eqb-true q.0.0 e f.1, q.2)

pub tuples_of_edge_in : (e : ℕ) (ws : List EdgeRow) (w : EdgeRow) → In w ws → w.0 ≡ e → In w.1 (tuples_of_edge e ws)
tuples_of_edge_in e ws w h k = map_in (λ (w : EdgeRow). w.1) w (filter (λ (w : EdgeRow). w.0 == e) ws) (filter_in (λ (w : EdgeRow). w.0 == e) w ws h (eq-eqb w.0 e k))

-- in a list that has all rows and nothing else, they are the projections
pub AreProjections-rows : (spec : Spec) (r : List Pairs) (ws : List EdgeRow) → ((w : EdgeRow) → In w ws → In w (all_rows spec r)) → ((w : EdgeRow) → In w (all_rows spec r) → In w ws)
    → (e : ℕ) → e < length spec.edges → AreProjections r (bound spec (edge_at spec e).to) (tuples_of_edge e ws)
AreProjections-rows spec r ws only each e l = record {
  only = λ u h.
      let q : (w : EdgeRow) × In w ws × (w.0 ≡ e) × (u ≡ w.1) = in_tuples_of_edge e ws u h in
      let c : (t : Pairs) × In t r × (q.0.1 ≡ project (bound spec (edge_at spec q.0.0).to) t) = (in_all_rows spec r q.0 (only q.0 q.1)).projected in
      (c.0, c.1, q.3 ∙ c.2 ∙ ap (λ z. project (bound spec (edge_at spec z).to) c.0) q.2);
  each = λ t h.
      let xs : List ℕ = bound spec (edge_at spec e).to in
      let row : EdgeRow = (e, project xs t, how_many xs r (project xs t)) in
      tuples_of_edge_in e ws row (each row (all_rows_in spec r e t l h)) refl;
}

-- ---- fragments by their members

pub in_fragments : (spec : Spec) (r : List Pairs) (stripes : List ℕ) (w : EdgeRow) → In w (rows_on spec r stripes) → In w (all_rows spec r) × In (row_stripe spec w) stripes
in_fragments spec r stripes w h =
    let f : In w (all_rows spec r) × (has stripes (row_stripe spec w) ≡ true) = in_filter (λ (v : EdgeRow). has stripes (row_stripe spec v)) w (all_rows spec r) h in
    (f.0, in_has stripes (row_stripe spec w) f.1)

pub fragments_in : (spec : Spec) (r : List Pairs) (stripes : List ℕ) (w : EdgeRow) → In w (all_rows spec r) → In (row_stripe spec w) stripes → In w (rows_on spec r stripes)
fragments_in spec r stripes w h k = filter_in (λ (v : EdgeRow). has stripes (row_stripe spec v)) w (all_rows spec r) h (has_in stripes (row_stripe spec w) k)

pub rising_fragments : (spec : Spec) (r : List Pairs) (stripes : List ℕ) → IsRising edge_row_cmp (rows_on spec r stripes)
rising_fragments spec r stripes = rising_filter edge_row_cmp (λ (v : EdgeRow). has stripes (row_stripe spec v)) (all_rows spec r) (rising_all_rows spec r)

-- the rows of several fragments, one after the other
pub in_each_fragment : (spec : Spec) (r : List Pairs) (stripes : List ℕ) (w : EdgeRow) → In w (flat_map (fragment_of spec r) stripes) → In w (all_rows spec r) × In (row_stripe spec w) stripes
in_each_fragment spec r stripes w h =
    let q : (p : ℕ) × In p stripes × In w (fragment_of spec r p) = in_flat_map (fragment_of spec r) w stripes h in
    let f : In w (all_rows spec r) × In (row_stripe spec w) (q.0 ∷ []) = in_fragments spec r (q.0 ∷ []) w q.2 in
    (f.0, elim f.1 [ inl e ↦ subst (λ z. In z stripes) (sym e) q.1 | inr z ↦ absurd z ])

pub each_fragment_in : (spec : Spec) (r : List Pairs) (stripes : List ℕ) (w : EdgeRow) → In w (all_rows spec r) → In (row_stripe spec w) stripes → In w (flat_map (fragment_of spec r) stripes)
each_fragment_in spec r stripes w h k = flat_map_in (fragment_of spec r) w (row_stripe spec w) stripes k (fragments_in spec r (row_stripe spec w ∷ []) w h (inl refl))

-- each row of a well placed specification falls on one of its stripes
pub row_stripe_known : (spec : Spec) → IsInRange spec → IsPlaced spec → (r : List Pairs) (w : EdgeRow) → In w (all_rows spec r) → In (row_stripe spec w) (all_stripes spec)
row_stripe_known spec range placed r w h =
    let l : w.0 < length spec.edges = (in_all_rows spec r w h).edge in
    in_range_below (stripe_total spec) (row_stripe spec w) (physical_stripe_below spec (class_of spec w.0) w.1 placed (class_of_known spec w.0 range (placed.p1 w.0 l)))

-- ---- the laws

pub parts_law : FragmentsAreParts
parts_law spec r stripes =
    same_rising edge_row_cmp edge_row_order (gather edge_row_cmp (flat_map (fragment_of spec r) stripes)) (rows_on spec r stripes)
    (rising_gather edge_row_cmp edge_row_order (flat_map (fragment_of spec r) stripes)) (rising_fragments spec r stripes)
    (λ w h.
    let q : In w (all_rows spec r) × In (row_stripe spec w) stripes = in_each_fragment spec r stripes w (in_gather edge_row_cmp edge_row_order w (flat_map (fragment_of spec r) stripes) h) in
    fragments_in spec r stripes w q.0 q.1)
    (λ w h.
    let q : In w (all_rows spec r) × In (row_stripe spec w) stripes = in_fragments spec r stripes w h in
    gather_in edge_row_cmp edge_row_order w (flat_map (fragment_of spec r) stripes) (each_fragment_in spec r stripes w q.0 q.1))

pub pieces_law : FragmentsArePieces
pieces_law spec r stripes p m =
    filter-filter (λ (w : EdgeRow). has (p ∷ []) (row_stripe spec w)) (λ (w : EdgeRow). has stripes (row_stripe spec w))
    (λ w e. elim (in_has (p ∷ []) (row_stripe spec w) e) [ inl g ↦ has_in stripes (row_stripe spec w) (subst (λ z. In z stripes) (sym g) m) | inr z ↦ absurd z ]) (all_rows spec r)

pub stripes_law : StripesHoldAll
stripes_law spec range placed r =
    same_rising edge_row_cmp edge_row_order (rows_on spec r (all_stripes spec)) (all_rows spec r) (rising_fragments spec r (all_stripes spec)) (rising_all_rows spec r)
    (λ w h. (in_fragments spec r (all_stripes spec) w h).0)
    (λ w h. fragments_in spec r (all_stripes spec) w h (row_stripe_known spec range placed r w h))

pub instances_law : InstancesRepresent
instances_law spec range populated ok placed r i h =
    let ws : List EdgeRow = flat_map (fragment_of spec r) (all_stripes spec) in
    rows_represent spec range ok r i h (λ e. tuples_of_edge e ws)
    (AreProjections-rows spec r ws
    (λ w m. (in_each_fragment spec r (all_stripes spec) w m).0)
    (λ w m. each_fragment_in spec r (all_stripes spec) w m (row_stripe_known spec range placed r w m)))
    populated.column

no_member : (ws : List EdgeRow) → ((w : EdgeRow) → In w ws → ⊥) → ws ≡ []
no_member [] f = refl
no_member (w ∷ ws) f = absurd (f w (inl refl))

pub empty_law : EmptyHasNoRows
empty_law spec n = no_member (fragment_of spec [] n) (λ w m. (in_all_rows spec [] w (in_fragments spec [] (n ∷ []) w m).0).projected.1)
