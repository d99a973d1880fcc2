-- What look-ups and scans answer, by the rows of all edges.
use Rattle.std.specs.Prelude.{◌≡◌, ℕ, T, Option, None, Some, List, [], ◌∷◌, ◌++◌}
use Rattle.rc_fragment.proofs.Imports.{flat_map, slice_get, Ordering, Less, Equal, Greater, is_lt, is_sorted, entries_sorted, below_all, none-some, In, IsRising, in_map, map_in, Pairs, Values, values_cmp, Counted, extra_of, now_in, AreAllRows, HasScanned, HasShape, IsFoundAt, IsThere, IsThereWith, IsLookedUp, IsScan, key_and_extra, listing, shapes, found_by, row_found, rows_with, source_rows, AreStored, HasValues, row_from, values_at, sources_of, found_in, found_at, now_at, listed_in, IsStoredRow, Container, EdgeRows, EdgeShape}
use Rattle.std.specs.FinMap as fin
use Rattle.std.proofs.Common.{refl, sym, ap, subst, ◌∙◌, inl, inr}
use Rattle.rc_fragment.proofs.ChangeLemmas.{found_there}
use Rattle.rc_fragment.proofs.ListingLemmas.{entry_get, get_entry, extra_in, key_in, source_in, t_first, t_second, below_in}
use Rattle.rc_fragment.proofs.RowLemmas.{shape_there, there_found, there_whole, found_row, found_values}

pub is_less : (o : Ordering) → T (is_lt o) → o ≡ Less
is_less Less h = refl
is_less Equal h = absurd h
is_less Greater h = absurd h

-- rows listed in the order of their keys rise by them
rising_listed : (shape : EdgeShape) (source : Values) (es : List (Values × Counted)) → T (is_sorted values_cmp es) → ((d : Values × Counted) → In d es → values_at shape.key (row_from shape source d.0 d.1.0) ≡ d.0)
    → IsRising (λ t u. values_cmp (values_at shape.key t) (values_at shape.key u)) (rows_with shape source es)
rising_listed shape source [] s h = tt
rising_listed shape source (e ∷ es) s h = (
  (λ y m.
      let d : (d : Values × Counted) × In d es × (y ≡ row_from shape source d.0 d.1.0) = in_map (λ (d : Values × Counted). row_from shape source d.0 d.1.0) y es m in
      let l : values_cmp e.0 d.0.0 ≡ Less = is_less (values_cmp e.0 d.0.0) (below_in e.0 es d.0 (t_first (below_all values_cmp e.0 es) (is_sorted values_cmp es) s) d.1) in
      let p : values_at shape.key y ≡ d.0.0 = ap (values_at shape.key) d.2 ∙ h d.0 (inr d.1) in
      (λ i. values_cmp (h e (inl refl) i) (p i)) ∙ l),
  rising_listed shape source es (t_second (below_all values_cmp e.0 es) (is_sorted values_cmp es) s) (λ d m. h d (inr m)),
)

-- the keys and extra values of entries are those of their rows
flat_rows : (shape : EdgeShape) (source : Values) (es : List (Values × Counted)) → ((d : Values × Counted) → In d es → HasValues shape (row_from shape source d.0 d.1.0) source d.0 d.1.0)
    → flat_map (λ (d : Values × Counted). d.0 ++ d.1.0) es ≡ flat_map (key_and_extra shape) (rows_with shape source es)
flat_rows shape source [] h = refl
flat_rows shape source (e ∷ es) h =
    let v : HasValues shape (row_from shape source e.0 e.1.0) source e.0 e.1.0 = h e (inl refl) in
    λ i. (sym v.key_is i ++ sym v.extra_is i) ++ flat_rows shape source es (λ d m. h d (inr m)) i

module _ (edges : List EdgeRows) (all : AreStored edges) (e : ℕ) (x : EdgeRows) (number : slice_get edges e ≡ Some x) where
  there : (s k : Values) (c : Counted) → found_at now_in (sources_of x) s k ≡ Some c → found_by now_in edges e s k ≡ Some c
  there s k c h = sym (found_there now_in edges e x number s k) ∙ h

  -- a row with this source and key is what is found there
  found_with : (source key : Values) (u : Pairs) → (w : IsThereWith x.shape (listing now_in edges) e source key u) → now_at x source key ≡ Some (extra_in x.shape u, w.there.0)
  found_with source key u w =
      found_there now_in edges e x number source key ∙ (λ i. found_by now_in edges e (sym w.source_is i) (sym w.key_is i)) ∙ there_found edges all e x number u w.there

  found_at_place : (source key : Values) (o : Option Counted) → now_at x source key ≡ o → IsFoundAt x.shape (listing now_in edges) e source key (row_found x.shape source key o)
  found_at_place source key None h = λ u (w : IsThereWith x.shape (listing now_in edges) e source key u). let c : Counted = (extra_in x.shape u, w.there.0) in absurd (none-some c (sym h ∙ found_with source key u w))
  found_at_place source key (Some c) h =
      let v : HasValues x.shape (row_from x.shape source key c.0) source key c.0 = found_values edges all e x number source key c (there source key c h) in (
        record { there = found_row edges all e x number source key c (there source key c h); source_is = v.source_is; key_is = v.key_is },
        λ u (w : IsThereWith x.shape (listing now_in edges) e source key u).
            let g : Some c ≡ Some (extra_in x.shape u, w.there.0) = sym h ∙ found_with source key u w in
            let q : c ≡ (extra_in x.shape u, w.there.0) = cc in
            sym (there_whole edges all e x number u w.there) ∙ (λ i. row_from x.shape (w.source_is i) (w.key_is i) (sym (ap (λ (z : Counted). z.0) q) i)),
      )

  looked_up : (source key : Values) (o : Option Counted) → now_at x source key ≡ o → IsLookedUp x.shape (listing now_in edges) e source key (extra_of o)
  looked_up source key None h = found_at_place source key None h
  looked_up source key (Some c) h =
      let f : IsFoundAt x.shape (listing now_in edges) e source key (Some (row_from x.shape source key c.0)) = found_at_place source key (Some c) h in
      (row_from x.shape source key c.0, f.0, (found_values edges all e x number source key c (there source key c h)).extra_is, f.1)

  pub lookup_law : (source key : Values) (o : Option Values) → o ≡ extra_of (now_at x source key) → (shape : EdgeShape) → HasShape (shapes edges) e shape → IsLookedUp shape (listing now_in edges) e source key o
  lookup_law source key o h shape hs =
      let s : Some x.shape ≡ Some shape = sym (shape_there edges e x number) ∙ hs in
      let q : x.shape ≡ shape = cc in
      subst (λ z. IsLookedUp z (listing now_in edges) e source key o) q (subst (IsLookedUp x.shape (listing now_in edges) e source key) (sym h) (looked_up source key (now_at x source key) refl))

  scanned : (source : Values) (o : Option Container) → fin.get (sources_of x) source ≡ o → IsScan x.shape (listing now_in edges) e source (source_rows x.shape source o)
  scanned source None h = record {
    rising = tt;
    only = λ t m. absurd m;
    each = λ t m a.
        let c : Counted = (extra_in x.shape t, m.0) in
        absurd (none-some c (ap (λ z. found_in now_in z (key_in x.shape t)) (sym h) ∙ found_with source (key_in x.shape t) t (record { there = m; source_is = a; key_is = refl })));
  }
  scanned source (Some v) h = record {
    rising = rising_listed x.shape source (fin.entries (now_in v)) (entries_sorted (now_in v)) (λ d m. (found_values edges all e x number source d.0 d.1 (there source d.0 d.1 (at d m))).key_is);
    only = λ t m.
        let d : (d : Values × Counted) × In d (fin.entries (now_in v)) × (t ≡ row_from x.shape source d.0 d.1.0) = in_map (λ (d : Values × Counted). row_from x.shape source d.0 d.1.0) t (fin.entries (now_in v)) m in
        let g : found_by now_in edges e source d.0.0 ≡ Some d.0.1 = there source d.0.0 d.0.1 (at d.0 d.1) in
        (subst (IsThere (listing now_in edges) e) (sym d.2) (found_row edges all e x number source d.0.0 d.0.1 g), ap (source_in x.shape) d.2 ∙ (found_values edges all e x number source d.0.0 d.0.1 g).source_is);
    each = λ t m a.
        let g : fin.get (now_in v) (key_in x.shape t) ≡ Some (extra_in x.shape t, m.0) = ap (λ z. found_in now_in z (key_in x.shape t)) (sym h)
        ∙ found_with source (key_in x.shape t) t (record { there = m; source_is = a; key_is = refl }) in
        let is : row_from x.shape source (key_in x.shape t) (extra_in x.shape t) ≡ t = ap (λ z. row_from x.shape z (key_in x.shape t) (extra_in x.shape t)) (sym a) ∙ there_whole edges all e x number t m in
        subst (λ z. In z (rows_with x.shape source (fin.entries (now_in v)))) is
        (map_in (λ (d : Values × Counted). row_from x.shape source d.0 d.1.0) (key_in x.shape t, (extra_in x.shape t, m.0)) (fin.entries (now_in v)) (get_entry (now_in v) (key_in x.shape t) (extra_in x.shape t, m.0) g));
  }
    where
      at : (d : Values × Counted) → In d (fin.entries (now_in v)) → found_at now_in (sources_of x) source d.0 ≡ Some d.1
      at d m = ap (λ z. found_in now_in z d.0) h ∙ entry_get (now_in v) d m

  listed_rows : (source : Values) (o : Option Container) → fin.get (sources_of x) source ≡ o → listed_in o ≡ flat_map (key_and_extra x.shape) (source_rows x.shape source o)
  listed_rows source None h = refl
  listed_rows source (Some v) h = flat_rows x.shape source (fin.entries (now_in v)) (λ d m. found_values edges all e x number source d.0 d.1 (there source d.0 d.1 (ap (λ z. found_in now_in z d.0) h ∙ entry_get (now_in v) d m)))

  pub scan_law : (source old new : Values) → new ≡ old ++ listed_in (fin.get (sources_of x) source) → (shape : EdgeShape) → HasShape (shapes edges) e shape → HasScanned shape (listing now_in edges) e source old new
  scan_law source old new is shape hs =
      let s : Some x.shape ≡ Some shape = sym (shape_there edges e x number) ∙ hs in
      let q : x.shape ≡ shape = cc in
      let o : Option Container = fin.get (sources_of x) source in
      subst (λ z. HasScanned z (listing now_in edges) e source old new) q (source_rows x.shape source o, is ∙ ap (λ z. old ++ z) (listed_rows source o refl), scanned source o refl)

  pub row_law : (source key : Values) (row : Option Pairs) → row ≡ row_found x.shape source key (now_at x source key) → (shape : EdgeShape) → HasShape (shapes edges) e shape → IsFoundAt shape (listing now_in edges) e source key row
  row_law source key row is shape hs =
      let s : Some x.shape ≡ Some shape = sym (shape_there edges e x number) ∙ hs in
      let q : x.shape ≡ shape = cc in
      subst (λ z. IsFoundAt z (listing now_in edges) e source key row) q (subst (IsFoundAt x.shape (listing now_in edges) e source key) (sym is) (found_at_place source key (now_at x source key) refl))

  pub rows_law : (source : Values) (rows : List Pairs) → rows ≡ source_rows x.shape source (fin.get (sources_of x) source) → (shape : EdgeShape) → HasShape (shapes edges) e shape → IsScan shape (listing now_in edges) e source rows
  rows_law source rows is shape hs =
      let s : Some x.shape ≡ Some shape = sym (shape_there edges e x number) ∙ hs in
      let q : x.shape ≡ shape = cc in
      subst (λ z. IsScan z (listing now_in edges) e source rows) q (subst (IsScan x.shape (listing now_in edges) e source) (sym is) (scanned source (fin.get (sources_of x) source) refl))

  pub all_rows : (ts : List Pairs) → ((t : Pairs) → In t ts → IsStoredRow x t) → ((t : Pairs) → IsStoredRow x t → In t ts) → AreAllRows (listing now_in edges) e ts
  all_rows ts kept walked = record {
    only = λ t m. let k : IsStoredRow x t = kept t m in subst (IsThere (listing now_in edges) e) (sym k.4) (found_row edges all e x number k.0 k.1 k.2 (there k.0 k.1 k.2 k.3));
    each = λ t h.
        walked t (
          source_in x.shape t,
          key_in x.shape t,
          (extra_in x.shape t, h.0),
          found_there now_in edges e x number (source_in x.shape t) (key_in x.shape t) ∙ there_found edges all e x number t h,
          sym (there_whole edges all e x number t h),
        );
  }
