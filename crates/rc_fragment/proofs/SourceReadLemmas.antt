-- Which sources have rows.
use Rattle.std.specs.Prelude.{◌≡◌, ℕ, zero, suc, ◌<◌, ◌++◌, ◌==◌, ◌↔◌, Bool, IsTrue, not, true, false, List, [], ◌∷◌, Option, None, Some, IsSome, filter, length, map, if◌then◌else◌}
use Rattle.rc_fragment.proofs.Imports.{flat_map, slice_get, option_and_then, vec_len, FinMap, get-from_entries, Ordering, eqb-true, false≢true, lt-ltb, ltb-true, nil_from_length, In, IsRising, filter_in, in_filter, in_map, map_in, rising_filter, Values, values_cmp, Counted, present, get-current, head_below, tail_sorted, values_order, Keyed, IsKeyed, pair_of, apart_rising, EdgeRow, kept_in, now_in, AreRowsOf, HasShape, IsFragment, IsSweptBy, AreSources, HasListed, HasSource, AreStored, found_by, listing, shapes, HaveWidth, IsParted, row_from, length_values, HasPushed, HasRowAt, IsClean, found_in, is_shown, kept_at, now_at, shown_sources, sources_of, Container, EdgeRows, Note, Committed, EdgeShape, Parts}
use Rattle.std.specs.FinMap as fin
use Rattle.std.proofs.Common.{refl, sym, ap, subst, ◌∙◌, arith, inl}
use Rattle.rc_fragment.proofs.ChangeLemmas.{found_there}
use Rattle.rc_fragment.proofs.ListingLemmas.{below_in, entry_get, find_in, get_entry, key_in}
use Rattle.rc_fragment.proofs.LookupLemmas.{is_less}
use Rattle.rc_fragment.proofs.RowLemmas.{found_row, found_values, shape_there, there_found}
use Rattle.rc_fragment.proofs.WalkLemmas.{got_walked}

-- a map with an entry
some_entry : {X : Type 0} (m : FinMap values_cmp X) → ((m ≡ fin.empty) → ⊥) → (e : Values × X) × In e (fin.entries m)
some_entry {X} m out = go (fin.entries m) refl
  where
    go : (es : List (Values × X)) → fin.entries m ≡ es → (e : Values × X) × In e (fin.entries m)
    go [] q = absurd (out (fin.empty_of_len m (fin.len-entries m ∙ ap length q)))
    go (e ∷ es) q = (e, subst (In e) (sym q) (inl refl))

entry_len : {X : Type 0} (m : FinMap values_cmp X) (e : Values × X) → In e (fin.entries m) → 0 < fin.len m
entry_len {X} m e h = subst (λ n. 0 < n) (sym (fin.len-entries m)) (some (fin.entries m) h)
  where
    some : (es : List (Values × X)) → In e es → 0 < length es
    some [] h = absurd h
    some (x ∷ es) h = omega arith

module _ (rows : EdgeRows) (s : Values) (v : Container) (is : fin.get (sources_of rows) s ≡ Some v) where
  at_now : (k : Values) → now_at rows s k ≡ fin.get (now_in v) k
  at_now k = ap (λ o. found_in now_in o k) is

  at_kept : (k : Values) → kept_at rows s k ≡ fin.get (kept_in v) k
  at_kept k = ap (λ o. found_in kept_in o k) is

  -- where no tombstone is kept, a source with a container has a row
  pub clean_row : IsClean rows → HasRowAt rows s
  clean_row clean =
      let e : (e : Values × Counted) × In e (fin.entries (kept_in v)) = some_entry (kept_in v) (λ gone. clean.emptied s (v, is, gone)) in
      let kept : fin.get (kept_in v) e.0.0 ≡ Some e.0.1 = entry_get (kept_in v) e.0 e.1 in
      let count : 0 < e.0.1.1 = clean.counts s e.0.0 e.0.1 (at_kept e.0.0 ∙ kept) in
      (e.0.0, subst IsSome (sym (at_now e.0.0 ∙ get-current (kept_in v) e.0.0 ∙ ap (option_and_then present) kept ∙ shown e.0.1 count)) refl)
    where
      shown : (c : Counted) → 0 < c.1 → present c ≡ Some c
      shown c l = ap (λ b. if b then Some c else None) (lt-ltb 0 c.1 l)

  -- a container with a row, by how many there are
  pub len_row : 0 < fin.len (now_in v) → HasRowAt rows s
  len_row l =
      let e : (e : Values × Counted) × In e (fin.entries (now_in v)) = some_entry (now_in v) (λ gone. let z : fin.len (now_in v) ≡ 0 = ap fin.len gone ∙ fin.len-empty values_cmp Counted in omega arith) in
      (e.0.0, subst IsSome (sym (at_now e.0.0 ∙ entry_get (now_in v) e.0 e.1)) refl)

  pub row_len : HasRowAt rows s → 0 < fin.len (now_in v)
  row_len h = go (fin.get (now_in v) h.0) refl (subst IsSome (at_now h.0) h.1)
    where
      go : (o : Option Counted) → fin.get (now_in v) h.0 ≡ o → IsSome o → 0 < fin.len (now_in v)
      go None q i = absurd (false≢true i)
      go (Some c) q i = entry_len (now_in v) (h.0, c) (get_entry (now_in v) h.0 c q)

-- a source without a container has none
pub no_container : (rows : EdgeRows) (s : Values) → fin.get (sources_of rows) s ≡ None → HasRowAt rows s → ⊥
no_container rows s is h = absurd (false≢true (subst IsSome (ap (λ o. found_in now_in o h.0) is) h.1))

-- ---- a sorted walk over the sources

abbrev by_key : Keyed Container → Keyed Container → Ordering
by_key j k = values_cmp j.key.now k.key.now

-- a walk whose keys rise rises by them
rising_walk : (ks : List (Keyed Container)) → IsKeyed (map pair_of ks) → IsRising by_key ks
rising_walk [] h = tt
rising_walk (k ∷ ks) h = (
  (λ j m. is_less (values_cmp k.key.now j.key.now) (below_in k.key.now (map pair_of ks) (pair_of j) (head_below (pair_of k) (map pair_of ks) h) (map_in pair_of j ks m))),
  rising_walk ks (tail_sorted (pair_of k) (map pair_of ks) h),
)

rising_sources : (ks : List (Keyed Container)) → IsRising by_key ks → IsRising values_cmp (map (λ (k : Keyed Container). k.key.now) ks)
rising_sources [] h = tt
rising_sources (k ∷ ks) h = (
  (λ s m. let j : (j : Keyed Container) × In j ks × (s ≡ j.key.now) = in_map (λ (k : Keyed Container). k.key.now) s ks m in ap (values_cmp k.key.now) j.2 ∙ h.0 j.0 j.1),
  rising_sources ks h.1,
)

module _ (rows : EdgeRows) (tombstones : Bool) (clean : tombstones ≡ false → IsClean rows) (ks : List (Keyed Container)) (rising : IsKeyed (map pair_of ks)) (are : fin.from_entries (map pair_of ks) ≡ sources_of rows) where
  there : (k : Keyed Container) → In k ks → fin.get (sources_of rows) k.key.now ≡ Some k.value.now
  there k m = got_walked rows (map pair_of ks) are (apart_rising (map pair_of ks) rising) (pair_of k) (map_in pair_of k ks m)

  shown_row : (k : Keyed Container) → In k ks → (b : Bool) → tombstones ≡ b → is_shown b k ≡ true → HasRowAt rows k.key.now
  shown_row k m false q t = clean_row rows k.key.now k.value.now (there k m) (clean q)
  shown_row k m true q t = len_row rows k.key.now k.value.now (there k m) (ltb-true 0 (fin.len (now_in k.value.now)) t)

  row_shown : (s : Values) (k : Keyed Container) → fin.get (sources_of rows) s ≡ Some k.value.now → (b : Bool) → HasRowAt rows s → is_shown b k ≡ true
  row_shown s k is false h = refl
  row_shown s k is true h = lt-ltb 0 (fin.len (now_in k.value.now)) (row_len rows s k.value.now is h)

  walked : (s : Values) → HasRowAt rows s → In s (shown_sources tombstones ks)
  walked s h = go (fin.get (sources_of rows) s) refl
    where
      go : (o : Option Container) → fin.get (sources_of rows) s ≡ o → In s (shown_sources tombstones ks)
      go None q = absurd (no_container rows s q h)
      go (Some v) q =
          let e : In (s, v) (map pair_of ks) = find_in s (map pair_of ks) v (sym (get-from_entries values_order.total (map pair_of ks) s) ∙ ap (λ (z : FinMap values_cmp Container). fin.get z s) are ∙ q) in
          let k : (k : Keyed Container) × In k ks × ((s, v) ≡ pair_of k) = in_map pair_of (s, v) ks e in
          let is : fin.get (sources_of rows) s ≡ Some k.0.value.now = q ∙ (λ i. Some (k.2 i).1) in
          subst (λ z. In z (shown_sources tombstones ks)) (sym (λ i. (k.2 i).0))
          (map_in (λ (k : Keyed Container). k.key.now) k.0 (filter (is_shown tombstones) ks) (filter_in (is_shown tombstones) k.0 ks k.1 (row_shown s k.0 is tombstones h)))

  -- of the sources of a sorted walk, those that are taken to have a row are all that have one
  pub HasPushed-shown : (old new : Values) → new ≡ old ++ flat_map (λ s. s) (shown_sources tombstones ks) → HasPushed rows old new
  HasPushed-shown old new is = record {
    sources = shown_sources tombstones ks;
    pushed = is;
    rising = rising_sources (filter (is_shown tombstones) ks) (rising_filter by_key (is_shown tombstones) ks (rising_walk ks rising));
    only = λ s m.
        let k : (k : Keyed Container) × In k (filter (is_shown tombstones) ks) × (s ≡ k.key.now) = in_map (λ (k : Keyed Container). k.key.now) s (filter (is_shown tombstones) ks) m in
        let f : In k.0 ks × (is_shown tombstones k.0 ≡ true) = in_filter (is_shown tombstones) k.0 ks k.1 in
        subst (HasRowAt rows) (sym k.2) (shown_row k.0 f.0 tombstones refl f.1);
    each = walked;
  }

-- ---- an edge's sources, by the rows of all edges

module _ (edges : List EdgeRows) (all : AreStored edges) (e : ℕ) (x : EdgeRows) (number : slice_get edges e ≡ Some x) where
  row_source : (s : Values) → HasRowAt x s → HasSource x.shape (listing now_in edges) e s
  row_source s h = go (now_at x s h.0) refl h.1
    where
      go : (o : Option Counted) → now_at x s h.0 ≡ o → IsSome o → HasSource x.shape (listing now_in edges) e s
      go None q i = absurd (false≢true i)
      go (Some c) q i =
          let found : found_by now_in edges e s h.0 ≡ Some c = sym (found_there now_in edges e x number s h.0) ∙ q in
          record { row = row_from x.shape s h.0 c.0; there = found_row edges all e x number s h.0 c found; source_is = (found_values edges all e x number s h.0 c found).source_is }

  source_row : (s : Values) → HasSource x.shape (listing now_in edges) e s → HasRowAt x s
  source_row s h = (
    key_in x.shape h.row,
    subst IsSome (sym (found_there now_in edges e x number s (key_in x.shape h.row) ∙ (λ i. found_by now_in edges e (sym h.source_is i) (key_in x.shape h.row)) ∙ there_found edges all e x number h.row h.there)) refl,
  )

  -- what holds of the edge's shape holds of the one in the table
  of_table : (P : EdgeShape → Type 0) → P x.shape → (shape : EdgeShape) → HasShape (shapes edges) e shape → P shape
  of_table P h shape has =
      let s : Some x.shape ≡ Some shape = sym (shape_there edges e x number) ∙ has in
      let q : x.shape ≡ shape = cc in
      subst P q h

  pub source_law : (source : Values) (b : Bool) → (IsTrue b ↔ HasRowAt x source) → (shape : EdgeShape) → HasShape (shapes edges) e shape → (IsTrue b ↔ HasSource shape (listing now_in edges) e source)
  source_law source b h = of_table (λ z. IsTrue b ↔ HasSource z (listing now_in edges) e source) ((λ t. row_source source (h.0 t)), (λ s. h.1 (source_row source s)))

  pub listed_law : (old new : Values) → HasPushed x old new → (shape : EdgeShape) → HasShape (shapes edges) e shape → HasListed shape (listing now_in edges) e old new
  listed_law old new h = of_table (λ z. HasListed z (listing now_in edges) e old new) (
    h.sources,
    h.pushed,
    record { rising = h.rising; only = λ s m. row_source s (h.only s m); each = λ s g. h.each s (source_row s g) },
  )

  -- where no change is noted, no tombstone is kept
  pub clean_edge : (notes : List Note) (values : Values) → IsFragment edges notes values → notes ≡ [] → IsClean x
  clean_edge notes values f none = record {
    counts = λ s k c is. some c.1 (λ z.
        let t : IsSweptBy Committed values notes (e, s, k) = f.tombstones (e, s, k) c (sym (found_there kept_in edges e x number s k) ∙ is) z in
        subst (In t.0) none t.1);
    emptied = λ s h. f.emptied e s (x, number, h);
  }
    where
      some : (n : ℕ) → (n ≡ 0 → ⊥) → 0 < n
      some zero h = absurd (h refl)
      some (suc n) h = omega arith

-- notes that are said to be none are none
pub none_noted : (lent parts : Parts) → lent ≡ parts → (none : Bool) → none ≡ (vec_len lent.notes == 0) → not none ≡ false → parts.notes.items ≡ []
none_noted lent parts same none is h =
    let l : vec_len lent.notes ≡ 0 = eqb-true (vec_len lent.notes) 0 (sym is ∙ true_of none h) in
    let m : length lent.notes.items ≡ vec_len lent.notes = sym lent.notes.ok.0 in
    nil_from_length parts.notes.items (ap (λ (p : Parts). length p.notes.items) (sym same) ∙ m ∙ l)
  where
    true_of : (b : Bool) → not b ≡ false → b ≡ true
    true_of true h = refl
    true_of false h = absurd (false≢true (sym h))

-- the sources of rows have as many values as there are columns
pub source_width : (table : List EdgeShape) (rows : List EdgeRow) → AreRowsOf table rows → (e : ℕ) (shape : EdgeShape) → HasShape table e shape → IsParted shape → (s : Values) → HasSource shape rows e s
    → length s ≡ length shape.source
source_width table rows fit e shape has parted s h =
    ap length (sym h.source_is) ∙ length_values shape.target shape.source h.row parted.target.rising parted.source.rising parted.source_within (fit.columns (e, h.row, h.there.0) h.there.1 shape has)

pub source_widths : (table : List EdgeShape) (rows : List EdgeRow) → AreRowsOf table rows → (e : ℕ) (shape : EdgeShape) → HasShape table e shape → IsParted shape → (sources : List Values) → AreSources shape rows e sources
    → HaveWidth (length shape.source) sources
source_widths table rows fit e shape has parted sources are s m =
    let h : HasSource shape rows e s = are.only s m in source_width table rows fit e shape has parted s h
