-- Laws of reading: rows that are kept are read as they are, and of an edge whose rows another tells the other's sources are read.
use Rattle.std.specs.Prelude.{◌≡◌, ℕ, ◌<◌, ◌++◌, List, [], ◌∷◌, ◌⊎◌, Option, None, Some, length, map}
use Rattle.rc_fragment.specs.Imports.{flat_map, slice_get, zip, In, IsRising, in_map, map_in, Within, union, in_minus, union_right, Pairs, cols_of, project, cols-project, project-project, Values, values_cmp, count_at, AreCountedRows, in_count, EdgeRow}
use Rattle.std.proofs.Common.{inl, inr, refl, sym, ap, subst, ◌∙◌}
use Rattle.std.proofs.lemmas.Option.{slice_get_within}
use Rattle.rc_fragment.specs.Fragment.{AreAllRows, AreRowsOf, HasColumns, HasScanned, HasShape, IsFoundAt, IsLookedUp, IsScan, IsThere, IsThereWith, key_and_extra}
use Rattle.rc_fragment.specs.Implied.{Implied, total}
use Rattle.rc_fragment.specs.ImpliedLaws.{AreCountedRows-with_all, count-other, count-upper, count_in, is_upper, total_below, total_some}
use Rattle.rc_fragment.specs.ImpliedReads.{AreSources, HasListed, HasSource}
use Rattle.rc_fragment.specs.ImpliedTables.{IsLowerOf, IsTable, full_rows, implied_in}
use Rattle.rc_fragment.specs.ImpliedTablesLaws.{implication, implications, implied_edge, kept_edge, lower_edge}
use Rattle.rc_fragment.specs.RowValues.{IsParted, extra_columns, values_at}
use Rattle.rc_fragment.specs.RowValuesLaws.{zip_pairs}
use Rattle.rc_fragment.specs.declared.shape.EdgeShape.{EdgeShape}

-- a row is there where its count is above 0
pub there_count : (rows : List EdgeRow) → AreCountedRows rows → (e : ℕ) (t : Pairs) → IsThere rows e t → 0 < count_at e t rows
there_count rows a e t h = subst (λ n. 0 < n) (sym (in_count rows a (e, t, h.0) h.1)) (a.positive (e, t, h.0) h.1)

pub count_there : (rows : List EdgeRow) (e : ℕ) (t : Pairs) → 0 < count_at e t rows → IsThere rows e t
count_there rows e t l = (count_at e t rows, count_in e t rows l)

-- two lists in which the edge has the same rows
pub record HaveSameRows (e : ℕ) (xs ys : List EdgeRow) : Type 0 where
  pub there : (t : Pairs) → IsThere xs e t → IsThere ys e t
  pub back : (t : Pairs) → IsThere ys e t → IsThere xs e t

-- what is read of the one is read of the other
module _ (shape : EdgeShape) (e : ℕ) (xs ys : List EdgeRow) (same : HaveSameRows e xs ys) where
  with_there : (source key : Values) (t : Pairs) → IsThereWith shape xs e source key t → IsThereWith shape ys e source key t
  with_there source key t w = record { there = same.there t w.there; source_is = w.source_is; key_is = w.key_is }

  with_back : (source key : Values) (t : Pairs) → IsThereWith shape ys e source key t → IsThereWith shape xs e source key t
  with_back source key t w = record { there = same.back t w.there; source_is = w.source_is; key_is = w.key_is }

  pub same_lookup : (source key : Values) (o : Option Values) → IsLookedUp shape xs e source key o → IsLookedUp shape ys e source key o
  same_lookup source key None h = λ u w. h u (with_back source key u w)
  same_lookup source key (Some extra) h = (h.0, with_there source key h.0 h.1, h.2, λ u w. h.3 u (with_back source key u w))

  pub same_found : (source key : Values) (o : Option Pairs) → IsFoundAt shape xs e source key o → IsFoundAt shape ys e source key o
  same_found source key None h = λ u w. h u (with_back source key u w)
  same_found source key (Some t) h = (with_there source key t h.0, λ u w. h.1 u (with_back source key u w))

  pub same_scan : (source : Values) (ts : List Pairs) → IsScan shape xs e source ts → IsScan shape ys e source ts
  same_scan source ts h = record {
    rising = h.rising;
    only = λ t m. (same.there t (h.only t m).0, (h.only t m).1);
    each = λ t w is. h.each t (same.back t w) is;
  }

  pub same_scanned : (source old new : Values) → HasScanned shape xs e source old new → HasScanned shape ys e source old new
  same_scanned source old new h = (h.0, h.1, same_scan source h.0 h.2)

  pub same_all : (ts : List Pairs) → AreAllRows xs e ts → AreAllRows ys e ts
  same_all ts h = record { only = λ t m. same.there t (h.only t m); each = λ t w. h.each t (same.back t w) }

-- ---- rows that are kept

module _ (table : List EdgeShape) (good : IsTable table) (rows : List EdgeRow) (fit : AreRowsOf table rows) where
  full : AreCountedRows (full_rows table rows)
  full = AreCountedRows-with_all (implied_in table) rows fit.counted

  pub kept_same : (e : ℕ) (shape : EdgeShape) → HasShape table e shape → shape.lower ≡ None → HaveSameRows e rows (full_rows table rows)
  kept_same e shape has kept = record {
    there = λ t h. count_there (full_rows table rows) e t (subst (λ n. 0 < n) (sym (count t)) (there_count rows fit.counted e t h));
    back = λ t h. count_there rows e t (subst (λ n. 0 < n) (count t) (there_count (full_rows table rows) full e t h));
  }
    where
      count : (t : Pairs) → count_at e t (full_rows table rows) ≡ count_at e t rows
      count t = count-other (implied_in table) rows fit.counted e (kept_edge table e shape has kept) t

  -- ---- rows that another edge's tell

  module _ (e l : ℕ) (upper lower : EdgeShape) (has : HasShape table e upper) (is : upper.lower ≡ Some l) (low : HasShape table l lower) (of : IsLowerOf upper lower) where
    abbrev implied : Implied
    implied = record { upper = e; lower = l; columns = upper.target }

    upper_count : (t : Pairs) → count_at e t (full_rows table rows) ≡ total implied t rows
    upper_count t = count-upper (implied_in table) (implications table good) rows fit.counted implied (implied_edge table e l upper has is) t

    target : IsParted upper
    target = good.parted e upper has

    within : Within upper.target lower.target
    within = subst (λ c. Within c lower.target) of.source (good.parted l lower low).source_within

    -- a row of the lower edge: its columns, and its projection on the upper one's
    columns_below : (u : Pairs) → IsThere rows l u → cols_of (project upper.target u) ≡ upper.target
    columns_below u h = cols-project lower.target upper.target u (good.parted l lower low).target.rising target.target.rising within (fit.columns (l, u, h.0) h.1 lower low)

    -- a row of the upper edge is the projection of one of the lower edge
    below : (t : Pairs) → IsThere (full_rows table rows) e t → (u : Pairs) × IsThere rows l u × (project upper.target u ≡ t)
    below t h =
        let some : 0 < total implied t rows = subst (λ n. 0 < n) (upper_count t) (there_count (full_rows table rows) full e t h) in
        let w = total_some implied t rows some in
        (w.0.1, (w.0.2, subst (λ n. In {A = EdgeRow} (n, w.0.1, w.0.2) rows) w.2.0 w.1), w.2.1)

    above : (u : Pairs) → IsThere rows l u → IsThere (full_rows table rows) e (project upper.target u)
    above u h = count_there (full_rows table rows) e (project upper.target u) (subst (λ n. 0 < n) (sym (upper_count (project upper.target u)))
        (total_below implied (project upper.target u) rows (l, u, h.0) h.1 (refl, refl) (fit.counted.positive (l, u, h.0) h.1)))

    -- its values are the source of the lower edge's
    pub source_of_row : (t : Pairs) → IsThere (full_rows table rows) e t → HasSource lower rows l (values_at upper.key t)
    source_of_row t h =
        let b = below t h in record {
          row = b.0;
          there = b.1;
          source_is = ap (λ c. values_at c b.0) of.source ∙ sym (ap (map (λ (p : ℕ × ℕ). p.1)) (project-project upper.target upper.target b.0 (λ c m. m))) ∙ ap (values_at upper.target) b.2 ∙ ap (λ c. values_at c t) (sym of.key);
        }

    -- the row of a source
    pub row_of_source : (s : Values) → HasSource lower rows l s → IsThereWith upper (full_rows table rows) e [] s (zip upper.key s)
    row_of_source s h =
        let t : Pairs = project upper.target h.row in
        let vals : map (λ (p : ℕ × ℕ). p.1) t ≡ s = ap (λ c. values_at c h.row) (sym of.source) ∙ h.source_is in
        let is_row : zip upper.key s ≡ t = (λ i. zip (of.key i) (sym vals i)) ∙ ap (λ c. zip c (map (λ (p : ℕ × ℕ). p.1) t)) (sym (columns_below h.row h.there)) ∙ zip_pairs t in
        subst (IsThereWith upper (full_rows table rows) e [] s) (sym is_row) record {
          there = above h.row h.there;
          source_is = ap (λ c. values_at c t) of.root ∙ none_at t;
          key_is = ap (λ c. values_at c t) of.key ∙ ap (map (λ (p : ℕ × ℕ). p.1)) (project-project upper.target upper.target h.row (λ c m. m)) ∙ vals;
        }
      where
        none_at : (t : Pairs) → values_at [] t ≡ []
        none_at [] = refl
        none_at (p ∷ t) = none_at t

    -- a row is the one of its values
    row_by_values : (t : Pairs) → IsThere (full_rows table rows) e t → zip upper.key (values_at upper.key t) ≡ t
    row_by_values t h =
        let b = below t h in
        let c : cols_of t ≡ upper.target = ap cols_of (sym b.2) ∙ columns_below b.0 b.1 in
        let p : project upper.target t ≡ t = ap (project upper.target) (sym b.2) ∙ project-project upper.target upper.target b.0 (λ c m. m) ∙ b.2 in
        (λ i. zip (of.key i) (values_at (of.key i) t)) ∙ (λ i. zip (sym c i) (map (λ (p : ℕ × ℕ). p.1) (p i))) ∙ zip_pairs t

    -- it has no extra values
    no_extra : (t : Pairs) → values_at (extra_columns upper) t ≡ []
    no_extra t = ap (λ c. values_at c t) (none (extra_columns upper) (λ c m. nothing c m)) ∙ none_of t
      where
        nothing : (c : ℕ) → In c (extra_columns upper) → ⊥
        nothing c m =
            let q : In c upper.target × (In c (union upper.source upper.key) → ⊥) = in_minus upper.target (union upper.source upper.key) c m in
            q.1 (union_right upper.source upper.key c (subst (In c) (sym of.key) q.0))

        none : (cols : List ℕ) → ((c : ℕ) → In c cols → ⊥) → cols ≡ []
        none [] h = refl
        none (c ∷ cols) h = absurd (h c (inl refl))

        none_of : (t : Pairs) → values_at [] t ≡ []
        none_of [] = refl
        none_of (p ∷ t) = none_of t

    no_source : (t : Pairs) → values_at upper.source t ≡ []
    no_source t = ap (λ c. values_at c t) of.root ∙ none_of t
      where
        none_of : (t : Pairs) → values_at [] t ≡ []
        none_of [] = refl
        none_of (p ∷ t) = none_of t

    -- the row with these values of the key
    only_row : (key : Values) (u : Pairs) → IsThereWith upper (full_rows table rows) e [] key u → u ≡ zip upper.key key
    only_row key u w = sym (row_by_values u w.there) ∙ ap (zip upper.key) w.key_is

    source_from : (source key : Values) (u : Pairs) → IsThereWith upper (full_rows table rows) e source key u → HasSource lower rows l key × (source ≡ [])
    source_from source key u w = (subst (HasSource lower rows l) w.key_is (source_of_row u w.there), sym w.source_is ∙ no_source u)

    -- what a look-up answers: whether there is such a source
    pub implied_lookup : (key : Values) → HasSource lower rows l key → IsLookedUp upper (full_rows table rows) e [] key (Some [])
    implied_lookup key h = (zip upper.key key, row_of_source key h, no_extra (zip upper.key key), λ u w. only_row key u w)

    pub implied_found : (key : Values) → HasSource lower rows l key → IsFoundAt upper (full_rows table rows) e [] key (Some (zip upper.key key))
    implied_found key h = (row_of_source key h, λ u w. only_row key u w)

    pub implied_none : (source key : Values) → ((source ≡ []) → HasSource lower rows l key → ⊥) → (u : Pairs) → IsThereWith upper (full_rows table rows) e source key u → ⊥
    implied_none source key out u w = let q = source_from source key u w in out q.1 q.0

    -- what a scan answers: the sources
    rising_rows : (sources : List Values) → IsRising values_cmp sources → ((s : Values) → In s sources → HasSource lower rows l s)
        → IsRising (λ t u. values_cmp (values_at upper.key t) (values_at upper.key u)) (map (zip upper.key) sources)
    rising_rows [] r h = tt
    rising_rows (s ∷ sources) r h = (
      (λ y m.
          let d : (z : Values) × In z sources × (y ≡ zip upper.key z) = in_map (zip upper.key) y sources m in
          (λ i. values_cmp ((row_of_source s (h s (inl refl))).key_is i) ((ap (values_at upper.key) d.2 ∙ (row_of_source d.0 (h d.0 (inr d.1))).key_is) i)) ∙ r.0 d.0 d.1),
      rising_rows sources r.1 (λ z m. h z (inr m)),
    )

    pub implied_rows_at : (sources : List Values) → AreSources lower rows l sources → IsScan upper (full_rows table rows) e [] (map (zip upper.key) sources)
    implied_rows_at sources are = record {
      rising = rising_rows sources are.rising are.only;
      only = λ t m.
          let d : (z : Values) × In z sources × (t ≡ zip upper.key z) = in_map (zip upper.key) t sources m in
          let r : IsThereWith upper (full_rows table rows) e [] d.0 (zip upper.key d.0) = row_of_source d.0 (are.only d.0 d.1) in
          (subst (IsThere (full_rows table rows) e) (sym d.2) r.there, no_source t);
      each = λ t h is. subst (λ z. In z (map (zip upper.key) sources)) (row_by_values t h) (map_in (zip upper.key) (values_at upper.key t) sources (are.each (values_at upper.key t) (source_of_row t h)));
    }

    listed : (sources : List Values) → ((s : Values) → In s sources → HasSource lower rows l s) → flat_map (λ s. s) sources ≡ flat_map (key_and_extra upper) (map (zip upper.key) sources)
    listed [] h = refl
    listed (s ∷ sources) h =
        let r : IsThereWith upper (full_rows table rows) e [] s (zip upper.key s) = row_of_source s (h s (inl refl)) in
        let one : key_and_extra upper (zip upper.key s) ≡ s = (λ i. r.key_is i ++ no_extra (zip upper.key s) i) ∙ append_none s in
        λ i. sym one i ++ listed sources (λ z m. h z (inr m)) i
      where
        append_none : (xs : Values) → xs ++ [] ≡ xs
        append_none [] = refl
        append_none (x ∷ xs) = ap (λ l. x ∷ l) (append_none xs)

    pub implied_scan : (old new : Values) → HasListed lower rows l old new → HasScanned upper (full_rows table rows) e [] old new
    implied_scan old new h = (map (zip upper.key) h.0, h.1 ∙ ap (λ z. old ++ z) (listed h.0 h.2.only), implied_rows_at h.0 h.2)

    pub implied_no_scan : (source : Values) → ((source ≡ []) → ⊥) → IsScan upper (full_rows table rows) e source []
    implied_no_scan source out = record {
      rising = tt;
      only = λ t m. absurd m;
      each = λ t h is. absurd (out (sym is ∙ no_source t));
    }

    pub implied_all : (sources : List Values) → AreSources lower rows l sources → AreAllRows (full_rows table rows) e (map (zip upper.key) sources)
    implied_all sources are =
        let scan : IsScan upper (full_rows table rows) e [] (map (zip upper.key) sources) = implied_rows_at sources are in
        record { only = λ t m. (scan.only t m).0; each = λ t h. scan.each t h (no_source t) }

-- ---- the rows of all edges fit the table

module _ (table : List EdgeShape) (good : IsTable table) (rows : List EdgeRow) (fit : AreRowsOf table rows) where
  abbrev is_full : AreCountedRows (full_rows table rows)
  is_full = AreCountedRows-with_all (implied_in table) rows fit.counted

  -- an edge of the table with the columns of the row
  record FitsEdge (e : ℕ) (t : Pairs) : Type 0 where
    known : e < length table
    columns : HasColumns table e t

  fits : (e : ℕ) (t : Pairs) → IsThere (full_rows table rows) e t → FitsEdge e t
  fits e t h = go (is_upper (implied_in table) e)
    where
      go : ((i : Implied) × In i (implied_in table) × (e ≡ i.upper)) ⊎ ((i : Implied) → In i (implied_in table) → e ≡ i.upper → ⊥) → FitsEdge e t
      go (inl u) =
          let x = lower_edge table good u.0 u.1 in
          let y = implication table u.0 u.1 in
          let same : Some x.0 ≡ Some y.0 = sym x.2 ∙ y.1 in
          let is : x.0 ≡ y.0 = cc in
          let there : IsThere (full_rows table rows) u.0.upper t = subst (λ n. IsThere (full_rows table rows) n t) u.2 h in
          let lower : x.0.lower ≡ Some u.0.lower = ap (λ (s : EdgeShape). s.lower) is ∙ y.2 in
          let b : (v : Pairs) × IsThere rows u.0.lower v × (project x.0.target v ≡ t) = below table good rows fit u.0.upper u.0.lower x.0 x.1 x.2 lower x.3 x.4 t there in
          let over : cols_of t ≡ x.0.target = ap cols_of (sym b.2) ∙ columns_below table good rows fit u.0.upper u.0.lower x.0 x.1 x.2 lower x.3 x.4 b.0 b.1 in
          record {
            known = subst (λ n. n < length table) (sym u.2) (slice_get_within table u.0.upper x.0 x.2);
            columns = λ shape has.
                let one : Some x.0 ≡ Some shape = sym x.2 ∙ ap (slice_get table) (sym u.2) ∙ has in
                let own : x.0 ≡ shape = cc in
                over ∙ ap (λ (s : EdgeShape). s.target) own;
          }
      go (inr o) =
          let count : 0 < count_at e t rows = subst (λ n. 0 < n) (count-other (implied_in table) rows fit.counted e o t) (there_count (full_rows table rows) is_full e t h) in
          let w : IsThere rows e t = count_there rows e t count in
          record { known = fit.known (e, t, w.0) w.1; columns = fit.columns (e, t, w.0) w.1 }

  pub full_fit : AreRowsOf table (full_rows table rows)
  full_fit = record {
    counted = is_full;
    known = λ w m. (fits w.0 w.1 (w.2, m)).known;
    columns = λ w m. (fits w.0 w.1 (w.2, m)).columns;
  }
