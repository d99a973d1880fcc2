-- A row of the list of all rows and the place at which it is kept.
use Rattle.std.specs.Prelude.{◌≡◌, ℕ, zero, suc, pred, ◌-◌, ◌<◌, Option, None, Some, IsSome, List, [], ◌∷◌, length, map}
use Rattle.rc_fragment.proofs.Imports.{slice_get, FinMap, get-empty, false≢true, In, slice_get_in, in_slice_get, Pairs, cols_of, Values, values_cmp, Counted, HasExtra, Rows, count_of, one_less, present, present_is, count_at, with_count, kept_in, now_in, AreRowsOf, HasAlone, HasSingle, IsFragment, IsThere, listing, shapes, found_of, found_by, AreStored, AreEmpty, Place, PlaceBecomes, kept_at_place, HasValues, IsParted, row_from, row_from_values, same_key, same_source, found_in, found_at, sources_of, now_at, IsSingle, Container, EdgeRows, EdgeShape}
use Rattle.std.specs.FinMap as fin
use Rattle.std.proofs.Common.{refl, sym, ap, subst, ◌∙◌, inl, arith}
use Rattle.rc_fragment.proofs.ChangeLemmas.{AreFiled, IsWholeRow, found_there, same_listing, listing_set, row_count_at}
use Rattle.rc_fragment.proofs.KeptLemmas.{count_there, filed_there, there, there_by}
use Rattle.rc_fragment.proofs.ListingLemmas.{AreCountedRows-listing, IsFoundRow, extra_in, found_for, key_in, listed_row, own_place, own_row, own_values, row_listed, source_in}
use Rattle.rc_fragment.proofs.PlaceLemmas.{set_as_it_was}

pub filed_now : (edges : List EdgeRows) → AreStored edges → AreFiled now_in edges
filed_now edges h n x g = filed_there x (h x (slice_get_in edges n x g))

pub shape_there : (edges : List EdgeRows) (e : ℕ) (x : EdgeRows) → slice_get edges e ≡ Some x → slice_get (shapes edges) e ≡ Some x.shape
shape_there [] e x g = absurd (cc)
shape_there (y ∷ edges) zero x g = let p : y ≡ x = cc in ap (λ (z : EdgeRows). Some z.shape) p
shape_there (y ∷ edges) (suc e) x g = shape_there edges e x g

-- ---- a row that is there, and what is found at its place

module _ (edges : List EdgeRows) (all : AreStored edges) (e : ℕ) (x : EdgeRows) (number : slice_get edges e ≡ Some x) where
  parted_here : IsParted x.shape
  parted_here = (all x (slice_get_in edges e x number)).parted

  -- what is found at the place of a row
  abbrev pub found_of_row : Pairs → Option Counted
  found_of_row row = found_by now_in edges e (source_in x.shape row) (key_in x.shape row)

  pub there_found : (row : Pairs) → (there : IsThere (listing now_in edges) e row) → found_of_row row ≡ Some (extra_in x.shape row, there.0)
  there_found row there =
      sym (found_there now_in edges e x number (source_in x.shape row) (key_in x.shape row))
      ∙ own_place now_in edges (filed_now edges all) (e, row, there.0) x number (listed_row now_in edges (e, row, there.0) there.1)

  -- a row that is there is the one with its values
  pub there_whole : (row : Pairs) → IsThere (listing now_in edges) e row → IsWholeRow x.shape row
  there_whole row there = own_row now_in edges (filed_now edges all) (e, row, there.0) x number (listed_row now_in edges (e, row, there.0) there.1)

  -- and so is one with the edge's columns
  pub whole_row : (row : Pairs) → cols_of row ≡ x.shape.target → IsWholeRow x.shape row
  whole_row row over = row_from_values x.shape parted_here row over

  pub found_row : (s k : Values) (c : Counted) → found_by now_in edges e s k ≡ Some c → IsThere (listing now_in edges) e (row_from x.shape s k c.0)
  found_row s k c h = (c.1, row_listed now_in edges e x s k c number (found_there now_in edges e x number s k ∙ h))

  pub found_values : (s k : Values) (c : Counted) → found_by now_in edges e s k ≡ Some c → HasValues x.shape (row_from x.shape s k c.0) s k c.0
  found_values s k c h = (filed_now edges all e x number).values s k c (found_there now_in edges e x number s k ∙ h)

  -- where no other row has the row's source and key, only the row is found at its place
  pub alone_found : (row : Pairs) → cols_of row ≡ x.shape.target → HasAlone (shapes edges) (listing now_in edges) e row → HasExtra (found_of_row row) (extra_in x.shape row)
  alone_found row over alone = go (found_of_row row) refl
    where
      go : (o : Option Counted) → found_of_row row ≡ o → HasExtra o (extra_in x.shape row)
      go None h = tt
      go (Some c) h =
          let u : Pairs = row_from x.shape (source_in x.shape row) (key_in x.shape row) c.0 in
          let v : HasValues x.shape u (source_in x.shape row) (key_in x.shape row) c.0 = found_values (source_in x.shape row) (key_in x.shape row) c h in
          let is : u ≡ row = alone x.shape (shape_there edges e x number) u (found_row (source_in x.shape row) (key_in x.shape row) c h)
          (same_source x.shape parted_here u row v.columns over v.source_is) (same_key x.shape parted_here u row v.columns over v.key_is) in
          sym v.extra_is ∙ ap (extra_in x.shape) is

  same_extra : (v w : Values) (m n : ℕ) → ◌≡◌ {A = Option Counted} (Some (v, m)) (Some (w, n)) → v ≡ w
  same_extra v w m n h = ap (λ (o : Option Counted). go o) h
    where
      go : Option Counted → Values
      go None = v
      go (Some c) = c.0

  -- a row that is there has the edge's columns, and is the only one with its source and key
  pub there_over : (row : Pairs) → IsThere (listing now_in edges) e row → cols_of row ≡ x.shape.target
  there_over row there =
      ap cols_of (sym (there_whole row there)) ∙ (found_values (source_in x.shape row) (key_in x.shape row) (extra_in x.shape row, there.0) (there_found row there)).columns

  pub there_alone : (row : Pairs) → IsThere (listing now_in edges) e row → HasAlone (shapes edges) (listing now_in edges) e row
  there_alone row there shape at u other source key =
      let same : Some x.shape ≡ Some shape = sym (shape_there edges e x number) ∙ at in
      let p : x.shape ≡ shape = cc in
      let s : source_in x.shape u ≡ source_in x.shape row = ap (λ (z : EdgeShape). source_in z u) p ∙ ap (map (λ (q : ℕ × ℕ). q.1)) source ∙ ap (λ (z : EdgeShape). source_in z row) (sym p) in
      let k : key_in x.shape u ≡ key_in x.shape row = ap (λ (z : EdgeShape). key_in z u) p ∙ ap (map (λ (q : ℕ × ℕ). q.1)) key ∙ ap (λ (z : EdgeShape). key_in z row) (sym p) in
      let one : Some (extra_in x.shape u, other.0) ≡ Some (extra_in x.shape row, there.0) = sym (there_found u other) ∙ (λ i. found_by now_in edges e (s i) (k i)) ∙ there_found row there in
      sym (there_whole u other) ∙ (λ i. row_from x.shape (s i) (k i) (same_extra (extra_in x.shape u) (extra_in x.shape row) other.0 there.0 one i)) ∙ there_whole row there

  pub single_found : (row : Pairs) → cols_of row ≡ x.shape.target → HasSingle (shapes edges) (listing now_in edges) e row → IsSingle x (source_in x.shape row) (key_in x.shape row)
  single_found row over single kind k there = go (now_at x (source_in x.shape row) k) refl there
    where
      go : (o : Option Counted) → now_at x (source_in x.shape row) k ≡ o → IsSome o → k ≡ key_in x.shape row
      go None h s = absurd (false≢true s)
      go (Some c) h s =
          let g : found_by now_in edges e (source_in x.shape row) k ≡ Some c = sym (found_there now_in edges e x number (source_in x.shape row) k) ∙ h in
          let u : Pairs = row_from x.shape (source_in x.shape row) k c.0 in
          let v : HasValues x.shape u (source_in x.shape row) k c.0 = found_values (source_in x.shape row) k c g in
          let is = single x.shape (shape_there edges e x number) kind u (found_row (source_in x.shape row) k c g) (same_source x.shape parted_here u row v.columns over v.source_is) in
          sym v.key_is ∙ ap (map (λ (p : ℕ × ℕ). p.1)) is

  -- its count
  pub count_found_row : (row : Pairs) → IsWholeRow x.shape row → HasExtra (found_of_row row) (extra_in x.shape row) → count_at e row (listing now_in edges) ≡ count_of (found_of_row row)
  count_found_row row whole same =
      let t : found_for now_in x row ≡ found_of_row row = found_there now_in edges e x number (source_in x.shape row) (key_in x.shape row) in
      row_count_at now_in edges (filed_now edges all) e x number row whole (subst (λ z. HasExtra z (extra_in x.shape row)) (sym t) same) ∙ ap count_of t

  -- ---- a change at the row's place

  module _ (new : List EdgeRows) (row : Pairs) (whole : IsWholeRow x.shape row) (w : Option Counted) (b : PlaceBecomes edges new (e, source_in x.shape row, key_in x.shape row) w)
      (mine : HasExtra (there w) (extra_in x.shape row)) (was : HasExtra (found_of_row row) (extra_in x.shape row)) where
    pub listing_becomes : listing now_in new ≡ with_count e row (count_of w) (listing now_in edges)
    listing_becomes =
        listing_set now_in edges new e x number (filed_now edges all) (filed_now new b.stored) b.shapes row whole (there w) mine
        (subst (λ z. HasExtra z (extra_in x.shape row)) (sym (found_there now_in edges e x number (source_in x.shape row) (key_in x.shape row))) was) b.now
        ∙ ap (λ n. with_count e row n (listing now_in edges)) (count_there w)

-- ---- rows that stay

-- where what is kept at a place is as it was
pub listing_stays : (edges new : List EdgeRows) → AreStored edges → (place : Place) → PlaceBecomes edges new place (kept_at_place edges place) → listing now_in new ≡ listing now_in edges
listing_stays edges new all place b =
    same_listing now_in now_in new edges (filed_now new b.stored) (filed_now edges all) b.shapes (λ e s k. there_by new e s k
    ∙ ap there (set_as_it_was (found_by kept_in edges) (found_by kept_in new) place b.kept e s k) ∙ sym (there_by edges e s k))

-- ---- one less

pub there_less : (o : Option Counted) (extra : Values) → HasExtra (there o) extra → IsSome (there o) → HasExtra (there (one_less o)) extra
there_less None extra h some = tt
there_less (Some c) extra h some = go (present c) refl h some
  where
    less : (d : Option Counted) → present (c.0, c.1 - 1) ≡ d → c.0 ≡ extra → HasExtra d extra
    less None e h = tt
    less (Some d) e h = ap (λ (z : Counted). z.0) (present_is (c.0, c.1 - 1) d e).0 ∙ h

    go : (o : Option Counted) → present c ≡ o → HasExtra o extra → IsSome o → HasExtra (present (c.0, c.1 - 1)) extra
    go None e h some = absurd (false≢true some)
    go (Some d) e h some = less (present (c.0, c.1 - 1)) refl (sym (ap (λ (z : Counted). z.0) (present_is c d e).0) ∙ h)

pred_of : (n : ℕ) → n - 1 ≡ pred n
pred_of zero = refl
pred_of (suc n) = omega arith

pub count_less : (o : Option Counted) → count_of (one_less o) ≡ pred (count_of o)
count_less None = refl
count_less (Some c) = pred_of c.1

-- ---- edges with no row

none_in : (part : Container → Rows) (o : Option Container) → o ≡ None → (k : Values) → found_in part o k ≡ None
none_in part o h k = ap (λ z. found_in part z k) h

none_at : (part : Container → Rows) (edges : List EdgeRows) → AreEmpty edges → (n : ℕ) (x : EdgeRows) → slice_get edges n ≡ Some x → (s k : Values) → found_at part (sources_of x) s k ≡ None
none_at part edges h n x g s k = none_in part (fin.get (sources_of x) s) (ap (λ (m : FinMap values_cmp Container). fin.get m s) (h x (slice_get_in edges n x g)).0 ∙ get-empty values_cmp s) k

none_found : (part : Container → Rows) (edges : List EdgeRows) → AreEmpty edges → (e : ℕ) (s k : Values) → found_by part edges e s k ≡ None
none_found part edges h e s k = go (slice_get edges e) refl
  where
    go : (o : Option EdgeRows) → slice_get edges e ≡ o → found_of part o s k ≡ None
    go None g = refl
    go (Some x) g = none_at part edges h e x g s k

in_none : {A : Type 0} (xs : List A) → ((x : A) → In x xs → ⊥) → xs ≡ []
in_none [] h = refl
in_none (x ∷ xs) h = absurd (h x (inl refl))

pub none_listed : (part : Container → Rows) (edges : List EdgeRows) → AreEmpty edges → listing part edges ≡ []
none_listed part edges h = in_none (listing part edges) (λ w m.
    let q : IsFoundRow part edges w w.0 = listed_row part edges w m in
    let z : None ≡ Some q.kept = sym (none_at part edges h w.0 q.edge q.number q.source q.key) ∙ q.there in absurd (cc))

pub empty_fragment : (edges : List EdgeRows) → AreEmpty edges → IsFragment edges [] []
empty_fragment edges h = record {
  stored = λ x m.
      let g : (n : ℕ) × (slice_get edges n ≡ Some x) = in_slice_get x edges m in
      record {
        values = λ s k c f. let z : None ≡ Some c = sym (none_at kept_in edges h g.0 x g.1 s k) ∙ f in absurd (cc);
        forms = (h x m).1;
        parted = (h x m).2;
      };
  noted = λ n m. absurd m;
  alone = tt;
  tombstones = λ place c there zero. let z : None ≡ Some c = sym (none_found kept_in edges h place.0 place.1 place.2) ∙ there in absurd (cc);
  emptied = λ e s m. let z : None ≡ Some m.2.0 = sym (ap (λ (n : FinMap values_cmp Container). fin.get n s) (h m.0 (slice_get_in edges e m.0 m.1)).0 ∙ get-empty values_cmp s) ∙ m.2.1 in absurd (cc);
}

-- ---- what is so of every fragment's rows

shape_is : (edges : List EdgeRows) (e : ℕ) (x : EdgeRows) (shape : EdgeShape) → slice_get edges e ≡ Some x → slice_get (shapes edges) e ≡ Some shape → x.shape ≡ shape
shape_is edges e x shape n h = let p : Some x.shape ≡ Some shape = sym (shape_there edges e x n) ∙ h in cc

known_there : {A : Type 0} (xs : List A) (i : ℕ) (x : A) → slice_get xs i ≡ Some x → i < length xs
known_there [] i x g = absurd (cc)
known_there (y ∷ xs) zero x g = omega arith
known_there (y ∷ xs) (suc i) x g = let l : i < length xs = known_there xs i x g in omega arith

pub rows_of_table : (part : Container → Rows) (edges : List EdgeRows) → AreFiled part edges → AreRowsOf (shapes edges) (listing part edges)
rows_of_table part edges filed = record {
  counted = AreCountedRows-listing part edges filed;
  known = λ w m.
      let q : IsFoundRow part edges w w.0 = listed_row part edges w m in
      known_there (shapes edges) w.0 q.edge.shape (shape_there edges w.0 q.edge q.number);
  columns = λ w m shape h.
      let q : IsFoundRow part edges w w.0 = listed_row part edges w m in
      (own_values part edges filed w q.edge q.number q).columns ∙ ap (λ (z : EdgeShape). z.target) (shape_is edges w.0 q.edge shape q.number h);
}
