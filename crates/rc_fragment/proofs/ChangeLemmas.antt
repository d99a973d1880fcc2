-- What a change at one edge, source and key is to the rows of all edges.
use Rattle.std.specs.Prelude.{◌≡◌, ℕ, zero, suc, ◌-◌, ◌<◌, Bool, true, false, cond, ◌==◌, ◌&&◌, Option, None, Some, IsSome, List, [], ◌∷◌, ◌⊎◌, map, length, slice_set}
use Rattle.rc_fragment.proofs.Imports.{slice_get, false≢true, and_parts, and_from, eqb-true, eq-eqb, slice_get-get_or, In, slice_get_in, Pairs, tuple_eq, same_from_test, test_from_same, Values, values_eq, Counted, HasAsMany, HasExtra, Rows, count_of, one_less, count_at, is_row_at, with_count, same_counts, AreCountedRows-with_count, count-with_count, kept_in, now_in, IsEmptiedAt, PlaceBecomes, HasValues, IsParted, extra_columns, row_from, extra_set, extra_within, length_values, AreOfWidth, found_at, kept_at, sources_of, IsEmptied, IsSetAt, Becomes, listing, shapes, found_of, found_by, IsFiled, IsStored, AreStored, Container, EdgeRows, EdgeShape}
use Rattle.std.proofs.Common.{refl, sym, ap, subst, ◌∙◌, inl, inr, get_or}
use Rattle.rc_fragment.proofs.KeptLemmas.{set_there, there, there_is}
use Rattle.rc_fragment.proofs.ListingLemmas.{count_of_row, count_of_edge, extra_in, found_for, key_in, row_with, source_in, AreCountedRows-listing, count_listed}
use Rattle.rc_edges.specs.ValuesLaws.{same_from_test as values_same, test_from_same as values_test}

-- ---- a place of a list set

pub get_set_same : {A : Type 0} (xs : List A) (i : ℕ) (x y : A) → slice_get xs i ≡ Some x → slice_get (slice_set xs i y) i ≡ Some y
get_set_same [] i x y h = absurd (cc)
get_set_same (z ∷ xs) zero x y h = refl
get_set_same (z ∷ xs) (suc i) x y h = get_set_same xs i x y h

pub get_set_other : {A : Type 0} (xs : List A) (i : ℕ) (y : A) (d : ℕ) → (d ≡ i → ⊥) → slice_get (slice_set xs i y) d ≡ slice_get xs d
get_set_other [] i y d n = refl
get_set_other (x ∷ xs) zero y zero n = absurd (n refl)
get_set_other (x ∷ xs) zero y (suc d) n = refl
get_set_other (x ∷ xs) (suc i) y zero n = refl
get_set_other (x ∷ xs) (suc i) y (suc d) n = get_set_other xs i y d (λ e. n (ap suc e))

in_set : {A : Type 0} (z : A) (xs : List A) (i : ℕ) (y : A) → In z (slice_set xs i y) → (z ≡ y) ⊎ In z xs
in_set z [] i y h = absurd h
in_set z (x ∷ xs) zero y (inl e) = inl e
in_set z (x ∷ xs) zero y (inr m) = inr (inr m)
in_set z (x ∷ xs) (suc i) y (inl e) = inr (inl e)
in_set z (x ∷ xs) (suc i) y (inr m) = elim (in_set z xs i y m) [ inl e ↦ inl e | inr n ↦ inr (inr n) ]

map_set : {A B : Type 0} (f : A → B) (xs : List A) (i : ℕ) (x y : A) → slice_get xs i ≡ Some x → f y ≡ f x → map f (slice_set xs i y) ≡ map f xs
map_set f [] i x y g h = refl
map_set f (z ∷ xs) zero x y g h = let p : z ≡ x = cc in ap (λ w. w ∷ map f xs) (h ∙ ap f (sym p))
map_set f (z ∷ xs) (suc i) x y g h = ap (λ w. f z ∷ w) (map_set f xs i x y g h)

abbrev pub AreFiled : (Container → Rows) → List EdgeRows → Type 0
AreFiled part edges = (n : ℕ) (x : EdgeRows) → slice_get edges n ≡ Some x → IsFiled part x

-- ---- lists of rows that are found alike

same_shape : (new old : List EdgeRows) → shapes new ≡ shapes old → (d : ℕ) (y z : EdgeRows) → slice_get new d ≡ Some y → slice_get old d ≡ Some z → y.shape ≡ z.shape
same_shape [] old e d y z g h = absurd (cc)
same_shape (a ∷ new) [] e d y z g h = absurd (cc)
same_shape (a ∷ new) (b ∷ old) e zero y z g h = let p : a ≡ y = cc in let q : b ≡ z = cc in let r : a.shape ≡ b.shape = cc in ap (λ (w : EdgeRows). w.shape) (sym p) ∙ r ∙ ap (λ (w : EdgeRows). w.shape) q
same_shape (a ∷ new) (b ∷ old) e (suc d) y z g h = same_shape new old (cc) d y z g h

-- an edge's counts are determined by what is found in it
edge_count : (part other : Container → Rows) (o p : Option EdgeRows) (row : Pairs) → ((y z : EdgeRows) → o ≡ Some y → p ≡ Some z → y.shape ≡ z.shape) → ((s k : Values) → found_of part o s k ≡ found_of other p s k)
    → count_of_edge part o row ≡ count_of_edge other p row
edge_count part other None None row s f = refl
edge_count part other None (Some z) row s f = ap (count_of_row z.shape row) (f (source_in z.shape row) (key_in z.shape row))
edge_count part other (Some y) None row s f = ap (count_of_row y.shape row) (f (source_in y.shape row) (key_in y.shape row))
edge_count part other (Some y) (Some z) row s f =
    ap (count_of_row y.shape row) (f (source_in y.shape row) (key_in y.shape row))
    ∙ ap (λ (t : EdgeShape). count_of_row t row (found_at other (sources_of z) (source_in t row) (key_in t row))) (s y z refl refl)

module _ (part other : Container → Rows) (new old : List EdgeRows) (a : AreFiled part new) (b : AreFiled other old) (same : shapes new ≡ shapes old) where
  pub same_listing : ((d : ℕ) (s k : Values) → found_by part new d s k ≡ found_by other old d s k) → listing part new ≡ listing other old
  same_listing f = same_counts (listing part new) (listing other old) (AreCountedRows-listing part new a) (AreCountedRows-listing other old b)
      (λ d row. count_listed part new a d row ∙ edge_count part other (slice_get new d) (slice_get old d) row (same_shape new old same d) (f d) ∙ sym (count_listed other old b d row))

-- ---- a change at one edge, source and key

module _ (edges new : List EdgeRows) (e : ℕ) (x y : EdgeRows) (number : slice_get edges e ≡ Some x) (set : new ≡ slice_set edges e y) where
  get_new : (d : ℕ) → slice_get new d ≡ cond (d == e) (Some y) (slice_get edges d)
  get_new d = ap (λ z. slice_get z d) set ∙ go (d == e) refl
    where
      go : (b : Bool) → (d == e) ≡ b → slice_get (slice_set edges e y) d ≡ cond b (Some y) (slice_get edges d)
      go true h = ap (slice_get (slice_set edges e y)) (eqb-true d e h) ∙ get_set_same edges e x y number
      go false h = get_set_other edges e y d (λ p. false≢true (sym h ∙ eq-eqb d e p))

  pub shapes_set : y.shape ≡ x.shape → shapes new ≡ shapes edges
  shapes_set s = ap shapes set ∙ map_set (λ (z : EdgeRows). z.shape) edges e x y number s

  pub stored_set : AreStored edges → IsStored y → AreStored new
  stored_set all here z m = elim (in_set z edges e y (subst (In z) set m)) [ inl p ↦ subst IsStored (sym p) here | inr n ↦ all z n ]

  pub found_set : (part : Container → Rows) (source key : Values) (w : Option Counted) → IsSetAt (found_at part (sources_of x)) (found_at part (sources_of y)) source key w
      → (d : ℕ) (s k : Values) → found_by part new d s k ≡ cond (d == e && (values_eq s source && values_eq k key)) w (found_by part edges d s k)
  found_set part source key w is d s k = ap (λ o. found_of part o s k) (get_new d) ∙ go (d == e) refl
    where
      go : (b : Bool) → (d == e) ≡ b → found_of part (cond b (Some y) (slice_get edges d)) s k ≡ cond (b && (values_eq s source && values_eq k key)) w (found_by part edges d s k)
      go true h = is s k ∙ ap (cond (values_eq s source && values_eq k key) w) (sym (ap (λ o. found_of part o s k) (ap (slice_get edges) (eqb-true d e h) ∙ number)))
      go false h = refl

  -- no more containers are left with no row
  pub emptied_set : ((s : Values) → IsEmptied (sources_of y) s → IsEmptied (sources_of x) s) → (d : ℕ) (s : Values) → IsEmptiedAt new d s → IsEmptiedAt edges d s
  emptied_set f d s m = go (d == e) refl (sym (get_new d) ∙ m.1)
    where
      go : (b : Bool) → (d == e) ≡ b → cond b (Some y) (slice_get edges d) ≡ Some m.0 → IsEmptiedAt edges d s
      go true h p = let q : y ≡ m.0 = cc in (x, ap (slice_get edges) (eqb-true d e h) ∙ number, f s (subst (λ (z : EdgeRows). IsEmptied (sources_of z) s) (sym q) m.2))
      go false h p = (m.0, p, m.2)

-- what is kept at a source and a key, if anything, are the extra values of a row of them
abbrev pub IsOfPlace : EdgeRows → Values → Values → Option Counted → Type 0
IsOfPlace x source key w = (c : Counted) → w ≡ Some c → HasValues x.shape (row_from x.shape source key c.0) source key c.0

pub values_set : (x y : EdgeRows) → y.shape ≡ x.shape → IsStored x → (source key : Values) (w : Option Counted) → IsOfPlace x source key w → IsSetAt (kept_at x) (kept_at y) source key w
    → (s k : Values) (c : Counted) → kept_at y s k ≡ Some c → HasValues y.shape (row_from y.shape s k c.0) s k c.0
values_set x y shape f source key w p is s k c h =
    subst (λ (z : EdgeShape). HasValues z (row_from z s k c.0) s k c.0) (sym shape) (cases (values_eq s source && values_eq k key) refl (sym (is s k) ∙ h))
  where
    cases : (b : Bool) → (values_eq s source && values_eq k key) ≡ b → cond b w (kept_at x s k) ≡ Some c → HasValues x.shape (row_from x.shape s k c.0) s k c.0
    cases true t here =
        let q : (values_eq s source ≡ true) × (values_eq k key ≡ true) = and_parts (values_eq s source) (values_eq k key) t in
        subst (λ z. HasValues x.shape (row_from x.shape z k c.0) z k c.0) (sym (values_same s source q.0))
        (subst (λ z. HasValues x.shape (row_from x.shape source z c.0) source z c.0) (sym (values_same k key q.1)) (p c here))
    cases false t there = f.values s k c there

-- a change of one edge's rows at a source and a key is one at a place of all edges
pub place_becomes : (edges new : List EdgeRows) (e : ℕ) (x y : EdgeRows) → slice_get edges e ≡ Some x → new ≡ slice_set edges e y → AreStored edges
    → (source key : Values) (w : Option Counted) → Becomes x y source key w → IsOfPlace x source key w → PlaceBecomes edges new (e, source, key) w
place_becomes edges new e x y number set all source key w b p =
    let s : IsStored x = all x (slice_get_in edges e x number) in
    record {
      kept = found_set edges new e x y number set kept_in source key w b.kept;
      now = found_set edges new e x y number set now_in source key (there w) (set_there x y source key w b.kept);
      emptied = emptied_set edges new e x y number set b.emptied;
      stored = stored_set edges new e x y number set all record {
        values = values_set x y b.shape s source key w p b.kept;
        forms = b.forms;
        parted = subst IsParted (sym b.shape) s.parted;
      };
      shapes = shapes_set edges new e x y number set b.shape;
    }

-- where the edge becomes so, by what was kept at the source and the key, the edges do at the place
pub place_changed : (edges : List EdgeRows) (e : ℕ) (x y : EdgeRows) (number : slice_get edges e ≡ Some x) → AreStored edges → (source key : Values) (change : Option Counted → Option Counted)
    → Becomes x y source key (change (kept_at x source key)) → IsOfPlace x source key (change (kept_at x source key)) → PlaceBecomes edges (slice_set edges e y) (e, source, key) (change (found_by kept_in edges e source key))
place_changed edges e x y number all source key change b p =
    subst (λ z. PlaceBecomes edges (slice_set edges e y) (e, source, key) (change z)) (sym (ap (λ o. found_of kept_in o source key) number))
    (place_becomes edges (slice_set edges e y) e x y number refl all source key (change (kept_at x source key)) b p)

-- what is kept at a source and a key is of the place
pub place_of_kept : (x : EdgeRows) → IsStored x → (source key : Values) → IsOfPlace x source key (kept_at x source key)
place_of_kept x h source key c there = h.values source key c there

-- an edge that was found by its number
pub found_edge : (edges : List EdgeRows) (e : ℕ) (x : EdgeRows) → e < length edges → x ≡ get_or edges e x → slice_get edges e ≡ Some x
found_edge edges e x l is = slice_get-get_or edges e x l ∙ ap Some (sym is)

-- what is found at a place of it
pub found_there : (part : Container → Rows) (edges : List EdgeRows) (e : ℕ) (x : EdgeRows) → slice_get edges e ≡ Some x → (source key : Values) → found_at part (sources_of x) source key ≡ found_by part edges e source key
found_there part edges e x number source key = sym (ap (λ o. found_of part o source key) number)

pub place_of_row : (x : EdgeRows) (source key extra : Values) (n : ℕ) → HasValues x.shape (row_from x.shape source key extra) source key extra → IsOfPlace x source key (Some (extra, n))
place_of_row x source key extra n v c h = let q : (extra, n) ≡ c = cc in subst (λ (z : Counted). HasValues x.shape (row_from x.shape source key z.0) source key z.0) q v

-- source and key of a row have the edge's width
pub width_of_row : (shape : EdgeShape) → IsParted shape → (row : Pairs) (source key extra : Values) → HasValues shape row source key extra → AreOfWidth shape source key
width_of_row shape parted row source key extra v = record {
  source_width = ap length (sym v.source_is) ∙ length_values shape.target shape.source row parted.target.rising parted.source.rising parted.source_within v.columns;
  key_width = ap length (sym v.key_is) ∙ length_values shape.target shape.key row parted.target.rising parted.key.rising parted.key_within v.columns;
}

-- a row of the source and the key has as many extra values as what is kept there
pub as_many : (x : EdgeRows) → IsStored x → (source key extra : Values) → HasValues x.shape (row_from x.shape source key extra) source key extra → IsSome (kept_at x source key) → HasAsMany (kept_at x source key) extra
as_many x h source key extra v some = go (kept_at x source key) refl some
  where
    wide : (other : Values) → HasValues x.shape (row_from x.shape source key other) source key other → length other ≡ length (extra_columns x.shape)
    wide other w =
        ap length (sym w.extra_is) ∙ length_values x.shape.target (extra_columns x.shape) (row_from x.shape source key other) h.parted.target.rising (extra_set x.shape h.parted).rising (extra_within x.shape h.parted) w.columns

    go : (o : Option Counted) → kept_at x source key ≡ o → IsSome o → HasAsMany o extra
    go None e s = absurd (false≢true s)
    go (Some c) e s = wide c.0 (h.values source key c e) ∙ sym (wide extra v)

pub place_of_less : (x : EdgeRows) (source key : Values) (o : Option Counted) → IsOfPlace x source key o → IsOfPlace x source key (one_less o)
place_of_less x source key None p c h = p c h
place_of_less x source key (Some d) p c h = let q : (d.0, d.1 - 1) ≡ c = cc in subst (λ (z : Counted). HasValues x.shape (row_from x.shape source key z.0) source key z.0) q (p d refl)

pub place_of_there : (x : EdgeRows) (source key : Values) (o : Option Counted) → IsOfPlace x source key o → IsOfPlace x source key (there o)
place_of_there x source key o p c h = p c (there_is o c h).0

-- ---- a row's count set

not_true : (b : Bool) → (b ≡ true → ⊥) → b ≡ false
not_true true h = absurd (h refl)
not_true false h = refl

-- the row is the one with its values, as each over the target's columns is
abbrev pub IsWholeRow : EdgeShape → Pairs → Type 0
IsWholeRow shape row = row_with shape row (extra_in shape row) ≡ row

-- what is found, if anything, is the row, and its count is the row's
row_count : (shape : EdgeShape) (row : Pairs) (o : Option Counted) → IsWholeRow shape row → HasExtra o (extra_in shape row) → count_of_row shape row o ≡ count_of o
row_count shape row None whole h = refl
row_count shape row (Some c) whole h = ap (λ b. cond b c.1 0) (test_from_same (row_with shape row c.0) row (ap (row_with shape row) h ∙ whole))

-- another row with the same source and key has no count there
other_count : (shape : EdgeShape) (row q : Pairs) (o : Option Counted) → IsWholeRow shape row → source_in shape q ≡ source_in shape row → key_in shape q ≡ key_in shape row
    → HasExtra o (extra_in shape row) → tuple_eq row q ≡ false → count_of_row shape q o ≡ 0
other_count shape row q None whole s k h t = refl
other_count shape row q (Some c) whole s k h t =
    let is : row_with shape q c.0 ≡ row = (λ i. row_from shape (s i) (k i) (h i)) ∙ whole in
    ap (λ z. cond (tuple_eq z q) c.1 0) is ∙ ap (λ b. cond b c.1 0) t

-- a row's count is that of what is found at its place, where this is the row
pub row_count_at : (part : Container → Rows) (edges : List EdgeRows) → AreFiled part edges → (e : ℕ) (x : EdgeRows) → slice_get edges e ≡ Some x → (row : Pairs)
    → IsWholeRow x.shape row → HasExtra (found_for part x row) (extra_in x.shape row) → count_at e row (listing part edges) ≡ count_of (found_for part x row)
row_count_at part edges a e x number row whole was =
    count_listed part edges a e row ∙ ap (λ o. count_of_edge part o row) number ∙ row_count x.shape row (found_for part x row) whole was

module _ (part : Container → Rows) (edges new : List EdgeRows) (e : ℕ) (x : EdgeRows) (number : slice_get edges e ≡ Some x) (a : AreFiled part edges) (b : AreFiled part new) (same : shapes new ≡ shapes edges)
    (row : Pairs) (whole : IsWholeRow x.shape row) (w : Option Counted) (mine : HasExtra w (extra_in x.shape row)) (was : HasExtra (found_for part x row) (extra_in x.shape row))
    (set : (d : ℕ) (s k : Values) → found_by part new d s k ≡ cond (d == e && (values_eq s (source_in x.shape row) && values_eq k (key_in x.shape row))) w (found_by part edges d s k)) where
  -- whether a row has the source and key of this one
  abbrev has_place : Pairs → Bool
  has_place q = values_eq (source_in x.shape q) (source_in x.shape row) && values_eq (key_in x.shape q) (key_in x.shape row)

  abbrev found_new : Pairs → Option Counted
  found_new q = found_by part new e (source_in x.shape q) (key_in x.shape q)

  abbrev found_old : Pairs → Option Counted
  found_old q = found_by part edges e (source_in x.shape q) (key_in x.shape q)

  at_edge : (q : Pairs) → count_of_row x.shape q (found_new q) ≡ cond (tuple_eq row q) (count_of w) (count_of_row x.shape q (found_old q))
  at_edge q = ap (count_of_row x.shape q) (set e (source_in x.shape q) (key_in x.shape q)) ∙ by_row (tuple_eq row q) refl
    where
      here : (e == e) ≡ true
      here = eq-eqb e e refl

      by_row : (t : Bool) → tuple_eq row q ≡ t → count_of_row x.shape q (cond (e == e && has_place q) w (found_old q)) ≡ cond t (count_of w) (count_of_row x.shape q (found_old q))
      by_row true t =
          let p : q ≡ row = sym (same_from_test row q t) in
          let s : values_eq (source_in x.shape q) (source_in x.shape row) ≡ true = values_test (source_in x.shape q) (source_in x.shape row) (ap (source_in x.shape) p) in
          let k : values_eq (key_in x.shape q) (key_in x.shape row) ≡ true = values_test (key_in x.shape q) (key_in x.shape row) (ap (key_in x.shape) p) in
          ap (λ z. count_of_row x.shape q (cond z w (found_old q)))
          (and_from (e == e) (has_place q) here (and_from (values_eq (source_in x.shape q) (source_in x.shape row)) (values_eq (key_in x.shape q) (key_in x.shape row)) s k))
          ∙ ap (λ z. count_of_row x.shape z w) p ∙ row_count x.shape row w whole mine
      by_row false t = by_place (e == e && has_place q) refl
        where
          by_place : (z : Bool) → (e == e && has_place q) ≡ z → count_of_row x.shape q (cond z w (found_old q)) ≡ count_of_row x.shape q (found_old q)
          by_place true h =
              let c : has_place q ≡ true = (and_parts (e == e) (has_place q) h).1 in
              let p : (values_eq (source_in x.shape q) (source_in x.shape row) ≡ true) × (values_eq (key_in x.shape q) (key_in x.shape row) ≡ true) =
              and_parts (values_eq (source_in x.shape q) (source_in x.shape row)) (values_eq (key_in x.shape q) (key_in x.shape row)) c in
              let s : source_in x.shape q ≡ source_in x.shape row = values_same (source_in x.shape q) (source_in x.shape row) p.0 in
              let k : key_in x.shape q ≡ key_in x.shape row = values_same (key_in x.shape q) (key_in x.shape row) p.1 in
              let old : found_old q ≡ found_for part x row = ap (λ o. found_of part o (source_in x.shape q) (key_in x.shape q)) number ∙ (λ i. found_at part (sources_of x) (s i) (k i)) in
              other_count x.shape row q w whole s k mine t ∙ sym (ap (count_of_row x.shape q) old ∙ other_count x.shape row q (found_for part x row) whole s k was t)
          by_place false h = refl

  -- the rows with this count for the row
  pub listing_set : listing part new ≡ with_count e row (count_of w) (listing part edges)
  listing_set = same_counts (listing part new) (with_count e row (count_of w) (listing part edges)) (AreCountedRows-listing part new b)
      (AreCountedRows-with_count e row (count_of w) (listing part edges) (AreCountedRows-listing part edges a))
      (λ d q. count_listed part new b d q ∙ by_edge d q (e == d) refl
      ∙ ap (cond (is_row_at d q (e, row, count_of w)) (count_of w)) (sym (count_listed part edges a d q))
      ∙ sym (count-with_count e row (count_of w) (listing part edges) (AreCountedRows-listing part edges a) d q))
    where
      with_shape : (q : Pairs) (o : Option EdgeRows) → ((y : EdgeRows) → o ≡ Some y → y.shape ≡ x.shape) → count_of_edge part o q ≡ count_of_row x.shape q (found_of part o (source_in x.shape q) (key_in x.shape q))
      with_shape q None s = refl
      with_shape q (Some y) s = ap (λ (t : EdgeShape). count_of_row t q (found_at part (sources_of y) (source_in t q) (key_in t q))) (s y refl)

      apart : (d : ℕ) → (e == d) ≡ false → (d == e) ≡ false
      apart d t = not_true (d == e) (λ h. false≢true (sym t ∙ eq-eqb e d (sym (eqb-true d e h))))

      by_edge : (d : ℕ) (q : Pairs) (z : Bool) → (e == d) ≡ z → count_of_edge part (slice_get new d) q ≡ cond (z && tuple_eq row q) (count_of w) (count_of_edge part (slice_get edges d) q)
      by_edge d q true t =
          let p : e ≡ d = eqb-true e d t in
          subst (λ n. count_of_edge part (slice_get new n) q ≡ cond (tuple_eq row q) (count_of w) (count_of_edge part (slice_get edges n) q)) p
          (with_shape q (slice_get new e) (λ y g. same_shape new edges same e y x g number) ∙ at_edge q
          ∙ ap (cond (tuple_eq row q) (count_of w)) (sym (with_shape q (slice_get edges e) (λ y g. let r : y ≡ x = cc in ap (λ (v : EdgeRows). v.shape) r))))
      by_edge d q false t =
          edge_count part part (slice_get new d) (slice_get edges d) q (same_shape new edges same d)
          (λ s k. set d s k ∙ ap (λ z. cond (z && (values_eq s (source_in x.shape row) && values_eq k (key_in x.shape row))) w (found_by part edges d s k)) (apart d t))
