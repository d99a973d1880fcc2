-- Noted changes: what one is, and how it is undone.
use Rattle.std.specs.Prelude.{◌≡◌, ℕ, ◌+◌, ◌-◌, ◌<◌, ◌≤◌, Bool, true, false, cond, ◌==◌, ◌&&◌, Option, None, Some, IsSome, List, [], ◌∷◌, ◌++◌, ◌⊎◌, length, take, drop}
use Rattle.rc_fragment.proofs.Imports.{slice_get, and_parts, and_from, eqb-true, eq-eqb, length-map, length-append, length-drop, map-append, drop-append-le, take-append-le, In, in_append, in_map, append_in_left, append_in_right, Pairs, cols_of, Values, values_eq, Counted, count_at, with_count, AreCountedRows, EdgeRow, kept_in, now_in, AreAlone, AreNoted, HasAlone, HasColumns, IsFragment, IsNoted, IsSweptBy, NoneIsEmptied, found_by, listing, shapes, AreStored, HasRowValues, IsWithin, IsSetPlace, Place, PlaceBecomes, change_of, changes_of, kept_at_place, key_of, noted_extra, place_of, row_noted, source_of, taken_rows, undone, row_from, IsSetAt, EdgeRows, Note, NotedRow, Committed, EdgeShape}
use Rattle.std.proofs.Common.{refl, sym, ap, subst, ◌∙◌, inl, inr, arith}
use Rattle.rc_fragment.proofs.KeptLemmas.{there_by, there_is}
use Rattle.rc_fragment.proofs.UndoLemmas.{AreOfTable, alone-last, alone_with_count, undone-last, with_count_back}
use Rattle.rc_edges.specs.ValuesLaws.{same_from_test as values_same, test_from_same as values_test}

pub same_length : (xs ys : List EdgeRows) → shapes xs ≡ shapes ys → length xs ≡ length ys
same_length xs ys e = sym (length-map xs (λ (x : EdgeRows). x.shape)) ∙ ap length e ∙ length-map ys (λ (x : EdgeRows). x.shape)

abbrev pub is_place : Place → ℕ → Values → Values → Bool
is_place place e s k = e == place.0 && (values_eq s place.1 && values_eq k place.2)

pub place_is : (place : Place) (e : ℕ) (s k : Values) → is_place place e s k ≡ true → (e ≡ place.0) × (s ≡ place.1) × (k ≡ place.2)
place_is place e s k h =
    let p : ((e == place.0) ≡ true) × ((values_eq s place.1 && values_eq k place.2) ≡ true) = and_parts (e == place.0) (values_eq s place.1 && values_eq k place.2) h in
    let q : (values_eq s place.1 ≡ true) × (values_eq k place.2 ≡ true) = and_parts (values_eq s place.1) (values_eq k place.2) p.1 in
    (eqb-true e place.0 p.0, values_same s place.1 q.0, values_same k place.2 q.1)

pub is_place_of : (place : Place) (e : ℕ) (s k : Values) → (e, s, k) ≡ place → is_place place e s k ≡ true
is_place_of place e s k h =
    and_from (e == place.0) (values_eq s place.1 && values_eq k place.2) (eq-eqb e place.0 (ap (λ (z : Place). z.0) h))
    (and_from (values_eq s place.1) (values_eq k place.2) (values_test s place.1 (ap (λ (z : Place). z.1) h)) (values_test k place.2 (ap (λ (z : Place). z.2) h)))

-- what is set to what it was stays
pub set_as_it_was : (old new : ℕ → Values → Values → Option Counted) (place : Place) → IsSetPlace old new place (old place.0 place.1 place.2) → (e : ℕ) (s k : Values) → new e s k ≡ old e s k
set_as_it_was old new place h e s k = h e s k ∙ go (is_place place e s k) refl
  where
    go : (b : Bool) → is_place place e s k ≡ b → cond b (old place.0 place.1 place.2) (old e s k) ≡ old e s k
    go true t = let p : (e ≡ place.0) × (s ≡ place.1) × (k ≡ place.2) = place_is place e s k t in λ i. old (sym p.0 i) (sym p.1 i) (sym p.2 i)
    go false t = refl

-- what is the same at each place is set to what it was at one
pub set_from_same : (old new : Values → Values → Option Counted) → ((s k : Values) → new s k ≡ old s k) → (source key : Values) → IsSetAt old new source key (old source key)
set_from_same old new h source key s k = h s k ∙ go (values_eq s source && values_eq k key) refl
  where
    go : (b : Bool) → (values_eq s source && values_eq k key) ≡ b → old s k ≡ cond b (old source key) (old s k)
    go true t =
        let p : (values_eq s source ≡ true) × (values_eq k key ≡ true) = and_parts (values_eq s source) (values_eq k key) t in
        let a : s ≡ source = values_same s source p.0 in let b : k ≡ key = values_same k key p.1 in λ i. old (a i) (b i)
    go false t = refl

-- ---- notes over a list of values that grows

part_stays : (xs ys : Values) (start end : ℕ) → start ≤ end → end ≤ length xs → take (end - start) (drop start (xs ++ ys)) ≡ take (end - start) (drop start xs)
part_stays xs ys start end h k =
    let l : length (drop start xs) ≡ length xs - start = length-drop start xs in
    ap (take (end - start)) (drop-append-le start xs ys (omega arith)) ∙ take-append-le (end - start) (drop start xs) ys (omega arith)

module _ (values more : Values) (n : NotedRow) (w : IsWithin (length values) n) where
  pub place_stays : place_of (values ++ more) n ≡ place_of values n
  place_stays =
      let b : n.extra_start ≤ length values = omega (arith, w.extra, w.within) in
      let a : n.key_start ≤ length values = omega (arith, w.key, b) in
      λ i. (n.edge, part_stays values more n.start n.key_start w.source a i, part_stays values more n.key_start n.extra_start w.key b i)

  pub extra_stays : noted_extra (values ++ more) n ≡ noted_extra values n
  extra_stays = part_stays values more n.extra_start n.end w.extra w.within

  row_stays : (o : Option EdgeShape) → row_noted o (values ++ more) n ≡ row_noted o values n
  row_stays None = refl
  row_stays (Some shape) = λ i. row_from shape ((place_stays i).1) ((place_stays i).2) (extra_stays i)

change_stays : (table : List EdgeShape) (values more : Values) (n : Note) → IsWithin (length values) n.row → change_of table (values ++ more) n ≡ change_of table values n
change_stays table values more n w = λ i. (n.row.edge, row_stays values more n.row w (slice_get table n.row.edge) i, n.count)

pub changes_stay : (edges : List EdgeRows) (table : List EdgeShape) (values more : Values) (notes : List Note) → AreNoted edges values notes → changes_of table (values ++ more) notes ≡ changes_of table values notes
changes_stay edges table values more [] h = refl
changes_stay edges table values more (n ∷ notes) h =
    let a : change_of table (values ++ more) n ≡ change_of table values n = change_stays table values more n (h n (inl refl)).within in
    let b : changes_of table (values ++ more) notes ≡ changes_of table values notes = changes_stay edges table values more notes (λ m i. h m (inr i)) in
    λ i. a i ∷ b i

-- the row that a note tells, where it is of an edge of this shape
pub row_of_note : (table : List EdgeShape) (values : Values) (n : Note) (shape : EdgeShape) → slice_get table n.row.edge ≡ Some shape
    → change_of table values n ≡ (n.row.edge, row_from shape (source_of values n.row) (key_of values n.row) (noted_extra values n.row), n.count)
row_of_note table values n shape h = ap (λ o. (n.row.edge, row_noted o values n.row, n.count)) h

-- the noted rows are of edges, and have their columns
pub noted_of_table : (edges : List EdgeRows) (values : Values) (notes : List Note) → AreNoted edges values notes → AreOfTable (shapes edges) (changes_of (shapes edges) values notes)
noted_of_table edges values notes h w m =
    let n : (n : Note) × In n notes × (w ≡ change_of (shapes edges) values n) = in_map (change_of (shapes edges) values) w notes m in
    let k : IsNoted edges values n.0.row = h n.0 n.1 in
    let l : length (shapes edges) ≡ length edges = length-map edges (λ (x : EdgeRows). x.shape) in
    subst (λ (z : EdgeRow). (z.0 < length (shapes edges)) × HasColumns (shapes edges) z.0 z.1) (sym n.2) (
      omega (arith, l, k.edge),
      λ shape at. ap (λ (z : EdgeRow). cols_of z.1) (row_of_note (shapes edges) values n.0 shape at) ∙ (k.row shape at).columns,
    )

-- ---- what a change at a place leaves of the others

module _ (edges new : List EdgeRows) (place : Place) (w : Option Counted) (b : PlaceBecomes edges new place w) where
  -- what is kept stays kept
  pub kept_stays : IsSome w → (other : Place) → IsSome (kept_at_place edges other) → IsSome (kept_at_place new other)
  kept_stays some other there = subst IsSome (sym (b.kept other.0 other.1 other.2)) (go (is_place place other.0 other.1 other.2))
    where
      go : (z : Bool) → IsSome (cond z w (kept_at_place edges other))
      go true = some
      go false = there

  pub noted_stays : (values : Values) (n : NotedRow) → IsNoted edges values n → IsSome (kept_at_place new (place_of values n)) → IsNoted new values n
  noted_stays values n h kept = record {
    edge = let l : length new ≡ length edges = same_length new edges b.shapes in omega (arith, h.edge, l);
    within = h.within;
    row = subst (λ z. HasRowValues z n.edge (source_of values n) (key_of values n) (noted_extra values n)) (sym b.shapes) h.row;
    kept = kept;
  }

  pub noted_all : IsSome w → (values : Values) (notes : List Note) → AreNoted edges values notes → AreNoted new values notes
  noted_all some values notes h n m = noted_stays values n.row (h n m) (kept_stays some (place_of values n.row) (h n m).kept)

  -- what is kept is so at the place, or was before
  pub kept_before : (other : Place) (c : Counted) → kept_at_place new other ≡ Some c → (other ≡ place) ⊎ (kept_at_place edges other ≡ Some c)
  kept_before other c there = go (is_place place other.0 other.1 other.2) refl (sym (b.kept other.0 other.1 other.2) ∙ there)
    where
      go : (z : Bool) → is_place place other.0 other.1 other.2 ≡ z → cond z w (kept_at_place edges other) ≡ Some c → (other ≡ place) ⊎ (kept_at_place edges other ≡ Some c)
      go true t h = let p : (other.0 ≡ place.0) × (other.1 ≡ place.1) × (other.2 ≡ place.2) = place_is place other.0 other.1 other.2 t in inl (λ i. (p.0 i, p.1 i, p.2 i))
      go false t h = inr h

  pub kept_here : kept_at_place new place ≡ w
  kept_here = b.kept place.0 place.1 place.2 ∙ ap (λ z. cond z w (kept_at_place edges place)) (is_place_of place place.0 place.1 place.2 refl)

  pub emptied_still : NoneIsEmptied edges → NoneIsEmptied new
  emptied_still none e s m = none e s (b.emptied e s m)

-- ---- a change with its note

-- what is noted of a list of values stays noted when it grows
pub noted_more : (edges : List EdgeRows) (values more : Values) (n : NotedRow) → IsNoted edges values n → IsNoted edges (values ++ more) n
noted_more edges values more n h =
    let p : place_of (values ++ more) n ≡ place_of values n = place_stays values more n h.within in
    let x : noted_extra (values ++ more) n ≡ noted_extra values n = extra_stays values more n h.within in
    let longer : length (values ++ more) ≡ length values + length more = length-append values more in
    record {
      edge = h.edge;
      within = record { source = h.within.source; key = h.within.key; extra = h.within.extra; within = omega (arith, longer, h.within.within) };
      row = subst (λ (z : Place × Values). HasRowValues (shapes edges) n.edge z.0.1 z.0.2 z.1) (λ i. (sym p i, sym x i)) h.row;
      kept = subst (λ z. IsSome (kept_at_place edges z)) (sym p) h.kept;
    }

-- edges is what the change found, new what it left, n its note, and row the changed row
module _ (edges new : List EdgeRows) (notes : List Note) (values more : Values) (n : Note) (place : Place) (w : Option Counted) (b : PlaceBecomes edges new place w) (some : IsSome w)
    (f : IsFragment edges notes values) (is : place_of (values ++ more) n.row ≡ place) (known : place.0 < length edges) (within : IsWithin (length (values ++ more)) n.row)
    (values_is : HasRowValues (shapes edges) n.row.edge (source_of (values ++ more) n.row) (key_of (values ++ more) n.row) (noted_extra (values ++ more) n.row))
    (row : Pairs) (told : change_of (shapes edges) (values ++ more) n ≡ (place.0, row, count_at place.0 row (listing now_in edges)))
    (counted : AreCountedRows (listing now_in edges)) (m : ℕ) (now : listing now_in new ≡ with_count place.0 row m (listing now_in edges)) where
  changes_new : changes_of (shapes new) (values ++ more) (notes ++ n ∷ []) ≡ changes_of (shapes edges) values notes ++ (place.0, row, count_at place.0 row (listing now_in edges)) ∷ []
  changes_new =
      ap (λ z. changes_of z (values ++ more) (notes ++ n ∷ [])) b.shapes ∙ map-append (change_of (shapes edges) (values ++ more)) notes (n ∷ [])
      ∙ (λ i. changes_stay edges (shapes edges) values more notes f.noted i ++ told i ∷ [])

  back : with_count place.0 row (count_at place.0 row (listing now_in edges)) (listing now_in new) ≡ listing now_in edges
  back = ap (with_count place.0 row (count_at place.0 row (listing now_in edges))) now ∙ with_count_back place.0 row m (listing now_in edges) counted

  -- the rows as taken stay
  pub taken_noted : taken_rows new (notes ++ n ∷ []) (values ++ more) ≡ taken_rows edges notes values
  taken_noted =
      ap (λ z. undone z (listing now_in new)) changes_new ∙ undone-last (changes_of (shapes edges) values notes) (place.0, row, count_at place.0 row (listing now_in edges)) (listing now_in new)
      ∙ ap (undone (changes_of (shapes edges) values notes)) back

  pub fragment_noted : HasAlone (shapes edges) (listing now_in edges) place.0 row → ((c : Counted) → w ≡ Some c → c.1 ≡ 0 → n.took_out ≡ true) → IsFragment new (notes ++ n ∷ []) (values ++ more)
  fragment_noted alone took = record {
    stored = b.stored;
    noted = λ o i. elim (in_append o notes (n ∷ []) i) [
      | inl a ↦ (let h : IsNoted edges (values ++ more) o.row = noted_more edges values more o.row (f.noted o a) in noted_stays edges new place w b (values ++ more) o.row h (kept_stays edges new place w b some (place_of (values ++ more) o.row) h.kept))
      | inr (inl e) ↦ subst (λ (z : Note). IsNoted new (values ++ more) z.row) (sym e) mine
      | inr (inr z) ↦ absurd z
    ];
    alone = subst (λ z. AreAlone (shapes new) z (listing now_in new)) (sym changes_new)
        (alone-last (shapes new) (changes_of (shapes edges) values notes) (place.0, row, count_at place.0 row (listing now_in edges)) (listing now_in new)
        (subst (λ z. HasAlone (shapes new) z place.0 row) (sym now) (alone_with_count (shapes new) place.0 row m (listing now_in edges) (subst (λ z. HasAlone z (listing now_in edges) place.0 row) (sym b.shapes) alone)))
        (subst (λ z. AreAlone (shapes new) (changes_of (shapes edges) values notes) z) (sym back) (subst (λ z. AreAlone z (changes_of (shapes edges) values notes) (listing now_in edges)) (sym b.shapes) f.alone)));
    tombstones = λ other c there zero. elim (kept_before edges new place w b other c there) [
      | inl p ↦ (
        n,
        append_in_right n notes (n ∷ []) (inl refl),
        took c (sym (kept_here edges new place w b) ∙ ap (kept_at_place new) (sym p) ∙ there) zero,
        is ∙ sym p,
      )
      | inr before ↦ (
          let v : IsSweptBy Committed values notes other = f.tombstones other c before zero in (
            v.0,
            append_in_left v.0 notes (n ∷ []) v.1,
            v.2,
            place_stays values more v.0.row (f.noted v.0 v.1).within ∙ v.3,
          )
          )
    ];
    emptied = emptied_still edges new place w b f.emptied;
  }
    where
      mine : IsNoted new (values ++ more) n.row
      mine = record {
        edge = let l : length new ≡ length edges = same_length new edges b.shapes in let e : n.row.edge ≡ place.0 = ap (λ (z : Place). z.0) is in omega (arith, l, e, known);
        within = within;
        row = subst (λ z. HasRowValues z n.row.edge (source_of (values ++ more) n.row) (key_of (values ++ more) n.row) (noted_extra (values ++ more) n.row)) (sym b.shapes) values_is;
        kept = subst (λ z. IsSome (kept_at_place new z)) (sym is) (subst IsSome (sym (kept_here edges new place w b)) some);
      }

-- ---- where nothing changes, and where nothing is noted

pub fragment_same : (edges new : List EdgeRows) (notes : List Note) (values : Values) (place : Place) → IsFragment edges notes values → PlaceBecomes edges new place (kept_at_place edges place)
    → listing now_in new ≡ listing now_in edges → IsFragment new notes values
fragment_same edges new notes values place f b now = record {
  stored = b.stored;
  noted = λ n m. noted_stays edges new place (kept_at_place edges place) b values n.row (f.noted n m) (subst IsSome (sym (same n.row.edge (source_of values n.row) (key_of values n.row))) (f.noted n m).kept);
  alone = subst (λ z. AreAlone (shapes new) (changes_of (shapes new) values notes) z) (sym now) (subst (λ z. AreAlone z (changes_of z values notes) (listing now_in edges)) (sym b.shapes) f.alone);
  tombstones = λ other c there zero. f.tombstones other c (sym (same other.0 other.1 other.2) ∙ there) zero;
  emptied = emptied_still edges new place (kept_at_place edges place) b f.emptied;
}
  where
    same : (e : ℕ) (s k : Values) → found_by kept_in new e s k ≡ found_by kept_in edges e s k
    same e s k = set_as_it_was (found_by kept_in edges) (found_by kept_in new) place b.kept e s k

-- where no tombstone is kept, nothing need be noted
pub fragment_clear : (new : List EdgeRows) → AreStored new → ((e : ℕ) (s k : Values) → found_by kept_in new e s k ≡ found_by now_in new e s k) → NoneIsEmptied new → IsFragment new [] []
fragment_clear new stored swept emptied = record {
  stored = stored;
  noted = λ n m. absurd m;
  alone = tt;
  tombstones = λ place c there zero.
      let now : found_by now_in new place.0 place.1 place.2 ≡ Some c = sym (swept place.0 place.1 place.2) ∙ there in
      let l : 0 < c.1 = (there_is (kept_at_place new place) c (sym (there_by new place.0 place.1 place.2) ∙ now)).1 in
      absurd (omega (arith, l, zero));
  emptied = emptied;
}
