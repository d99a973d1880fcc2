-- A change of a row's count with the note of it: what is noted, and what is left to be undone.
use Rattle.std.specs.Prelude.{◌≡◌, ◌==◌, ℕ, zero, suc, pred, false, ◌+◌, ◌<◌, true, Option, None, Some, IsSome, List, [], ◌∷◌, ◌++◌, length}
use Rattle.rc_fragment.proofs.Imports.{slice_get, slice_get_in, Pairs, cols_of, eq-eqb, false≢true, counts, Values, Counted, HasExtra, count_of, one_less, count_at, lowered, raised, with_count, EdgeRow, kept_in, now_in, HasAlone, IsFragment, AreStored, found_by, listing, shapes, HasRowValues, IsWithin, Place, PlaceBecomes, change_of, kept_at_place, key_of, noted_extra, place_of, source_of, taken_rows, HasValues, row_from, values_of_row, EdgeRows, Note, NotedRow, EdgeShape}
use Rattle.std.proofs.Common.{refl, sym, ap, subst, ◌∙◌, arith}
use Rattle.rc_fragment.proofs.ChangeLemmas.{IsWholeRow}
use Rattle.rc_fragment.proofs.KeptLemmas.{count_there, kept_some, less_some, there, there_by}
use Rattle.rc_fragment.proofs.ListingLemmas.{AreCountedRows-listing, extra_in, key_in, source_in}
use Rattle.rc_fragment.proofs.PlaceLemmas.{fragment_noted, row_of_note, taken_noted}
use Rattle.rc_fragment.proofs.RevertLemmas.{present_extra}
use Rattle.rc_fragment.proofs.RowLemmas.{count_found_row, count_less, filed_now, listing_becomes, shape_there, there_less, whole_row}

-- the note is of the row of this edge, with its values in the list
pub record IsNoteOf (e : ℕ) (x : EdgeRows) (row : Pairs) (values : Values) (n : NotedRow) : Type 0 where
  pub place : place_of values n ≡ (e, source_in x.shape row, key_in x.shape row)
  pub extra : noted_extra values n ≡ extra_in x.shape row
  pub within : IsWithin (length values) n

-- ---- what a call says of a noted place, said of the row's

module _ (edges new : List EdgeRows) (e : ℕ) (x : EdgeRows) (row : Pairs) (values read : Values) (is : read ≡ values) (n : NotedRow) (of : IsNoteOf e x row values n) where
  abbrev pub row_place : Place
  row_place = (e, source_in x.shape row, key_in x.shape row)

  pub at_row : place_of read n ≡ row_place
  at_row = ap (λ z. place_of z n) is ∙ of.place

  pub place_added : PlaceBecomes edges new (place_of read n) (Some (noted_extra read n, count_of (kept_at_place edges (place_of read n)) + 1))
      → PlaceBecomes edges new row_place (Some (extra_in x.shape row, count_of (kept_at_place edges row_place) + 1))
  place_added b = subst (λ (z : Place × Values). PlaceBecomes edges new z.0 (Some (z.1, count_of (kept_at_place edges z.0) + 1))) (λ i. (at_row i, (ap (λ z. noted_extra z n) is ∙ of.extra) i)) b

  pub place_lowered : PlaceBecomes edges new (place_of read n) (one_less (kept_at_place edges (place_of read n))) → PlaceBecomes edges new row_place (one_less (kept_at_place edges row_place))
  place_lowered b = subst (λ z. PlaceBecomes edges new z (one_less (kept_at_place edges z))) at_row b

-- ---- the rows then

module _ (edges new : List EdgeRows) (stored : AreStored edges) (e : ℕ) (x : EdgeRows) (number : slice_get edges e ≡ Some x) (row : Pairs) (over : cols_of row ≡ x.shape.target)
    (own : HasExtra (found_by now_in edges e (source_in x.shape row) (key_in x.shape row)) (extra_in x.shape row)) where
  abbrev kept_here : Option Counted
  kept_here = found_by kept_in edges e (source_in x.shape row) (key_in x.shape row)

  whole : IsWholeRow x.shape row
  whole = whole_row edges stored e x number row over

  -- what is kept at the row's place has the row's count
  pub own_count : count_at e row (listing now_in edges) ≡ count_of kept_here
  own_count = count_found_row edges stored e x number row whole own ∙ ap count_of (there_by edges e (source_in x.shape row) (key_in x.shape row)) ∙ count_there kept_here

  pub rows_raised : PlaceBecomes edges new (e, source_in x.shape row, key_in x.shape row) (Some (extra_in x.shape row, count_of kept_here + 1)) → listing now_in new ≡ raised e row (listing now_in edges)
  rows_raised b =
      let q : count_of kept_here + 1 ≡ suc (count_at e row (listing now_in edges)) = omega (arith, own_count) in
      listing_becomes edges stored e x number new row whole (Some (extra_in x.shape row, count_of kept_here + 1)) b (present_extra (extra_in x.shape row, count_of kept_here + 1) (extra_in x.shape row) refl) own
      ∙ ap (λ z. with_count e row z (listing now_in edges)) q

  pub rows_lowered : IsSome (found_by now_in edges e (source_in x.shape row) (key_in x.shape row)) → PlaceBecomes edges new (e, source_in x.shape row, key_in x.shape row) (one_less kept_here)
      → listing now_in new ≡ lowered e row (listing now_in edges)
  rows_lowered some b =
      let by : found_by now_in edges e (source_in x.shape row) (key_in x.shape row) ≡ there kept_here = there_by edges e (source_in x.shape row) (key_in x.shape row) in
      listing_becomes edges stored e x number new row whole (one_less kept_here) b (there_less kept_here (extra_in x.shape row) (subst (λ z. HasExtra z (extra_in x.shape row)) by own) (subst IsSome by some)) own
      ∙ ap (λ z. with_count e row z (listing now_in edges)) (count_less kept_here ∙ ap pred (sym own_count))

-- ---- the note

module _ (edges : List EdgeRows) (notes : List Note) (values grown more : Values) (is : grown ≡ values ++ more) (f : IsFragment edges notes values)
    (e : ℕ) (x : EdgeRows) (number : slice_get edges e ≡ Some x) (known : e < length edges) (row : Pairs) (over : cols_of row ≡ x.shape.target) (n : Note) (of : IsNoteOf e x row grown n.row) where
  at_edge : n.row.edge ≡ e
  at_edge = ap (λ (z : Place). z.0) of.place

  shape_at : slice_get (shapes edges) n.row.edge ≡ Some x.shape
  shape_at = ap (slice_get (shapes edges)) at_edge ∙ shape_there edges e x number

  -- what is noted is the row
  pub told : change_of (shapes edges) grown n ≡ (e, row, n.count)
  told =
      row_of_note (shapes edges) grown n x.shape shape_at ∙ (λ i. with_row ((of.place i).0) (row_from x.shape ((of.place i).1) ((of.place i).2) (of.extra i)))
      ∙ ap (with_row e) (whole_row edges f.stored e x number row over)
    where
      with_row : ℕ → Pairs → EdgeRow
      with_row m z = (m, z, n.count)

  -- its values are a row's
  pub noted_values : HasRowValues (shapes edges) n.row.edge (source_of grown n.row) (key_of grown n.row) (noted_extra grown n.row)
  noted_values shape at =
      let same : Some x.shape ≡ Some shape = sym shape_at ∙ at in
      let p : x.shape ≡ shape = cc in
      let v : HasValues x.shape (row_from x.shape (source_in x.shape row) (key_in x.shape row) (extra_in x.shape row)) (source_in x.shape row) (key_in x.shape row) (extra_in x.shape row) =
      values_of_row x.shape (f.stored x (slice_get_in edges e x number)).parted row over in
      subst (λ (z : EdgeShape). HasValues z (row_from z (source_of grown n.row) (key_of grown n.row) (noted_extra grown n.row)) (source_of grown n.row) (key_of grown n.row) (noted_extra grown n.row)) p
      (subst (λ (z : Place × Values). HasValues x.shape (row_from x.shape z.0.1 z.0.2 z.1) z.0.1 z.0.2 z.1) (λ i. (sym of.place i, sym of.extra i)) v)

  -- ---- new is what the change left

  module _ (new : List EdgeRows) (w : Option Counted) (some : IsSome w) (b : PlaceBecomes edges new (e, source_in x.shape row, key_in x.shape row) w) (m : ℕ)
      (now : listing now_in new ≡ with_count e row m (listing now_in edges)) (count : n.count ≡ count_at e row (listing now_in edges)) where
    told_count : change_of (shapes edges) (values ++ more) n ≡ (e, row, count_at e row (listing now_in edges))
    told_count = ap (λ z. change_of (shapes edges) z n) (sym is) ∙ told ∙ (λ i. (e, row, count i))

    place_is : place_of (values ++ more) n.row ≡ (e, source_in x.shape row, key_in x.shape row)
    place_is = ap (λ z. place_of z n.row) (sym is) ∙ of.place

    within : IsWithin (length (values ++ more)) n.row
    within = subst (λ z. IsWithin (length z) n.row) is of.within

    values_is : HasRowValues (shapes edges) n.row.edge (source_of (values ++ more) n.row) (key_of (values ++ more) n.row) (noted_extra (values ++ more) n.row)
    values_is = subst (λ z. HasRowValues (shapes edges) n.row.edge (source_of z n.row) (key_of z n.row) (noted_extra z n.row)) is noted_values

    pub taken_stays : taken_rows new (notes ++ n ∷ []) grown ≡ taken_rows edges notes values
    taken_stays = ap (taken_rows new (notes ++ n ∷ [])) is
        ∙ taken_noted edges new notes values more n (e, source_in x.shape row, key_in x.shape row) w b some f place_is known within values_is row told_count
        (AreCountedRows-listing now_in edges (filed_now edges f.stored)) m now

    pub fragment_stays : HasAlone (shapes edges) (listing now_in edges) e row → ((c : Counted) → w ≡ Some c → c.1 ≡ 0 → n.took_out ≡ true) → IsFragment new (notes ++ n ∷ []) grown
    fragment_stays alone took = subst (IsFragment new (notes ++ n ∷ [])) (sym is)
        (fragment_noted edges new notes values more n (e, source_in x.shape row, key_in x.shape row) w b some f place_is known within values_is row told_count
        (AreCountedRows-listing now_in edges (filed_now edges f.stored)) m now alone took)

-- ---- counts

some_count : (o : Option Counted) → IsSome (there o) → 0 < count_of o
some_count None h = absurd (false≢true h)
some_count (Some c) h = counts c h

only_one : (n : ℕ) → 0 < n → pred n ≡ 0 → n ≡ 1
only_one zero l h = absurd (omega (arith, l))
only_one (suc n) l h = ap suc h

-- ---- the two changes, each with its note: new is what it left, as it was read, and before the count that it answered

module _ (edges new : List EdgeRows) (notes : List Note) (values grown more read : Values) (is : grown ≡ values ++ more) (read_is : read ≡ grown) (f : IsFragment edges notes values)
    (e : ℕ) (x : EdgeRows) (number : slice_get edges e ≡ Some x) (known : e < length edges) (row : Pairs) (over : cols_of row ≡ x.shape.target) (n : NotedRow) (of : IsNoteOf e x row grown n)
    (own : HasExtra (found_by now_in edges e (source_in x.shape row) (key_in x.shape row)) (extra_in x.shape row)) (alone : HasAlone (shapes edges) (listing now_in edges) e row)
    (before : ℕ) (answered : before ≡ count_of (kept_at_place edges (place_of read n))) where
  abbrev kept : Option Counted
  kept = kept_at_place edges (e, source_in x.shape row, key_in x.shape row)

  -- the count before is the row's
  counted : before ≡ count_at e row (listing now_in edges)
  counted =
      answered ∙ ap (λ z. count_of (kept_at_place edges z)) (at_row edges new e x row grown read read_is n of)
      ∙ sym (own_count edges new f.stored e x number row over own)

  module _ (b : PlaceBecomes edges new (place_of read n) (Some (noted_extra read n, count_of (kept_at_place edges (place_of read n)) + 1))) where
    abbrev added : Note
    added = record { row = n; took_out = false; count = before }

    here_added : PlaceBecomes edges new (e, source_in x.shape row, key_in x.shape row) (Some (extra_in x.shape row, count_of kept + 1))
    here_added = place_added edges new e x row grown read read_is n of b

    now_added : listing now_in new ≡ raised e row (listing now_in edges)
    now_added = rows_raised edges new f.stored e x number row over own here_added

    pub added_taken : taken_rows new (notes ++ record { row = n; took_out = false; count = before } ∷ []) grown ≡ taken_rows edges notes values
    added_taken = taken_stays edges notes values grown more is f e x number known row over added of new (Some (extra_in x.shape row, count_of kept + 1)) refl here_added
        (suc (count_at e row (listing now_in edges))) now_added counted

    pub added_fragment : IsFragment new (notes ++ record { row = n; took_out = false; count = before } ∷ []) grown
    added_fragment = fragment_stays edges notes values grown more is f e x number known row over added of new (Some (extra_in x.shape row, count_of kept + 1)) refl here_added
        (suc (count_at e row (listing now_in edges))) now_added counted alone (λ c p none.
        let q : (extra_in x.shape row, count_of kept + 1) ≡ c = cc in
        let m : count_of kept + 1 ≡ c.1 = ap (λ (z : Counted). z.1) q in
        absurd (omega (arith, m, none)))

  module _ (some : IsSome (found_by now_in edges e (source_in x.shape row) (key_in x.shape row))) (b : PlaceBecomes edges new (place_of read n) (one_less (kept_at_place edges (place_of read n)))) where
    abbrev out : Note
    out = record { row = n; took_out = before == 1; count = before }

    here_out : PlaceBecomes edges new (e, source_in x.shape row, key_in x.shape row) (one_less kept)
    here_out = place_lowered edges new e x row grown read read_is n of b

    now_out : listing now_in new ≡ lowered e row (listing now_in edges)
    now_out = rows_lowered edges new f.stored e x number row over own some here_out

    still : IsSome (one_less kept)
    still = less_some kept (kept_some kept (subst IsSome (there_by edges e (source_in x.shape row) (key_in x.shape row)) some))

    -- where none is left it was the last one
    took : (c : Counted) → one_less kept ≡ Some c → c.1 ≡ 0 → (before == 1) ≡ true
    took c p none =
        let here : IsSome (there kept) = subst IsSome (there_by edges e (source_in x.shape row) (key_in x.shape row)) some in
        let all : before ≡ count_of kept = answered ∙ ap (λ z. count_of (kept_at_place edges z)) (at_row edges new e x row grown read read_is n of) in
        eq-eqb before 1 (all ∙ only_one (count_of kept) (some_count kept here) (sym (count_less kept) ∙ ap count_of p ∙ none))

    pub out_taken : taken_rows new (notes ++ record { row = n; took_out = before == 1; count = before } ∷ []) grown ≡ taken_rows edges notes values
    out_taken = taken_stays edges notes values grown more is f e x number known row over out of new (one_less kept) still here_out (pred (count_at e row (listing now_in edges))) now_out counted

    pub out_fragment : IsFragment new (notes ++ record { row = n; took_out = before == 1; count = before } ∷ []) grown
    out_fragment = fragment_stays edges notes values grown more is f e x number known row over out of new (one_less kept) still here_out (pred (count_at e row (listing now_in edges))) now_out counted alone took
