-- A row added only where none has its source and key.
use Rattle.std.specs.Prelude.{◌≡◌, ℕ, ◌+◌, ◌<◌, Bool, true, false, Option, None, Some, IsSome, List, [], ◌∷◌, ◌++◌, length, slice_set}
use Rattle.rc_fragment.proofs.Imports.{slice_get, false≢true, slice_get_in, Pairs, cols_of, Values, Counted, HasExtra, IsAddedNew, count_of, extra_of, found, get-current, form_in, kept_in, now_in, HasColumns, HasNoRowOf, HasRowOf, IsFragment, IsLookedUp, IsLookedUpBy, edge_row, AreStored, found_by, listing, shapes, HasRowValues, IsNewPlace, IsWithin, Place, PlaceBecomes, kept_at_place, key_of, noted_extra, now_at_place, place_of, source_of, taken_rows, HasValues, extra_columns, row_from, values_at, IsSet, AreOfShape, AreSame, IsNewAt, IsSingle, found_in, kept_at, now_at, sources_of, CanAddRow, IsNewRow, Container, EdgeRows, Note, NotedRow, EdgeShape, SourceTable}
use Rattle.std.specs.FinMap as fin
use Rattle.std.proofs.Common.{refl, sym, ap, subst, ◌∙◌}
use Rattle.rc_fragment.proofs.ChangeLemmas.{found_there, place_changed, place_of_kept, place_of_row}
use Rattle.rc_fragment.proofs.KeptLemmas.{count_there, there_by}
use Rattle.rc_fragment.proofs.ListingLemmas.{extra_in, key_in, source_in}
use Rattle.rc_fragment.proofs.LookupLemmas.{lookup_law}
use Rattle.rc_fragment.proofs.NotedLemmas.{IsNoteOf, added_fragment, added_taken, at_row, noted_values, place_added, rows_raised}
use Rattle.rc_fragment.proofs.PlaceLemmas.{set_from_same}
use Rattle.rc_fragment.proofs.RowLemmas.{alone_found, listing_stays, shape_there, single_found}
use Rattle.rc_fragment.proofs.SourcesLemmas.{becomes_changed, not_empty, same_changed}
use Rattle.rc_fragment.proofs.TupleLemmas.{note_of_tuple}

-- ---- by the container of the source

module _ (x : EdgeRows) (source key extra : Values) (v w : Container) (table : SourceTable) (here : fin.get (sources_of x) source ≡ Some v) (set : IsSet x.sources table source w)
    (shaped : AreOfShape x) (form : form_in w ≡ form_in v) where
  pub found_here : now_at x source key ≡ found (kept_in v) key
  found_here = ap (λ z. found_in now_in z key) here ∙ get-current (kept_in v) key

  pub new_changed : (b : Bool) → IsAddedNew (kept_in v) (kept_in w) key extra b → IsNewAt x (record x { sources = table }) source key extra b
  new_changed true h = (found_here ∙ h.0, becomes_changed x source key v w table here set shaped form (Some (extra, 1)) h.1 (not_empty (kept_in w) (kept_in v) key (Some (extra, 1)) h.1 refl))
  new_changed false h = (subst IsSome (sym found_here) h.0, same_changed x source key v w table here set shaped form h.1)

-- ---- by the edge of the place

module _ (edges : List EdgeRows) (e : ℕ) (x y : EdgeRows) (number : slice_get edges e ≡ Some x) (all : AreStored edges) (source key extra : Values) where
  pub same_place : AreSame x y → PlaceBecomes edges (slice_set edges e y) (e, source, key) (found_by kept_in edges e source key)
  same_place a = place_changed edges e x y number all source key (λ o. o) (record {
    kept = set_from_same (kept_at x) (kept_at y) a.kept source key;
    emptied = a.emptied;
    forms = a.forms;
    shape = a.shape;
  }) (place_of_kept x (all x (slice_get_in edges e x number)) source key)

  pub new_place : HasValues x.shape (row_from x.shape source key extra) source key extra → (b : Bool) → IsNewAt x y source key extra b → IsNewPlace edges (slice_set edges e y) (e, source, key) extra b
  new_place v true h = (sym (found_there now_in edges e x number source key) ∙ h.0, place_changed edges e x y number all source key (λ _. Some (extra, 1)) h.1 (place_of_row x source key extra 1 v))
  new_place v false h = (subst IsSome (found_there now_in edges e x number source key) h.0, same_place h.1)

-- ---- what a look-up by the tuple's values answers

module _ (edges : List EdgeRows) (all : AreStored edges) (e : ℕ) (x : EdgeRows) (number : slice_get edges e ≡ Some x) (t : Pairs) where
  abbrev here_of : Option Counted
  here_of = found_by now_in edges e (values_at x.shape.source t) (values_at x.shape.key t)

  looked_by : (o : Option Values) → o ≡ extra_of here_of → IsLookedUpBy (shapes edges) (listing now_in edges) e t o
  looked_by o h shape has =
      let same : Some x.shape ≡ Some shape = sym (shape_there edges e x number) ∙ has in
      let p : x.shape ≡ shape = cc in
      subst (λ (z : EdgeShape). IsLookedUp z (listing now_in edges) e (values_at z.source t) (values_at z.key t) o) p
      (lookup_law edges all e x number (values_at x.shape.source t) (values_at x.shape.key t) o
      (h ∙ ap extra_of (sym (found_there now_in edges e x number (values_at x.shape.source t) (values_at x.shape.key t)))) x.shape (shape_there edges e x number))

  pub no_row : here_of ≡ None → HasNoRowOf (shapes edges) (listing now_in edges) e t
  no_row h = looked_by None (sym (ap extra_of h))

  pub some_row : IsSome here_of → HasRowOf (shapes edges) (listing now_in edges) e t
  some_row some = go here_of refl some
    where
      go : (o : Option Counted) → here_of ≡ o → IsSome o → HasRowOf (shapes edges) (listing now_in edges) e t
      go None h s = absurd (false≢true s)
      go (Some c) h s = (c.0, looked_by (Some c.0) (sym (ap extra_of h)))

-- ---- with the note of it

module _ (edges : List EdgeRows) (notes : List Note) (values grown more read : Values) (is : grown ≡ values ++ more) (read_is : read ≡ grown) (f : IsFragment edges notes values)
    (e : ℕ) (x : EdgeRows) (number : slice_get edges e ≡ Some x) (known : e < length edges) (t : Pairs) (n : NotedRow)
    (place : place_of grown n ≡ (e, values_at x.shape.source t, values_at x.shape.key t)) (extra : noted_extra grown n ≡ values_at (extra_columns x.shape) t) (within : IsWithin (length grown) n)
    (columns : HasColumns (shapes edges) e (edge_row (shapes edges) e t))
    (can : HasNoRowOf (shapes edges) (listing now_in edges) e t → CanAddRow (shapes edges) (listing now_in edges) e (edge_row (shapes edges) e t)) where
  abbrev row : Pairs
  row = edge_row (shapes edges) e t

  of : IsNoteOf e x row grown n
  of = note_of_tuple edges e x number (f.stored x (slice_get_in edges e x number)).parted t grown n place extra within

  over : cols_of row ≡ x.shape.target
  over = columns x.shape (shape_there edges e x number)

  read_place : place_of read n ≡ (e, values_at x.shape.source t, values_at x.shape.key t)
  read_place = ap (λ z. place_of z n) read_is ∙ place

  pub values_read : HasRowValues (shapes edges) n.edge (source_of read n) (key_of read n) (noted_extra read n)
  values_read =
      subst (λ z. HasRowValues (shapes edges) n.edge (source_of z n) (key_of z n) (noted_extra z n)) (sym read_is)
      (noted_values edges notes values grown more is f e x number known row over (record { row = n; took_out = false; count = 0 }) of)

  none_is : now_at_place edges (place_of read n) ≡ None → HasNoRowOf (shapes edges) (listing now_in edges) e t
  none_is h = no_row edges f.stored e x number t (ap (now_at_place edges) (sym read_place) ∙ h)

  pub single_read : now_at_place edges (place_of read n) ≡ None → (y : EdgeRows) → slice_get edges n.edge ≡ Some y → IsSingle y (source_of read n) (key_of read n)
  single_read h =
      subst (λ (z : Place). (y : EdgeRows) → slice_get edges z.0 ≡ Some y → IsSingle y z.1 z.2) (sym (at_row edges edges e x row grown read read_is n of))
      (λ y g.
      let same : Some x ≡ Some y = sym number ∙ g in
      let p : x ≡ y = cc in
      subst (λ z. IsSingle z (source_in x.shape row) (key_in x.shape row)) p (single_found edges f.stored e x number row over (can (none_is h)).single))

  module _ (new : List EdgeRows) where
    pub row_there : IsNewPlace edges new (place_of read n) (noted_extra read n) false → IsNewRow (shapes edges) (listing now_in edges) (listing now_in new) e t false
    row_there p = (some_row edges f.stored e x number t (subst (λ z. IsSome (now_at_place edges z)) read_place p.0), listing_stays edges new f.stored (place_of read n) p.1)

    module _ (p : IsNewPlace edges new (place_of read n) (noted_extra read n) true) where
      may : CanAddRow (shapes edges) (listing now_in edges) e row
      may = can (none_is p.0)

      zero_there : count_of (kept_at_place edges (place_of read n)) ≡ 0
      zero_there = sym (count_there (kept_at_place edges (place_of read n)))
          ∙ ap count_of (sym (there_by edges (place_of read n).0 (place_of read n).1 (place_of read n).2) ∙ p.0)

      added : PlaceBecomes edges new (place_of read n) (Some (noted_extra read n, count_of (kept_at_place edges (place_of read n)) + 1))
      added = subst (λ m. PlaceBecomes edges new (place_of read n) (Some (noted_extra read n, m + 1))) (sym zero_there) p.1

      own : HasExtra (found_by now_in edges e (source_in x.shape row) (key_in x.shape row)) (extra_in x.shape row)
      own = alone_found edges f.stored e x number row over may.alone

      pub new_row : IsNewRow (shapes edges) (listing now_in edges) (listing now_in new) e t true
      new_row = (none_is p.0, rows_raised edges new f.stored e x number row over own (place_added edges new e x row grown read read_is n of added))

      pub new_fragment : IsFragment new (notes ++ record { row = n; took_out = false; count = 0 } ∷ []) grown
      new_fragment = added_fragment edges new notes values grown more read is read_is f e x number known row over n of own may.alone 0 (sym zero_there) added

      pub new_taken : taken_rows new (notes ++ record { row = n; took_out = false; count = 0 } ∷ []) grown ≡ taken_rows edges notes values
      new_taken = added_taken edges new notes values grown more read is read_is f e x number known row over n of own may.alone 0 (sym zero_there) added
