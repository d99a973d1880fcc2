-- Noted changes undone one by one, and tombstones swept.
use Rattle.std.specs.Prelude.{◌≡◌, ℕ, zero, suc, ◌+◌, ◌<◌, false, ◌⊎◌, Option, None, Some, List, [], ◌∷◌, ◌++◌, length, take}
use Rattle.rc_fragment.proofs.Imports.{slice_get, false≢true, eq-eqb, map-append, take_all, take_more, In, get_or_in, in_append, slice_get_there, Pairs, Values, Counted, HasExtra, count_of, present, present_is, EdgeRow, kept_in, now_in, AreAlone, AreNoted, AreTombstonesNoted, HasAlone, IsFragment, IsNoted, IsSweptBy, NoneIsEmptied, AreStored, found_by, listing, shapes, IsSetPlace, Place, PlaceBecomes, change_of, changes_of, is_swept, kept_at_place, key_of, noted_extra, now_at_place, place_of, set_back, source_of, taken_rows, undone, HasValues, row_from, EdgeRows, Note, Sweep, Committed, RolledBack}
use Rattle.std.proofs.Common.{refl, sym, ap, subst, ◌∙◌, inl, inr, arith, get_or}
use Rattle.rc_fragment.proofs.KeptLemmas.{there, there_again, there_by, there_is, there_with}
use Rattle.rc_fragment.proofs.ListingLemmas.{extra_in, key_in, source_in}
use Rattle.rc_fragment.proofs.PlaceLemmas.{emptied_still, kept_here, noted_all, row_of_note, set_as_it_was, kept_before}
use Rattle.rc_fragment.proofs.RowLemmas.{alone_found, listing_becomes, shape_there, whole_row}
use Rattle.rc_fragment.proofs.UndoLemmas.{last-alone, undone-last}

-- ---- one change undone

pub present_extra : (c : Counted) (extra : Values) → c.0 ≡ extra → HasExtra (present c) extra
present_extra c extra is = go (present c) refl
  where
    go : (o : Option Counted) → present c ≡ o → HasExtra o extra
    go None e = tt
    go (Some d) e = ap (λ (z : Counted). z.0) (present_is c d e).0 ∙ is

-- the rows once the row of a note is put back: it is the only one with its source and key
module _ (edges new : List EdgeRows) (values : Values) (n : Note) (stored : AreStored edges) (noted : IsNoted edges values n.row)
    (alone : HasAlone (shapes edges) (listing now_in edges) (change_of (shapes edges) values n).0 (change_of (shapes edges) values n).1)
    (b : PlaceBecomes edges new (place_of values n.row) (Some (noted_extra values n.row, n.count))) where
  by_edge : (x : EdgeRows) → slice_get edges n.row.edge ≡ Some x → listing now_in new ≡ set_back (change_of (shapes edges) values n) (listing now_in edges)
  by_edge x at =
      let s : Values = source_of values n.row in
      let k : Values = key_of values n.row in
      let extra : Values = noted_extra values n.row in
      let row : Pairs = row_from x.shape s k extra in
      let v : HasValues x.shape row s k extra = noted.row x.shape (shape_there edges n.row.edge x at) in
      let told : change_of (shapes edges) values n ≡ (n.row.edge, row, n.count) = row_of_note (shapes edges) values n x.shape (shape_there edges n.row.edge x at) in
      let own : HasAlone (shapes edges) (listing now_in edges) n.row.edge row = subst (λ (z : EdgeRow). HasAlone (shapes edges) (listing now_in edges) z.0 z.1) told alone in
      let here : PlaceBecomes edges new (n.row.edge, source_in x.shape row, key_in x.shape row) (Some (extra, n.count)) =
      subst (λ (z : Place). PlaceBecomes edges new z (Some (extra, n.count))) (λ i. (n.row.edge, sym v.source_is i, sym v.key_is i)) b in
      listing_becomes edges stored n.row.edge x at new row (whole_row edges stored n.row.edge x at row v.columns) (Some (extra, n.count)) here (present_extra (extra, n.count) (extra_in x.shape row) (sym v.extra_is))
      (alone_found edges stored n.row.edge x at row v.columns own)
      ∙ ap (λ (z : EdgeRow). set_back z (listing now_in edges)) (sym told)

  pub row_put_back : listing now_in new ≡ set_back (change_of (shapes edges) values n) (listing now_in edges)
  row_put_back = go (slice_get edges n.row.edge) refl
    where
      go : (o : Option EdgeRows) → slice_get edges n.row.edge ≡ o → listing now_in new ≡ set_back (change_of (shapes edges) values n) (listing now_in edges)
      go None e = absurd (slice_get_there edges n.row.edge noted.edge e)
      go (Some x) e = by_edge x e

-- ---- all changes undone

-- a tombstone is of a change that was undone, or of one that took the row out and is left to be undone
abbrev pub AreTombstonesOf : List EdgeRows → Values → List Note → List Note → Type 0
AreTombstonesOf edges values all left = (place : Place) (c : Counted) → kept_at_place edges place ≡ Some c → c.1 ≡ 0 → IsSweptBy RolledBack values all place ⊎ IsSweptBy Committed values left place

-- the edges, of which only so many of the first changes are left to be undone
pub record IsUndoing (old edges : List EdgeRows) (notes : List Note) (values : Values) (left : ℕ) : Type 0 where
  pub stored : AreStored edges
  pub same : shapes edges ≡ shapes old
  pub taken : undone (changes_of (shapes edges) values (take left notes)) (listing now_in edges) ≡ taken_rows old notes values
  pub alone : AreAlone (shapes edges) (changes_of (shapes edges) values (take left notes)) (listing now_in edges)
  pub noted : AreNoted edges values notes
  pub tombstones : AreTombstonesOf edges values notes (take left notes)
  pub emptied : NoneIsEmptied edges

pub undoing_first : (edges : List EdgeRows) (notes : List Note) (values : Values) (left : ℕ) → left ≡ length notes → IsFragment edges notes values → IsUndoing edges edges notes values left
undoing_first edges notes values left is f =
    let all : take left notes ≡ notes = take_all left notes (omega (arith, is)) in
    record {
      stored = f.stored;
      same = refl;
      taken = ap (λ z. undone (changes_of (shapes edges) values z) (listing now_in edges)) all;
      alone = subst (λ z. AreAlone (shapes edges) (changes_of (shapes edges) values z) (listing now_in edges)) (sym all) f.alone;
      noted = f.noted;
      tombstones = λ place c there none. inr (subst (λ z. IsSweptBy Committed values z place) (sym all) (f.tombstones place c there none));
      emptied = f.emptied;
    }

module _ (old edges new : List EdgeRows) (notes : List Note) (values : Values) (left : ℕ) (n : Note) (l : left < length notes) (at : n ≡ get_or notes left n) (u : IsUndoing old edges notes values (left + 1))
    (b : PlaceBecomes edges new (place_of values n.row) (Some (noted_extra values n.row, n.count))) where
  own_note : In n notes
  own_note = subst (λ z. In z notes) (sym at) (get_or_in notes left n l)

  one_more : take (left + 1) notes ≡ take left notes ++ n ∷ []
  one_more = take_more notes left n l ∙ ap (λ (z : Note). take left notes ++ z ∷ []) (sym at)

  last : changes_of (shapes edges) values (take (left + 1) notes) ≡ changes_of (shapes edges) values (take left notes) ++ change_of (shapes edges) values n ∷ []
  last = ap (changes_of (shapes edges) values) one_more ∙ map-append (change_of (shapes edges) values) (take left notes) (n ∷ [])

  both : HasAlone (shapes edges) (listing now_in edges) (change_of (shapes edges) values n).0 (change_of (shapes edges) values n).1
      × AreAlone (shapes edges) (changes_of (shapes edges) values (take left notes)) (set_back (change_of (shapes edges) values n) (listing now_in edges))
  both = last-alone (shapes edges) (changes_of (shapes edges) values (take left notes)) (change_of (shapes edges) values n) (listing now_in edges)
      (subst (λ z. AreAlone (shapes edges) z (listing now_in edges)) last u.alone)

  now : listing now_in new ≡ set_back (change_of (shapes edges) values n) (listing now_in edges)
  now = row_put_back edges new values n u.stored (u.noted n own_note) both.0 b

  -- a tombstone at the place is of this change
  own_tombstone : (place : Place) (c : Counted) → place ≡ place_of values n.row → kept_at_place new place ≡ Some c → c.1 ≡ 0 → IsSweptBy RolledBack values notes place
  own_tombstone place c is there none =
      let kept : Some (noted_extra values n.row, n.count) ≡ Some c = sym (kept_here edges new (place_of values n.row) (Some (noted_extra values n.row, n.count)) b) ∙ ap (kept_at_place new) (sym is) ∙ there in
      let count : n.count ≡ c.1 = ap count_of kept in
      (n, own_note, eq-eqb n.count 0 (count ∙ none), sym is)

  pub undoing_next : IsUndoing old new notes values left
  undoing_next = record {
    stored = b.stored;
    same = b.shapes ∙ u.same;
    taken = (λ i. undone (changes_of (b.shapes i) values (take left notes)) (now i))
        ∙ sym (undone-last (changes_of (shapes edges) values (take left notes)) (change_of (shapes edges) values n) (listing now_in edges))
        ∙ ap (λ z. undone z (listing now_in edges)) (sym last) ∙ u.taken;
    alone = subst (λ z. AreAlone (shapes new) (changes_of (shapes new) values (take left notes)) z) (sym now)
        (subst (λ z. AreAlone z (changes_of z values (take left notes)) (set_back (change_of (shapes edges) values n) (listing now_in edges))) (sym b.shapes) both.1);
    noted = noted_all edges new (place_of values n.row) (Some (noted_extra values n.row, n.count)) b refl values notes u.noted;
    tombstones = λ place c there none. elim (kept_before edges new (place_of values n.row) (Some (noted_extra values n.row, n.count)) b place c there) [
      | inl p ↦ inl (own_tombstone place c p there none)
      | inr before ↦ elim (u.tombstones place c before none) [
        | inl undone_note ↦ inl undone_note
        | inr (m, i, t, is) ↦ elim (in_append m (take left notes) (n ∷ []) (subst (In m) one_more i)) [
          | inl still ↦ inr (m, still, t, is)
          | inr (inl e) ↦ inl (own_tombstone place c (sym is ∙ ap (λ (z : Note). place_of values z.row) e) there none)
          | inr (inr none_left) ↦ absurd none_left
        ]
      ]
    ];
    emptied = emptied_still edges new (place_of values n.row) (Some (noted_extra values n.row, n.count)) b u.emptied;
  }

-- where none is left to be undone
pub undoing_last : (old edges : List EdgeRows) (notes : List Note) (values : Values) → IsUndoing old edges notes values 0 → AreTombstonesNoted RolledBack edges values notes
undoing_last old edges notes values u place c there none = elim (u.tombstones place c there none) [ inl swept ↦ swept | inr (m, i, t, is) ↦ absurd i ]

-- ---- tombstones swept

-- the edges, of which the places of these notes are left to be swept
pub record IsSweeping (after : Sweep) (old edges : List EdgeRows) (left : List Note) (values : Values) : Type 0 where
  pub stored : AreStored edges
  pub same : shapes edges ≡ shapes old
  pub now : (e : ℕ) (s k : Values) → found_by now_in edges e s k ≡ found_by now_in old e s k
  pub tombstones : AreTombstonesNoted after edges values left
  pub emptied : NoneIsEmptied edges

pub sweeping_first : (after : Sweep) (edges : List EdgeRows) (notes : List Note) (values : Values) → AreStored edges → AreTombstonesNoted after edges values notes → NoneIsEmptied edges
    → IsSweeping after edges edges notes values
sweeping_first after edges notes values stored tombstones emptied = record { stored = stored; same = refl; now = λ e s k. refl; tombstones = tombstones; emptied = emptied }

-- where a note's place isn't to be swept
pub sweeping_past : (after : Sweep) (old edges : List EdgeRows) (n : Note) (left : List Note) (values : Values) → is_swept after n ≡ false → IsSweeping after old edges (n ∷ left) values
    → IsSweeping after old edges left values
sweeping_past after old edges n left values not w = record {
  stored = w.stored;
  same = w.same;
  now = w.now;
  tombstones = λ place c there none. past place (w.tombstones place c there none);
  emptied = w.emptied;
}
  where
    past : (place : Place) → IsSweptBy after values (n ∷ left) place → IsSweptBy after values left place
    past place (o, inl p, t, is) = absurd (false≢true (sym not ∙ ap (is_swept after) (sym p) ∙ t))
    past place (o, inr m, t, is) = (o, m, t, is)

module _ (after : Sweep) (old edges new : List EdgeRows) (n : Note) (left : List Note) (values : Values) (w : IsSweeping after old edges (n ∷ left) values)
    (b : PlaceBecomes edges new (place_of values n.row) (now_at_place edges (place_of values n.row))) where
  abbrev own : Place
  own = place_of values n.row

  -- at the place no tombstone is kept
  none_here : (place : Place) (c : Counted) → place ≡ own → kept_at_place new place ≡ Some c → c.1 ≡ 0 → ⊥
  none_here place c is there_new none =
      let now : now_at_place edges own ≡ Some c = sym (kept_here edges new own (now_at_place edges own) b) ∙ ap (kept_at_place new) (sym is) ∙ there_new in
      let l : 0 < c.1 = (there_is (kept_at_place edges own) c (sym (there_by edges own.0 own.1 own.2) ∙ now)).1 in
      omega (arith, l, none)

  pub sweeping_next : IsSweeping after old new left values
  sweeping_next = record {
    stored = b.stored;
    same = b.shapes ∙ w.same;
    now = λ e s k.
        let same : there (now_at_place edges own) ≡ now_at_place edges own =
        ap there (there_by edges own.0 own.1 own.2) ∙ there_again (kept_at_place edges own) ∙ sym (there_by edges own.0 own.1 own.2) in
        set_as_it_was (found_by now_in edges) (found_by now_in new) own (subst (IsSetPlace (found_by now_in edges) (found_by now_in new) own) same b.now) e s k ∙ w.now e s k;
    tombstones = λ place c there_new none. elim (kept_before edges new own (now_at_place edges own) b place c there_new) [
      | inl p ↦ absurd (none_here place c p there_new none)
      | inr before ↦ past place c there_new none (w.tombstones place c before none)
    ];
    emptied = emptied_still edges new own (now_at_place edges own) b w.emptied;
  }
    where
      past : (place : Place) (c : Counted) → kept_at_place new place ≡ Some c → c.1 ≡ 0 → IsSweptBy after values (n ∷ left) place → IsSweptBy after values left place
      past place c there_new none (o, inl p, t, is) = absurd (none_here place c (sym is ∙ ap (λ (z : Note). place_of values z.row) p) there_new none)
      past place c there_new none (o, inr m, t, is) = (o, m, t, is)

-- where none are left, what is kept is there
pub all_swept : (after : Sweep) (edges : List EdgeRows) (values : Values) → AreTombstonesNoted after edges values [] → (e : ℕ) (s k : Values) → found_by kept_in edges e s k ≡ found_by now_in edges e s k
all_swept after edges values tombstones e s k = go (found_by kept_in edges e s k) refl ∙ sym (there_by edges e s k)
  where
    by_count : (c : Counted) (m : ℕ) → c.1 ≡ m → found_by kept_in edges e s k ≡ Some c → Some c ≡ present c
    by_count c zero is h = absurd ((tombstones (e, s, k) c h is).1)
    by_count c (suc m) is h = sym (there_with c (omega (arith, is)))

    go : (o : Option Counted) → found_by kept_in edges e s k ≡ o → o ≡ there (found_by kept_in edges e s k)
    go None h = sym (ap there h)
    go (Some c) h = by_count c c.1 refl h ∙ sym (ap there h)
