-- Laws of a list of entries that rises by its keys: its places, and what a change at a place is to its rows.
use Rattle.std.specs.Prelude.{◌≡◌, ℕ, zero, suc, ◌+◌, ◌<◌, ◌≤◌, Bool, true, false, cond, nat_lt, not, T, ◌==◌, ◌&&◌, ◌||◌, ◌↔◌, List, Option, None, Some, is_some, [], ◌∷◌, ◌++◌, length, slice_set, slice_index_or, take, drop, insert, remove}
use Rattle.rc_edges.specs.Imports.{IsTrue, cons_option, flat_map, list_any, option_map, option_and_then, Ordering, Less, Equal, Greater, is_lt, is_eq, ordering_reverse, tied_itself, find, put, entries_sorted, get-entries, get-from_entries, len-entries, get-empty, below_all, where_key, is_sorted-put, find-put, is_sorted-where_key, find-where_key, same_entries, by_order}
use Rattle.std.specs.FinMap as fin
use Rattle.std.proofs.Common.{refl, sym, ap, subst, ◌∙◌, arith}
use Rattle.std.proofs.lemmas.Bool.{false≢true, eqb-true, lt-ltb, ltb-true}
use Rattle.std.proofs.lemmas.List.{drop_more, take_more, append_assoc}
use Rattle.rc_edges.specs.Values.{Values, values_cmp, values_eq}
use Rattle.rc_edges.specs.ValuesLaws.{values_order, same_from_test, test_from_same}
use Rattle.rc_edges.specs.EdgeMap.{Counted, Rows, current, extra_of, found, listed, parts, present, swept, written}
use Rattle.rc_edges.specs.Entry.{is_tombstone}
use Rattle.rc_edges.specs.ListMap.{Items, IsKeyed, IsAt, IsGap, count_in, is_filled, rows_in, values_in}
use Rattle.rc_edges.specs.RowsLaws.{total, same_answers, get-written, written_again, entries-keep, head_below, tail_sorted, below_more, find_below, tombstone_absent, filled_present}

abbrev pub whole : Items → Rows
whole items = rows_in items

pub get-whole : (items : Items) (q : Values) → fin.get (whole items) q ≡ find values_cmp q items
get-whole items q = get-from_entries total items q

-- a list that rises is the map's own
pub entries-whole : (items : Items) → IsKeyed items → fin.entries (whole items) ≡ items
entries-whole items h = same_entries values_cmp total values_order.ties (fin.entries (whole items)) items (entries_sorted (whole items)) h
    (λ q. sym (get-entries (whole items) q) ∙ get-whole items q)

-- ---- orders of two keys

apart : (x y : Values) → values_cmp x y ≡ Less → values_eq y x ≡ false
apart x y h = ap is_eq (total.antisymm y x ∙ ap ordering_reverse h)

-- ---- places

-- the walk to a place has passed the first items
pub record IsPast (key : Values) (items : Items) (n : ℕ) : Type 0 where
  pub found : (at : ℕ) → IsAt key (drop n items) at → IsAt key items (n + at)
  pub gap : (at : ℕ) → IsGap key (drop n items) at → IsGap key items (n + at)

pub past_more : (key : Values) (items : Items) (n : ℕ) (d : Values × Counted) → n < length items
    → values_cmp (slice_index_or items n d).0 key ≡ Less → IsPast key items n → IsPast key items (n + 1)
past_more key items n d l h p = record {
  found = λ at k. let e : n + suc at ≡ (n + 1) + at = omega arith in
      subst (IsAt key items) e (p.found (suc at) (subst (λ z. IsAt key z (suc at)) (sym (drop_more items n d l)) (h, k)));
  gap = λ at k. let e : n + suc at ≡ (n + 1) + at = omega arith in
      subst (IsGap key items) e (p.gap (suc at) (subst (λ z. IsGap key z (suc at)) (sym (drop_more items n d l)) (h, k)));
}

pub past_at : (key : Values) (items : Items) (n : ℕ) (d : Values × Counted) → n < length items
    → values_cmp (slice_index_or items n d).0 key ≡ Equal → IsPast key items n → IsAt key items n
past_at key items n d l h p = let e : n + 0 ≡ n = omega arith in
    subst (IsAt key items) e (p.found 0
    (subst (λ z. IsAt key z 0) (sym (drop_more items n d l)) (sym (values_order.ties (slice_index_or items n d).0 key h))))

pub past_gap : (key : Values) (items : Items) (n : ℕ) (d : Values × Counted) → n < length items
    → values_cmp (slice_index_or items n d).0 key ≡ Greater → IsPast key items n → IsGap key items n
past_gap key items n d l h p = let e : n + 0 ≡ n = omega arith in
    subst (IsGap key items) e (p.gap 0
    (subst (λ z. IsGap key z 0) (sym (drop_more items n d l)) (total.antisymm key (slice_index_or items n d).0 ∙ ap ordering_reverse h)))

pub past_all : (key : Values) (items : Items) (n : ℕ) → drop n items ≡ [] → IsPast key items n → IsGap key items n
past_all key items n h p = let e : n + 0 ≡ n = omega arith in subst (IsGap key items) e (p.gap 0 (subst (λ z. IsGap key z 0) (sym h) tt))

-- ---- what is found at a place

find_at : (key : Values) (items : Items) (at : ℕ) (d : Values × Counted) → IsAt key items at
    → find values_cmp key items ≡ Some (slice_index_or items at d).1
find_at key [] at d h = absurd h
find_at key (i ∷ items) zero d h = ap (λ b. cond b (Some i.1) (find values_cmp key items)) (test_from_same key i.0 h)
find_at key (i ∷ items) (suc at) d h =
    ap (λ b. cond b (Some i.1) (find values_cmp key items)) (apart i.0 key h.0) ∙ find_at key items at d h.1

find_gap : (key : Values) (items : Items) (at : ℕ) → IsKeyed items → IsGap key items at → find values_cmp key items ≡ None
find_gap key [] at k h = refl
find_gap key (i ∷ items) zero k h =
    ap (λ r. cond (is_eq r) (Some i.1) (find values_cmp key items)) h
    ∙ find_below key items (below_more key i.0 items h (head_below i items k))
find_gap key (i ∷ items) (suc at) k h =
    ap (λ b. cond b (Some i.1) (find values_cmp key items)) (apart i.0 key h.0) ∙ find_gap key items at (tail_sorted i items k) h.1

pub got_at : (key : Values) (items : Items) (at : ℕ) (i : Values × Counted) → IsAt key items at → i ≡ slice_index_or items at i
    → fin.get (whole items) key ≡ Some i.1
got_at key items at i h e = get-whole items key ∙ find_at key items at i h ∙ ap (λ (z : Values × Counted). Some z.1) (sym e)

pub got_none : (key : Values) (items : Items) (at : ℕ) → IsKeyed items → IsGap key items at → fin.get (whole items) key ≡ None
got_none key items at k h = get-whole items key ∙ find_gap key items at k h

-- ---- changes at a place

put_at : (key : Values) (items : Items) (at : ℕ) (d : Values × Counted) (w : Counted) → IsAt key items at
    → put values_cmp key w items ≡ slice_set items at ((slice_index_or items at d).0, w)
put_at key [] at d w h = absurd h
put_at key (i ∷ items) zero d w h =
    ap (λ z. by_order (values_cmp key z) ((key, w) ∷ i ∷ items) ((i.0, w) ∷ items) (i ∷ put values_cmp key w items)) (sym h)
    ∙ ap (λ o. by_order o ((key, w) ∷ i ∷ items) ((i.0, w) ∷ items) (i ∷ put values_cmp key w items)) (tied_itself total key)
put_at key (i ∷ items) (suc at) d w h =
    ap (λ o. by_order o ((key, w) ∷ i ∷ items) ((i.0, w) ∷ items) (i ∷ put values_cmp key w items))
    (total.antisymm key i.0 ∙ ap ordering_reverse h.0)
    ∙ ap (λ z. i ∷ z) (put_at key items at d w h.1)

put_gap : (key : Values) (items : Items) (at : ℕ) (w : Counted) → IsGap key items at → put values_cmp key w items ≡ insert items at (key, w)
put_gap key [] zero w h = refl
put_gap key [] (suc at) w h = absurd h
put_gap key (i ∷ items) zero w h = ap (λ o. by_order o ((key, w) ∷ i ∷ items) ((i.0, w) ∷ items) (i ∷ put values_cmp key w items)) h
put_gap key (i ∷ items) (suc at) w h =
    ap (λ o. by_order o ((key, w) ∷ i ∷ items) ((i.0, w) ∷ items) (i ∷ put values_cmp key w items))
    (total.antisymm key i.0 ∙ ap ordering_reverse h.0)
    ∙ ap (λ z. i ∷ z) (put_gap key items at w h.1)

whole-put : (key : Values) (items : Items) (w : Counted) → whole (put values_cmp key w items) ≡ written (whole items) key (Some w)
whole-put key items w = same_answers (whole (put values_cmp key w items)) (written (whole items) key (Some w)) (λ q.
    get-whole (put values_cmp key w items) q ∙ find-put values_cmp total q key w items
    ∙ ap (λ o. cond (values_eq q key) (Some w) o) (sym (get-whole items q))
    ∙ sym (get-written (whole items) key (Some w) q))

abbrev pub others : Values → Items → Items
others key items = where_key values_cmp (λ x. not (values_eq key x)) items

others_all : (key : Values) (items : Items) → T (below_all values_cmp key items) → others key items ≡ items
others_all key [] h = refl
others_all key (i ∷ items) h = go (values_cmp key i.0) refl h (others_all key items)
  where
    go : (o : Ordering) → values_cmp key i.0 ≡ o → T (is_lt o && below_all values_cmp key items)
        → (T (below_all values_cmp key items) → others key items ≡ items)
        → cond (not (values_eq key i.0)) (i ∷ others key items) (others key items) ≡ i ∷ items
    go Less e h ih = ap (λ r. cond (not (is_eq r)) (i ∷ others key items) (others key items)) e ∙ ap (λ z. i ∷ z) (ih h)
    go Equal e h ih = absurd h
    go Greater e h ih = absurd h

others_at : (key : Values) (items : Items) (at : ℕ) → IsKeyed items → IsAt key items at → others key items ≡ remove items at
others_at key [] at k h = absurd h
others_at key (i ∷ items) zero k h =
    ap (λ b. cond (not b) (i ∷ others key items) (others key items)) (test_from_same key i.0 h)
    ∙ others_all key items (subst (λ z. T (below_all values_cmp z items)) (sym h) (head_below i items k))
others_at key (i ∷ items) (suc at) k h =
    ap (λ b. cond (not b) (i ∷ others key items) (others key items)) (apart i.0 key h.0)
    ∙ ap (λ z. i ∷ z) (others_at key items at (tail_sorted i items k) h.1)

alike : (key q x : Values) → values_cmp q x ≡ Equal → not (values_eq key x) ≡ not (values_eq key q)
alike key q x h = ap (λ z. not (values_eq key z)) (sym (values_order.ties q x h))

find-others : (key : Values) (items : Items) (q : Values)
    → find values_cmp q (others key items) ≡ cond (values_eq q key) None (find values_cmp q items)
find-others key items q =
    find-where_key values_cmp (λ x. not (values_eq key x)) q (alike key q) items ∙ go (values_eq key q) refl (values_eq q key) refl
  where
    go : (a : Bool) → values_eq key q ≡ a → (b : Bool) → values_eq q key ≡ b
        → cond (not a) (find values_cmp q items) None ≡ cond b None (find values_cmp q items)
    go true e true f = refl
    go true e false f = absurd (false≢true (sym f ∙ test_from_same q key (sym (same_from_test key q e))))
    go false e true f = absurd (false≢true (sym e ∙ test_from_same key q (sym (same_from_test q key f))))
    go false e false f = refl

whole-others : (key : Values) (items : Items) → whole (others key items) ≡ written (whole items) key None
whole-others key items = same_answers (whole (others key items)) (written (whole items) key None) (λ q.
    get-whole (others key items) q ∙ find-others key items q ∙ ap (λ o. cond (values_eq q key) None o) (sym (get-whole items q))
    ∙ sym (get-written (whole items) key None q))

-- ---- what a change is to the rows

-- the items with what is kept at one key written
pub record Writes (old new : Items) (key : Values) (w : Option Counted) : Type 0 where
  pub keyed : IsKeyed new
  pub rows : rows_in new ≡ written (rows_in old) key w

pub writes_at : (key : Values) (items : Items) (at : ℕ) (i : Values × Counted) (w : Counted) → IsKeyed items → IsAt key items at
    → i ≡ slice_index_or items at i
    → Writes items (slice_set items at (i.0, w)) key (Some w)
writes_at key items at i w k h e =
    let p : put values_cmp key w items ≡ slice_set items at (i.0, w) =
    put_at key items at i w h ∙ ap (λ (z : Values × Counted). slice_set items at (z.0, w)) (sym e) in
    record { keyed = subst IsKeyed p (is_sorted-put values_cmp total key w items k); rows = ap rows_in (sym p) ∙ whole-put key items w }

pub writes_gap : (key : Values) (items : Items) (at : ℕ) (w : Counted) → IsKeyed items → IsGap key items at
    → Writes items (insert items at (key, w)) key (Some w)
writes_gap key items at w k h =
    let p : put values_cmp key w items ≡ insert items at (key, w) = put_gap key items at w h in
    record { keyed = subst IsKeyed p (is_sorted-put values_cmp total key w items k); rows = ap rows_in (sym p) ∙ whole-put key items w }

pub writes_out : (key : Values) (items : Items) (at : ℕ) → IsKeyed items → IsAt key items at → Writes items (remove items at) key None
writes_out key items at k h =
    let p : others key items ≡ remove items at = others_at key items at k h in
    record {
      keyed = subst IsKeyed p (is_sorted-where_key values_cmp (λ x. not (values_eq key x)) items k);
      rows = ap rows_in (sym p) ∙ whole-others key items;
    }

-- ---- rows in order

abbrev line : Values × Counted → Values
line e = e.0 ++ e.1.0

pub listed-rows : (items : Items) → IsKeyed items → listed (rows_in items) ≡ values_in items
listed-rows items k = ap (flat_map line) (entries-keep present (rows_in items) ∙ ap (parts present) (entries-whole items k))

pub len-rows : (items : Items) → IsKeyed items → fin.len (current (rows_in items)) ≡ count_in items
len-rows items k =
    len-entries (current (rows_in items)) ∙ ap length (entries-keep present (rows_in items) ∙ ap (parts present) (entries-whole items k))

values_in-append : (items more : Items) → values_in (items ++ more) ≡ values_in items ++ values_in more
values_in-append [] more = refl
values_in-append (i ∷ items) more = go (present i.1) (values_in-append items more)
  where
    go : (o : Option Counted) → values_in (items ++ more) ≡ values_in items ++ values_in more
        → flat_map line (cons_option (option_map (λ y. (i.0, y)) o) (parts present (items ++ more)))
        ≡ flat_map line (cons_option (option_map (λ y. (i.0, y)) o) (parts present items)) ++ values_in more
    go None ih = ih
    go (Some c) ih = ap (λ z. (i.0 ++ c.0) ++ z) ih ∙ sym (append_assoc (i.0 ++ c.0) (values_in items) (values_in more))

count_in-append : (items more : Items) → count_in (items ++ more) ≡ count_in items + count_in more
count_in-append [] more = let e : count_in more ≡ 0 + count_in more = omega arith in e
count_in-append (i ∷ items) more = go (present i.1) (count_in-append items more)
  where
    go : (o : Option Counted) → count_in (items ++ more) ≡ count_in items + count_in more
        → length (cons_option (option_map (λ y. (i.0, y)) o) (parts present (items ++ more)))
        ≡ length (cons_option (option_map (λ y. (i.0, y)) o) (parts present items)) + count_in more
    go None ih = ih
    go (Some c) ih =
        let a : ℕ = count_in items in
        let b : ℕ = count_in more in
        let n : ℕ = count_in (items ++ more) in
        let e : n ≡ a + b = ih in
        let f : suc n ≡ suc a + b = omega arith in
        f

-- how many rows one item has
pub count_one : (i : Values × Counted) (o : Option Values) → o ≡ extra_of (present i.1) → count_in (i ∷ []) ≡ cond (is_some o) 1 0
count_one i o h = go (present i.1) h
  where
    go : (n : Option Counted) → o ≡ extra_of n
        → length {A = Values × Counted} (cons_option (option_map (λ y. (i.0, y)) n) []) ≡ cond (is_some o) 1 0
    go None h = ap (λ (z : Option Values). cond (is_some z) 1 0) (sym h)
    go (Some c) h = ap (λ (z : Option Values). cond (is_some z) 1 0) (sym h)

-- whether a row is there, by a walk over the items
some_filled : (items : Items) → nat_lt 0 (count_in items) ≡ list_any is_filled items
some_filled [] = refl
some_filled (i ∷ items) = go (is_tombstone i.1) refl (some_filled items)
  where
    more : Option Counted → List (Values × Counted)
    more o = cons_option (option_map (λ y. (i.0, y)) o) (parts present items)

    go : (b : Bool) → is_tombstone i.1 ≡ b → nat_lt 0 (length (parts present items)) ≡ list_any is_filled items
        → nat_lt 0 (length (more (present i.1))) ≡ (not (is_tombstone i.1) || list_any is_filled items)
    go true t ih =
        ap (λ o. nat_lt 0 (length (more o))) (tombstone_absent i.1 t) ∙ ih ∙ ap (λ b. not b || list_any is_filled items) (sym t)
    go false t ih =
        ap (λ o. nat_lt 0 (length (more o))) (filled_present i.1 t) ∙ lt-ltb 0 (suc (length (parts present items))) (omega arith)
        ∙ ap (λ b. not b || list_any is_filled items) (sym t)

pub has_row-items : (items : Items) → IsKeyed items → (b : Bool) → b ≡ list_any is_filled items
    → IsTrue b ↔ (0 < fin.len (current (rows_in items)))
has_row-items items k b e = ((λ t. ltb-true 0 n (sym is ∙ t)), (λ l. is ∙ lt-ltb 0 n l))
  where
    n : ℕ
    n = fin.len (current (rows_in items))

    is : b ≡ nat_lt 0 n
    is = e ∙ sym (some_filled items) ∙ ap (nat_lt 0) (sym (len-rows items k))

rows_next : (items : Items) (n : ℕ) (i : Values × Counted) → n < length items → i ≡ slice_index_or items n i
    → values_in (take (n + 1) items) ≡ values_in (take n items) ++ values_in (i ∷ [])
rows_next items n i l e =
    ap values_in (take_more items n i l) ∙ values_in-append (take n items) (slice_index_or items n i ∷ [])
    ∙ ap (λ (z : Values × Counted). values_in (take n items) ++ values_in (z ∷ [])) (sym e)

-- rows pushed so far, with one item more
pub rows_pushed : (before all new : Values) (items : Items) (n : ℕ) (i : Values × Counted) → all ≡ before ++ values_in (take n items)
    → new ≡ all ++ values_in (i ∷ []) → n < length items → i ≡ slice_index_or items n i
    → new ≡ before ++ values_in (take (n + 1) items)
rows_pushed before all new items n i is next l e =
    next ∙ ap (λ z. z ++ values_in (i ∷ [])) is ∙ append_assoc before (values_in (take n items)) (values_in (i ∷ []))
    ∙ ap (λ z. before ++ z) (sym (rows_next items n i l e))

-- rows counted so far, with one item more
pub count_next : (items : Items) (n : ℕ) (i : Values × Counted) (o : Option Values) → n < length items → i ≡ slice_index_or items n i
    → o ≡ extra_of (present i.1)
    → count_in (take (n + 1) items) ≡ count_in (take n items) + cond (is_some o) 1 0
count_next items n i o l e h =
    ap count_in (take_more items n i l) ∙ count_in-append (take n items) (slice_index_or items n i ∷ [])
    ∙ ap (λ (z : Values × Counted). count_in (take n items) + count_in (z ∷ [])) (sym e)
    ∙ ap (λ z. count_in (take n items) + z) (count_one i o h)

-- there are no more rows than items
pub count_within : (items : Items) → count_in items ≤ length items
count_within [] = let h : 0 ≤ 0 = omega arith in h
count_within (i ∷ items) = go (present i.1) (count_within items)
  where
    go : (o : Option Counted) → count_in items ≤ length items
        → length (cons_option (option_map (λ y. (i.0, y)) o) (parts present items)) ≤ suc (length items)
    go None h = omega arith
    go (Some c) h = omega arith

-- ---- the container's rows, as its calls have them: m is what it was, items are its fields

pub get_at : (m : Rows) (key : Values) (items : Items) (at : ℕ) (i : Values × Counted) → rows_in items ≡ m → IsAt key items at
    → i ≡ slice_index_or items at i
    → fin.get m key ≡ Some i.1
get_at m key items at i is h e = ap (λ z. fin.get z key) (sym is) ∙ got_at key items at i h e

pub get_none : (m : Rows) (key : Values) (items : Items) (at : ℕ) → rows_in items ≡ m → IsKeyed items → IsGap key items at
    → fin.get m key ≡ None
get_none m key items at is k h = ap (λ z. fin.get z key) (sym is) ∙ got_none key items at k h

pub found_at : (m : Rows) (key : Values) (items : Items) (at : ℕ) (i : Values × Counted) → rows_in items ≡ m → IsAt key items at
    → i ≡ slice_index_or items at i
    → found m key ≡ present i.1
found_at m key items at i is h e = ap (option_and_then present) (get_at m key items at i is h e)

pub found_none : (m : Rows) (key : Values) (items : Items) (at : ℕ) → rows_in items ≡ m → IsKeyed items → IsGap key items at
    → found m key ≡ None
found_none m key items at is k h = ap (option_and_then present) (get_none m key items at is k h)

pub set_at : (m : Rows) (key : Values) (items : Items) (at : ℕ) (i : Values × Counted) (w : Counted) → rows_in items ≡ m → IsKeyed items
    → IsAt key items at
    → i ≡ slice_index_or items at i → rows_in (slice_set items at (i.0, w)) ≡ fin.insert m key w
set_at m key items at i w is k h e = (writes_at key items at i w k h e).rows ∙ ap (λ z. fin.insert z key w) is

pub put_in : (m : Rows) (key : Values) (items : Items) (at : ℕ) (w : Counted) → rows_in items ≡ m → IsKeyed items → IsGap key items at
    → rows_in (insert items at (key, w)) ≡ fin.insert m key w
put_in m key items at w is k h = (writes_gap key items at w k h).rows ∙ ap (λ z. fin.insert z key w) is

-- a row that was taken out is swept
pub swept_out : (m : Rows) (key : Values) (items : Items) (at : ℕ) (i : Values × Counted) → rows_in items ≡ m → IsKeyed items
    → IsAt key items at
    → i ≡ slice_index_or items at i → is_tombstone i.1 ≡ true → rows_in (remove items at) ≡ swept m key
swept_out m key items at i is k h e v =
    (writes_out key items at k h).rows ∙ ap (λ z. fin.remove z key) is
    ∙ ap (written m key) (sym (found_at m key items at i is h e ∙ tombstone_absent i.1 v))

-- sweeping leaves a row that is there
pub swept_filled : (m : Rows) (key : Values) (c : Counted) → fin.get m key ≡ Some c → is_tombstone c ≡ false → m ≡ swept m key
swept_filled m key c h v =
    let f : found m key ≡ Some c = ap (option_and_then present) h ∙ filled_present c v in
    sym (written_again m key (found m key) (h ∙ sym f))

-- where nothing is kept there is nothing to sweep
pub swept_none : (m : Rows) (key : Values) → fin.get m key ≡ None → m ≡ swept m key
swept_none m key h = sym (written_again m key (found m key) (h ∙ sym (ap (option_and_then present) h)))

-- the container of no items has no rows
pub rows-none : rows_in [] ≡ fin.empty
rows-none = same_answers (rows_in []) fin.empty (λ q. get-whole [] q ∙ sym (get-empty values_cmp q))

ne_zero : (n : ℕ) → (suc n == 0) ≡ true → ⊥
ne_zero n h = let e : suc n ≡ 0 = eqb-true (suc n) 0 h in omega arith

-- nothing is kept just where there is no item
pub gone_rows : (m : Rows) (items : Items) → rows_in items ≡ m → (length items == 0) ≡ true ↔ (m ≡ fin.empty)
gone_rows m [] is = (λ h. sym is ∙ rows-none, λ h. refl)
gone_rows m (i ∷ items) is = (
  λ h. absurd (ne_zero (length items) h),
  λ h.
      let n : Some i.1 ≡ None =
      sym (get_at m i.0 (i ∷ items) 0 i is refl refl) ∙ ap (λ (z : Rows). fin.get z i.0) h ∙ get-empty values_cmp i.0 in
      absurd (cc),
)
