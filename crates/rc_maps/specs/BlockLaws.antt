-- Laws of a block's rows: what a search finds, and what a change at a place is to them.
use Rattle.std.specs.Prelude.{◌≡◌, ℕ, zero, suc, ◌+◌, ◌<◌, ◌≤◌, Bool, true, false, cond, T, nat_lt, ◌==◌, ◌&&◌, ◌||◌, not, Option, None, Some, is_some, Result, Ok, Err, IfOk, IfErr, List, [], ◌∷◌, ◌++◌, length, map, take, slice_set, slice_index_or, insert, remove}
use Rattle.rc_maps.specs.Imports.{Less, Equal, Greater, Ordering, is_lt, nat_cmp, ordering_index, ordering_then, nat_cmp_is, is_sorted, len-entries, unwrap_or, below_all, IsBinarySearchResult, IsNonDecreasingBy, IsSearchInRange, list_any, slice_get, Values, values_cmp, Counted, Rows, extra_of, present, swept, IsAt, IsGap, IsKeyed, Items, count_in, rows_in, count_next, entries-whole, get_at, put_in, set_at, swept_filled, swept_out, writes_at, writes_gap, writes_out, head_below, less, tail_sorted}
use Rattle.std.specs.FinMap as fin
use Rattle.std.proofs.Common.{leb, refl, sym, ap, subst, ◌∙◌, arith}
use Rattle.std.proofs.lemmas.Bool.{eq-eqb, lt-ltb}
use Rattle.std.proofs.lemmas.Bool.Decides.{nat_tests}
use Rattle.std.proofs.lemmas.Cmp.{ranked}
use Rattle.std.proofs.lemmas.List.{drop-map, length-map, map-append, map-set, take-map}
use Rattle.std.proofs.lemmas.Option.{none-some}
use Rattle.std.proofs.lemmas.Simd.{map-map}
use Rattle.std.proofs.Math.ListN.{get_or-map}
use Rattle.rc_maps.specs.Block.{item_of, items_of}
use Rattle.rc_maps.specs.Blocks.{begin_by}
use Rattle.rc_maps.specs.Keyed.{by_one}
use Rattle.rc_maps.specs.TableLaws.{no_one, one, one_cmp}
use Rattle.rc_maps.specs.declared.block.Row.{Row}

-- ---- parts of a list of items

pub first : (a b : Bool) → T (a && b) → T a
first true b p = tt
first false b p = p

pub second : (a b : Bool) → T (a && b) → T b
second true b p = p
second false b p = absurd p

pub both : (a b : Bool) → T a → T b → T (a && b)
both true b p q = q
both false b p q = p

pub below_first : (x : Values) (i : Values × Counted) (items : Items) → T (below_all values_cmp x (i ∷ items)) → values_cmp x i.0 ≡ Less
below_first x i items h = less (values_cmp x i.0) (first (is_lt (values_cmp x i.0)) (below_all values_cmp x items) h)

pub below_rest : (x : Values) (i : Values × Counted) (items : Items) → T (below_all values_cmp x (i ∷ items)) → T (below_all values_cmp x items)
below_rest x i items h = second (is_lt (values_cmp x i.0)) (below_all values_cmp x items) h

pub below_back : (x : Values) (items more : Items) → T (below_all values_cmp x (items ++ more)) → T (below_all values_cmp x more)
below_back x [] more h = h
below_back x (i ∷ items) more h = below_back x items more (below_rest x i (items ++ more) h)

pub below_front : (x : Values) (items more : Items) → T (below_all values_cmp x (items ++ more)) → T (below_all values_cmp x items)
below_front x [] more h = tt
below_front x (i ∷ items) more h =
    both (is_lt (values_cmp x i.0)) (below_all values_cmp x items) (first (is_lt (values_cmp x i.0)) (below_all values_cmp x (items ++ more)) h)
    (below_front x items more (below_rest x i (items ++ more) h))

pub keyed_back : (items more : Items) → IsKeyed (items ++ more) → IsKeyed more
keyed_back [] more h = h
keyed_back (i ∷ items) more h = keyed_back items more (tail_sorted i (items ++ more) h)

pub keyed_front : (items more : Items) → IsKeyed (items ++ more) → IsKeyed items
keyed_front [] more h = tt
keyed_front (i ∷ items) more h =
    both (below_all values_cmp i.0 items) (is_sorted values_cmp items) (below_front i.0 items more (head_below i (items ++ more) h))
    (keyed_front items more (tail_sorted i (items ++ more) h))

-- ---- keys of one column

below : (x y : ℕ) → x < y → values_cmp (one x) (one y) ≡ Less
below x y l = one_cmp x y ∙ sym (nat_cmp_is x y Less l)

below_is : (x y : ℕ) → T (is_lt (values_cmp (one x) (one y))) → x < y
below_is x y t = ranked x y Less (sym (sym (one_cmp x y) ∙ less (values_cmp (one x) (one y)) t))

module _ {n : ℕ} where
  -- ---- changes at a place

  pub items-set : (rows : List (Row n)) (at : ℕ) (row : Row n) → items_of (slice_set rows at row) ≡ slice_set (items_of rows) at (item_of row)
  items-set rows at row = map-set item_of rows at row

  pub items-insert : (rows : List (Row n)) (at : ℕ) (row : Row n) → items_of (insert rows at row) ≡ insert (items_of rows) at (item_of row)
  items-insert rows at row = simp (map-append, take-map, drop-map)

  pub items-remove : (rows : List (Row n)) (at : ℕ) → items_of (remove rows at) ≡ remove (items_of rows) at
  items-remove rows at = simp (map-append, take-map, drop-map)

  pub item_at : (rows : List (Row n)) (at : ℕ) (row : Row n) → row ≡ slice_index_or rows at row
      → item_of row ≡ slice_index_or (items_of rows) at (item_of row)
  item_at rows at row e = ap item_of e ∙ sym (get_or-map item_of rows at row)

  -- how many of the rows are there, with one more
  pub counted : (rows : List (Row n)) (k : ℕ) (row : Row n) (o : Option Values) → k < length rows → row ≡ slice_index_or rows k row
      → o ≡ extra_of (present (row.extra, row.count))
      → count_in (items_of (take (k + 1) rows)) ≡ count_in (items_of (take k rows)) + cond (is_some o) 1 0
  counted rows k row o l e h =
      ap count_in (sym (take-map item_of (k + 1) rows))
      ∙ count_next (items_of rows) k (item_of row) o (subst (λ z. k < z) (sym (length-map rows item_of)) l) (item_at rows k row e) h
      ∙ ap (λ z. count_in z + cond (is_some o) 1 0) (take-map item_of k rows)

  -- a key of another length is none of theirs
  pub none_other : (rows : List (Row n)) (key : Values) → (length key ≡ 1 → ⊥) → fin.get (rows_in (items_of rows)) key ≡ None
  none_other rows key other =
      let entries : List (ℕ × Counted) = map (λ (row : Row n). (row.key, (row.extra, row.count))) rows in
      let same : items_of rows ≡ by_one entries =
      sym (map-map (λ (e : ℕ × Counted). (e.0 ∷ [], e.1)) (λ (row : Row n). (row.key, (row.extra, row.count))) rows) in
      ap (λ z. fin.get (rows_in z) key) same ∙ no_one key entries other

  -- ---- a search

  -- a key is below those of the rows behind it
  below_later : (r : Row n) (rows : List (Row n)) (k : ℕ) (d : Row n) → T (below_all values_cmp (one r.key) (items_of rows)) → k < length rows
      → r.key < (slice_index_or rows k d).key
  below_later r [] k d b l = absurd (omega arith)
  below_later r (s ∷ rows) zero d b l = below_is r.key s.key (first (is_lt (values_cmp (one r.key) (one s.key))) _ b)
  below_later r (s ∷ rows) (suc k) d b l = below_later r rows k d (second (is_lt (values_cmp (one r.key) (one s.key))) _ b) (omega arith)

  rises : (rows : List (Row n)) (i j : ℕ) (d : Row n) → IsKeyed (items_of rows) → i < j → j < length rows
      → (slice_index_or rows i d).key < (slice_index_or rows j d).key
  rises [] i j d h l m = absurd (omega arith)
  rises (r ∷ rows) i zero d h l m = absurd (omega arith)
  rises (r ∷ rows) zero (suc j) d h l m = below_later r rows j d (head_below (item_of r) (items_of rows) h) (omega arith)
  rises (r ∷ rows) (suc i) (suc j) d h l m = rises rows i j d (tail_sorted (item_of r) (items_of rows) h) (omega arith) (omega arith)

  is_at : (rows : List (Row n)) (key at : ℕ) (d : Row n) → IsKeyed (items_of rows) → at < length rows → (slice_index_or rows at d).key ≡ key
      → IsAt (one key) (items_of rows) at
  is_at [] key at d h l e = absurd (omega arith)
  is_at (r ∷ rows) key zero d h l e = ap one (sym e)
  is_at (r ∷ rows) key (suc at) d h l e = (
    below r.key key (subst (λ k. r.key < k) e (below_later r rows at d (head_below (item_of r) (items_of rows) h) (omega arith))),
    is_at rows key at d (tail_sorted (item_of r) (items_of rows) h) (omega arith) e,
  )

  is_gap : (rows : List (Row n)) (key at : ℕ) → at ≤ length rows
      → ((k : ℕ) (d : Row n) → k < at → (slice_index_or rows k d).key < key)
      → ((d : Row n) → at < length rows → key < (slice_index_or rows at d).key)
      → IsGap (one key) (items_of rows) at
  is_gap [] key zero l b a = tt
  is_gap [] key (suc at) l b a = absurd (omega arith)
  is_gap (r ∷ rows) key zero l b a = below key r.key (a r (omega arith))
  is_gap (r ∷ rows) key (suc at) l b a = (
    below r.key key (b 0 r (omega arith)),
    is_gap rows key at (omega arith) (λ k d m. b (suc k) d (omega arith)) (λ d m. a d (omega arith)),
  )

  comparisons_rise : (rows : List (Row n)) (key : ℕ) → IsKeyed (items_of rows) → IsNonDecreasingBy (λ row. ordering_index (nat_cmp row.key key)) rows
  comparisons_rise rows key h i j d l m =
      let keys_rise : (slice_index_or rows i d).key ≤ (slice_index_or rows j d).key =
      grind (arith, rises rows i j d h, λ (same : i ≡ j). ap (λ z. (slice_index_or rows z d).key) same) in
      grind (arith, nat_tests)

  -- what a binary search finds, or where the key would go
  pub record IsSearched (rows : List (Row n)) (key : ℕ) (r : Result ℕ ℕ) : Type 0 where
    pub found : IfOk r (λ at. IsAt (one key) (items_of rows) at)
    pub within : IfOk r (λ at. at < length rows)
    pub gap : IfErr r (λ at. IsGap (one key) (items_of rows) at)
    pub end : IfErr r (λ at. at ≤ length rows)

  pub searched : (rows : List (Row n)) (key : ℕ) (r : Result ℕ ℕ) → IsKeyed (items_of rows) → IsSearchInRange r (length rows)
      → IsBinarySearchResult (λ row. nat_cmp row.key key) rows r → IsSearched rows key r
  searched [] key (Ok at) h l s = absurd (omega arith)
  searched (row ∷ rows) key (Ok at) h l s = record {
    found = is_at (row ∷ rows) key at row h l (ranked (slice_index_or (row ∷ rows) at row).key key Equal (sym (s row)));
    within = l;
    gap = tt;
    end = tt;
  }
  searched rows key (Err at) h l s = record {
    found = tt;
    within = tt;
    gap = is_gap rows key at l
        (λ k d m. ranked (slice_index_or rows k d).key key Less (sym ((s (comparisons_rise rows key h)).0 k d (omega arith) m)))
        (λ d m. ranked (slice_index_or rows at d).key key Greater (sym ((s (comparisons_rise rows key h)).1 at d (omega arith) m)));
    end = l;
  }

-- ---- the first key

-- a row's key is at or below one that begins with this value, where it is at or below the value
begin_row : (row k : ℕ) (key : Values) → leb row k ≡ not (is_lt (values_cmp (k ∷ key) (one row)))
begin_row row k key = go (nat_cmp k row) refl
  where
    no : k < row → leb row k ≡ false
    no l = grind (arith, nat_tests)

    yes : row ≤ k → leb row k ≡ true
    yes l = grind (arith, nat_tests)

    rest : (xs : Values) → true ≡ not (is_lt (values_cmp xs []))
    rest [] = refl
    rest (x ∷ xs) = refl

    go : (o : Ordering) → nat_cmp k row ≡ o → leb row k ≡ not (is_lt (ordering_then o (values_cmp key [])))
    go Less e = no (ranked k row Less (sym e))
    go Equal e = let same : k ≡ row = ranked k row Equal (sym e) in yes (omega (arith, same)) ∙ rest key
    go Greater e = let l : row < k = ranked k row Greater (sym e) in yes (omega (arith, l))

module _ {n : ℕ} where
  pub begins_row : (rows : List (Row n)) (key : Values) (row : Row n) (k : ℕ) → Some row ≡ slice_get rows 0 → Some k ≡ slice_get key 0
      → leb row.key k ≡ begin_by (items_of rows) key
  begins_row [] key row k h e = absurd (none-some row (sym h))
  begins_row (r ∷ rows) [] row k h e = absurd (none-some k (sym e))
  begins_row (r ∷ rows) (x ∷ key) row k h e =
      ap (λ o. leb (unwrap_or o row).key k) h ∙ ap (λ o. leb r.key (unwrap_or o k)) e ∙ begin_row r.key x key

  pub begins_no_key : (rows : List (Row n)) (key : Values) → None ≡ slice_get key 0 → false ≡ begin_by (items_of rows) key
  begins_no_key [] key h = refl
  begins_no_key (r ∷ rows) [] h = refl
  begins_no_key (r ∷ rows) (x ∷ key) h = absurd (none-some x h)

  pub begins_no_row : (rows : List (Row n)) (key : Values) → None ≡ slice_get rows 0 → false ≡ begin_by (items_of rows) key
  begins_no_row [] key h = refl
  begins_no_row (r ∷ rows) key h = absurd (none-some r h)

-- ---- a block's rows, as its calls have them: m is what they were, rows are its field

module _ {n : ℕ} (rows : List (Row n)) (m : Rows) (is : rows_in (items_of rows) ≡ m) where
  pub entries_are : IsKeyed (items_of rows) → fin.entries m ≡ items_of rows
  entries_are k = ap fin.entries (sym is) ∙ entries-whole (items_of rows) k

  pub len_is : IsKeyed (items_of rows) → fin.len m ≡ length rows
  len_is k = len-entries m ∙ ap length (entries_are k) ∙ length-map rows item_of

  pub kept_at : (key : Values) (at : ℕ) (row : Row n) → IsAt key (items_of rows) at → row ≡ slice_index_or rows at row
      → fin.get m key ≡ Some (row.extra, row.count)
  kept_at key at row h e = get_at m key (items_of rows) at (item_of row) is h (item_at rows at row e)

  pub gone_in : (key : Values) → fin.get (rows_in (items_of rows)) key ≡ None → fin.get m key ≡ None
  gone_in key h = ap (λ z. fin.get z key) (sym is) ∙ h

  -- the rows with this kept at the key
  pub record IsWritten (new : List (Row n)) (key : Values) (w : Counted) : Type 0 where
    pub keyed : IsKeyed (items_of new)
    pub kept : rows_in (items_of new) ≡ fin.insert m key w

  -- the key of the row at its place
  key_at : (key : Values) (items : Items) (at : ℕ) (i : Values × Counted) → IsAt key items at → i ≡ slice_index_or items at i → key ≡ i.0
  key_at key [] at i h e = absurd h
  key_at key (x ∷ items) zero i h e = h ∙ sym (ap (λ (z : Values × Counted). z.0) e)
  key_at key (x ∷ items) (suc at) i h e = key_at key items at i h.1 e

  pub at_key : (key : Values) (at : ℕ) (row : Row n) → IsAt key (items_of rows) at → row ≡ slice_index_or rows at row → key ≡ row.key ∷ []
  at_key key at row h e = key_at key (items_of rows) at (item_of row) h (item_at rows at row e)

  pub set_row : (key : Values) (at : ℕ) (row new : Row n) → IsKeyed (items_of rows) → IsAt key (items_of rows) at
      → row ≡ slice_index_or rows at row → key ≡ new.key ∷ []
      → IsWritten (slice_set rows at new) key (new.extra, new.count)
  set_row key at row new k h e same =
      let w : Counted = (new.extra, new.count) in
      let p : slice_set (items_of rows) at (row.key ∷ [], w) ≡ items_of (slice_set rows at new) =
      ap (λ z. slice_set (items_of rows) at (z, w)) (sym (at_key key at row h e) ∙ same) ∙ sym (items-set rows at new) in
      let i : item_of row ≡ slice_index_or (items_of rows) at (item_of row) = item_at rows at row e in
      record {
        keyed = subst IsKeyed p (writes_at key (items_of rows) at (item_of row) w k h i).keyed;
        kept = ap rows_in (sym p) ∙ set_at m key (items_of rows) at (item_of row) w is k h i;
      }

  pub put_row : (key : Values) (at : ℕ) (new : Row n) → IsKeyed (items_of rows) → IsGap key (items_of rows) at → key ≡ new.key ∷ []
      → IsWritten (insert rows at new) key (new.extra, new.count)
  put_row key at new k h same =
      let w : Counted = (new.extra, new.count) in
      let p : insert (items_of rows) at (key, w) ≡ items_of (insert rows at new) =
      ap (λ z. insert (items_of rows) at (z, w)) same ∙ sym (items-insert rows at new) in
      record {
        keyed = subst IsKeyed p (writes_gap key (items_of rows) at w k h).keyed;
        kept = ap rows_in (sym p) ∙ put_in m key (items_of rows) at w is k h;
      }

  pub out_keyed : (key : Values) (at : ℕ) → IsKeyed (items_of rows) → IsAt key (items_of rows) at → IsKeyed (items_of (remove rows at))
  out_keyed key at k h = subst IsKeyed (sym (items-remove rows at)) (writes_out key (items_of rows) at k h).keyed

  pub out_swept : (key : Values) (at : ℕ) (row : Row n) → IsKeyed (items_of rows) → IsAt key (items_of rows) at
      → row ≡ slice_index_or rows at row → row.count ≡ 0
      → rows_in (items_of (remove rows at)) ≡ swept m key
  out_swept key at row k h e z =
      ap rows_in (items-remove rows at)
      ∙ swept_out m key (items_of rows) at (item_of row) is k h (item_at rows at row e) (eq-eqb row.count 0 z)

  -- where no row was taken out, sweeping changes nothing
  pub stays_swept : (key : Values) (at : ℕ) (row : Row n) → IsAt key (items_of rows) at → row ≡ slice_index_or rows at row
      → 0 < row.count → m ≡ swept m key
  stays_swept key at row h e l = swept_filled m key (row.extra, row.count) (kept_at key at row h e) (is_there row.count l)
    where
      is_there : (k : ℕ) → 0 < k → (k == 0) ≡ false
      is_there k l = grind (arith, nat_tests)

-- a row that is there
pub present_there : (extra : Values) (k : ℕ) → 0 < k → present (extra, k) ≡ Some (extra, k)
present_there extra k l = ap (λ b. cond b (Some (extra, k)) None) (lt-ltb 0 k l)

-- a tombstone
pub present_gone : (extra : Values) (k : ℕ) → k ≡ 0 → present (extra, k) ≡ None
present_gone extra k z = ap (λ i. cond (nat_lt 0 i) (Some (extra, i)) None) z

pub list_any-map : {X Y : Type 0} (f : X → Y) (test : Y → Bool) (xs : List X) → list_any (λ x. test (f x)) xs ≡ list_any test (map f xs)
list_any-map f test [] = refl
list_any-map f test (x ∷ xs) = ap (λ b. test (f x) || b) (list_any-map f test xs)

-- ---- two lists of rows

-- the rows are two lists, one behind the other
pub record IsHalved {n : ℕ} (m : Rows) (front back : List (Row n)) : Type 0 where
  pub lower : IsKeyed (items_of front)
  pub upper : IsKeyed (items_of back)
  pub parts : fin.entries (rows_in (items_of front)) ++ fin.entries (rows_in (items_of back)) ≡ fin.entries m

module _ {n : ℕ} (rows : List (Row n)) (m : Rows) (is : rows_in (items_of rows) ≡ m) (keyed : IsKeyed (items_of rows)) where
  pub halved : (own front back lower upper : List (Row n)) → own ≡ rows → own ≡ front ++ back → lower ≡ front → upper ≡ back → IsHalved m lower upper
  halved own front back lower upper same parted low up =
      let whole : items_of lower ++ items_of upper ≡ items_of rows =
      (λ i. items_of (low i) ++ items_of (up i)) ∙ sym (map-append item_of front back) ∙ ap items_of (sym parted ∙ same) in
      let k : IsKeyed (items_of lower ++ items_of upper) = subst IsKeyed (sym whole) keyed in
      let a : IsKeyed (items_of lower) = keyed_front (items_of lower) (items_of upper) k in
      let b : IsKeyed (items_of upper) = keyed_back (items_of lower) (items_of upper) k in
      record {
        lower = a;
        upper = b;
        parts =
            (λ i. entries-whole (items_of lower) a i ++ entries-whole (items_of upper) b i) ∙ whole
            ∙ sym (entries_are rows m is keyed);
      }

  -- the rows with those of another block behind them
  pub appended : (more new : List (Row n)) (b : Rows) → rows_in (items_of more) ≡ b → IsKeyed (items_of more)
      → IsKeyed (fin.entries m ++ fin.entries b) → new ≡ rows ++ more
      → IsKeyed (items_of new) × (fin.entries (rows_in (items_of new)) ≡ fin.entries m ++ fin.entries b)
  appended more new b is_more keyed_more k e =
      let whole : items_of new ≡ fin.entries m ++ fin.entries b =
      ap items_of e ∙ map-append item_of rows more
      ∙ (λ i. sym (entries_are rows m is keyed) i ++ sym (entries_are more b is_more keyed_more) i) in
      let kept : IsKeyed (items_of new) = subst IsKeyed (sym whole) k in
      (kept, entries-whole (items_of new) kept ∙ whole)
