-- Laws of the rows of several blocks: the place of a key, and what a change of one block is to all rows.
use Rattle.std.specs.Prelude.{◌≡◌, ◌^◌, ℕ, zero, suc, ◌+◌, ◌<◌, ◌≤◌, Bool, true, false, cond, not, T, ◌↔◌, Option, None, Some, IsSome, is_some, Result, Ok, Err, OnOk, OnErr, IfOk, List, [], ◌∷◌, ◌++◌, ◌-◌, length, take, drop, slice_set, slice_index_or, insert, remove}
use Rattle.rc_maps.specs.Imports.{IsTrue, AllByRecursion, IsPartitionPoint, IsPartitionedBy, Ordering, Less, Equal, Greater, is_lt, is_eq, ordering_reverse, option_and_then, find, put, empty_of_len, entries_sorted, entries-insert, get-entries, get-from_entries, get-remove, len-empty, len-entries, len-insert, len-remove, below_all, where_key, is_sorted-put, is_sorted-where_key, find-where_key, same_entries, by_order, Values, values_cmp, values_eq, values_order, test_symmetric, Counted, HasAsMany, IsAddedNew, Rows, count_at, count_of, found, once_less, once_more, one_less, present, swept, written, IsKeyed, Items, rows_in, entries-whole, total, same_answers, head_below, tail_sorted, below_more, find_below}
use Rattle.std.specs.FinMap as fin
use Rattle.std.proofs.Common.{refl, sym, ap, subst, ◌∙◌, arith}
use Rattle.std.proofs.lemmas.Bool.{false≢true}
use Rattle.std.proofs.lemmas.List.{append_assoc, length-append, length-set, take_all}
use Rattle.rc_maps.specs.Blocks.{AreBelow, AreBlocks, HasRoom, IsOwn, begin_by, begins_by, items_in}
use Rattle.rc_maps.specs.BlockLaws.{both, below_back, below_first, below_front, below_rest, keyed_back}

-- ---- lists of items

-- a key that is above another
above : (key x : Values) → values_cmp x key ≡ Less → values_cmp key x ≡ Greater
above key x h = total.antisymm key x ∙ ap ordering_reverse h

find_back : (key : Values) (items more : Items) → AreBelow items key → find values_cmp key (items ++ more) ≡ find values_cmp key more
find_back key [] more h = refl
find_back key (i ∷ items) more h =
    ap (λ o. cond (is_eq o) (Some i.1) (find values_cmp key (items ++ more))) (above key i.0 h.0) ∙ find_back key items more h.1

find_front : (key : Values) (items more : Items) → T (below_all values_cmp key more)
    → find values_cmp key (items ++ more) ≡ find values_cmp key items
find_front key [] more h = find_below key more h
find_front key (i ∷ items) more h = ap (λ o. cond (values_eq key i.0) (Some i.1) o) (find_front key items more h)

-- ---- what is kept at one key, written

abbrev changed : Values → Option Counted → Items → Items
changed key None items = where_key values_cmp (λ x. not (values_eq key x)) items
changed key (Some w) items = put values_cmp key w items

changed_back : (key : Values) (w : Option Counted) (items more : Items) → AreBelow items key
    → changed key w (items ++ more) ≡ items ++ changed key w more
changed_back key w [] more h = refl
changed_back key None (i ∷ items) more h =
    let rest : Items = changed key None (items ++ more) in
    ap (λ o. cond (not (is_eq o)) (i ∷ rest) rest) (above key i.0 h.0) ∙ ap (λ z. i ∷ z) (changed_back key None items more h.1)
changed_back key (Some w) (i ∷ items) more h =
    let rest : Items = items ++ more in
    ap (λ o. by_order o ((key, w) ∷ i ∷ rest) ((i.0, w) ∷ rest) (i ∷ put values_cmp key w rest)) (above key i.0 h.0)
    ∙ ap (λ z. i ∷ z) (changed_back key (Some w) items more h.1)

none_above : (key : Values) (items : Items) → T (below_all values_cmp key items) → changed key None items ≡ items
none_above key [] h = refl
none_above key (i ∷ items) h =
    let rest : Items = changed key None items in
    ap (λ o. cond (not (is_eq o)) (i ∷ rest) rest) (below_first key i items h) ∙ ap (λ z. i ∷ z) (none_above key items (below_rest key i items h))

put_above : (key : Values) (w : Counted) (items : Items) → T (below_all values_cmp key items) → put values_cmp key w items ≡ (key, w) ∷ items
put_above key w [] h = refl
put_above key w (i ∷ items) h =
    ap (λ o. by_order o ((key, w) ∷ i ∷ items) ((i.0, w) ∷ items) (i ∷ put values_cmp key w items)) (below_first key i items h)

changed_front : (key : Values) (w : Option Counted) (items more : Items) → T (below_all values_cmp key more)
    → changed key w (items ++ more) ≡ changed key w items ++ more
changed_front key None [] more h = none_above key more h
changed_front key (Some w) [] more h = put_above key w more h
changed_front key None (i ∷ items) more h = go (values_eq key i.0) (changed_front key None items more h)
  where
    go : (b : Bool) → changed key None (items ++ more) ≡ changed key None items ++ more
        → cond (not b) (i ∷ changed key None (items ++ more)) (changed key None (items ++ more))
        ≡ cond (not b) (i ∷ changed key None items) (changed key None items) ++ more
    go true ih = ih
    go false ih = ap (λ z. i ∷ z) ih
changed_front key (Some w) (i ∷ items) more h = go (values_cmp key i.0) (changed_front key (Some w) items more h)
  where
    go : (o : Ordering) → put values_cmp key w (items ++ more) ≡ put values_cmp key w items ++ more
        → by_order o ((key, w) ∷ i ∷ (items ++ more)) ((i.0, w) ∷ (items ++ more)) (i ∷ put values_cmp key w (items ++ more))
        ≡ by_order o ((key, w) ∷ i ∷ items) ((i.0, w) ∷ items) (i ∷ put values_cmp key w items) ++ more
    go Less ih = refl
    go Equal ih = refl
    go Greater ih = ap (λ z. i ∷ z) ih

turned : {X : Type 0} (b : Bool) (x y : X) → cond (not b) x y ≡ cond b y x
turned true x y = refl
turned false x y = refl

find_others : (key : Values) (items : Items) (q : Values)
    → find values_cmp q (changed key None items) ≡ cond (values_eq q key) None (find values_cmp q items)
find_others key items q =
    find-where_key values_cmp (λ x. not (values_eq key x)) q (λ x h. ap (λ z. not (values_eq key z)) (sym (values_order.ties q x h))) items
    ∙ turned (values_eq key q) (find values_cmp q items) None
    ∙ ap (λ b. cond b None (find values_cmp q items)) (test_symmetric key q)

keyed_changed : (key : Values) (w : Option Counted) (items : Items) → IsKeyed items → IsKeyed (changed key w items)
keyed_changed key None items h = is_sorted-where_key values_cmp (λ x. not (values_eq key x)) items h
keyed_changed key (Some w) items h = is_sorted-put values_cmp total key w items h

entries_written : (m : Rows) (key : Values) (w : Option Counted) → fin.entries (written m key w) ≡ changed key w (fin.entries m)
entries_written m key None =
    same_entries values_cmp total values_order.ties (fin.entries (fin.remove m key)) (changed key None (fin.entries m))
    (entries_sorted (fin.remove m key)) (keyed_changed key None (fin.entries m) (entries_sorted m))
    (λ q. sym (get-entries (fin.remove m key) q) ∙ get-remove total m key q ∙ ap (λ o. cond (values_eq q key) None o) (get-entries m q)
    ∙ sym (find_others key (fin.entries m) q))
entries_written m key (Some w) = entries-insert total m key w

-- a map is that of its entries
pub rows_entries : (m : Rows) → rows_in (fin.entries m) ≡ m
rows_entries m = same_answers (rows_in (fin.entries m)) m (λ q. get-from_entries total (fin.entries m) q ∙ sym (get-entries m q))

rows_changed : (key : Values) (w : Option Counted) (items : Items) → IsKeyed items
    → rows_in (changed key w items) ≡ written (rows_in items) key w
rows_changed key w items h =
    ap rows_in (ap (changed key w) (sym (entries-whole items h)) ∙ sym (entries_written (rows_in items) key w))
    ∙ rows_entries (written (rows_in items) key w)

-- ---- how many

abbrev pub none_kept : Rows
none_kept = fin.empty

pub entries_empty : fin.entries none_kept ≡ []
entries_empty = none (fin.entries none_kept) (sym (len-entries none_kept) ∙ len-empty values_cmp Counted)
  where
    none : (items : Items) → length items ≡ 0 → items ≡ []
    none [] h = refl
    none (i ∷ items) h = absurd (omega arith)

some_put : (key : Values) (w : Counted) (items : Items) → 0 < length (put values_cmp key w items)
some_put key w [] = omega arith
some_put key w (i ∷ items) = go (values_cmp key i.0)
  where
    go : (o : Ordering) → 0 < length (by_order o ((key, w) ∷ i ∷ items) ((i.0, w) ∷ items) (i ∷ put values_cmp key w items))
    go Less = omega arith
    go Equal = omega arith
    go Greater = omega arith

-- a map into which something was put keeps something
pub len_put : (m : Rows) (key : Values) (w : Counted) → 0 < fin.len (fin.insert m key w)
len_put m key w =
    subst (λ n. 0 < n) (sym (len-entries (fin.insert m key w) ∙ ap length (entries-insert total m key w))) (some_put key w (fin.entries m))

pub len_one_more : (m : Rows) (key : Values) (w : Counted) (most : ℕ) → fin.len m < most → fin.len (fin.insert m key w) ≤ most
len_one_more m key w most l = go (is_some (fin.get m key)) (len-insert total m key w)
  where
    go : (b : Bool) → fin.len (fin.insert m key w) ≡ cond b (fin.len m) (fin.len m + 1) → fin.len (fin.insert m key w) ≤ most
    go true e = omega (arith, e, l)
    go false e = omega (arith, e, l)

-- as many are kept where what is kept at a key is another
pub len_as_many : (m : Rows) (key : Values) (w : Counted) → IsSome (fin.get m key) → fin.len (fin.insert m key w) ≡ fin.len m
len_as_many m key w h = len-insert total m key w ∙ ap (λ b. cond b (fin.len m) (fin.len m + 1)) h

pub as_many_some : (o : Option Counted) (extra : Values) → HasAsMany o extra → IsSome o
as_many_some None extra h = absurd h
as_many_some (Some w) extra h = refl

-- ---- a key's own block

own_find : (key : Values) (blocks : List Rows) (at : ℕ) (b : Rows) → IsOwn key blocks at → b ≡ slice_index_or blocks at b
    → find values_cmp key (items_in blocks) ≡ find values_cmp key (fin.entries b)
own_find key [] at b h e = absurd h
own_find key (x ∷ blocks) zero b h e =
    find_front key (fin.entries x) (items_in blocks) h ∙ ap (λ z. find values_cmp key (fin.entries z)) (sym e)
own_find key (x ∷ blocks) (suc at) b h e = find_back key (fin.entries x) (items_in blocks) h.0 ∙ own_find key blocks at b h.1 e

own_changed : (key : Values) (blocks : List Rows) (at : ℕ) (b : Rows) (w : Option Counted) → IsOwn key blocks at → b ≡ slice_index_or blocks at b
    → items_in (slice_set blocks at (written b key w)) ≡ changed key w (items_in blocks)
own_changed key [] at b w h e = absurd h
own_changed key (x ∷ blocks) zero b w h e =
    ap (λ z. z ++ items_in blocks) (entries_written b key w ∙ ap (λ z. changed key w (fin.entries z)) e)
    ∙ sym (changed_front key w (fin.entries x) (items_in blocks) h)
own_changed key (x ∷ blocks) (suc at) b w h e =
    ap (λ z. fin.entries x ++ z) (own_changed key blocks at b w h.1 e) ∙ sym (changed_back key w (fin.entries x) (items_in blocks) h.0)

all_set : (P : Rows → Type 0) (blocks : List Rows) (at : ℕ) (b : Rows) → P b → AllByRecursion P blocks → AllByRecursion P (slice_set blocks at b)
all_set P [] at b p h = h
all_set P (x ∷ blocks) zero b p h = (p, h.1)
all_set P (x ∷ blocks) (suc at) b p h = (h.0, all_set P blocks at b p h.1)

filled_set : (blocks : List Rows) (at : ℕ) (b : Rows) → (0 < at → 0 < fin.len b) → AllByRecursion (λ x. 0 < fin.len x) (drop 1 blocks)
    → AllByRecursion (λ x. 0 < fin.len x) (drop 1 (slice_set blocks at b))
filled_set [] at b p h = h
filled_set (x ∷ blocks) zero b p h = h
filled_set (x ∷ blocks) (suc at) b p h = all_set (λ x. 0 < fin.len x) blocks at b (p (omega arith)) h

pub all_at : (P : Rows → Type 0) (blocks : List Rows) (at : ℕ) (d : Rows) → at < length blocks → AllByRecursion P blocks
    → P (slice_index_or blocks at d)
all_at P [] at d l h = absurd (omega arith)
all_at P (x ∷ blocks) zero d l h = h.0
all_at P (x ∷ blocks) (suc at) d l h = all_at P blocks at d (omega arith) h.1

set_again : (blocks : List Rows) (at : ℕ) (b : Rows) → b ≡ slice_index_or blocks at b → slice_set blocks at b ≡ blocks
set_again [] at b e = refl
set_again (x ∷ blocks) zero b e = ap (λ z. z ∷ blocks) e
set_again (x ∷ blocks) (suc at) b e = ap (λ z. x ∷ z) (set_again blocks at b e)

-- ---- a block that is let go

all_out : (P : Rows → Type 0) (blocks : List Rows) (at : ℕ) → AllByRecursion P blocks → AllByRecursion P (remove blocks at)
all_out P [] zero h = h
all_out P [] (suc at) h = h
all_out P (x ∷ blocks) zero h = h.1
all_out P (x ∷ blocks) (suc at) h = (h.0, all_out P blocks at h.1)

filled_out : (blocks : List Rows) (at : ℕ) → 0 < at → AllByRecursion (λ x. 0 < fin.len x) (drop 1 blocks)
    → AllByRecursion (λ x. 0 < fin.len x) (drop 1 (remove blocks at))
filled_out [] zero l h = absurd (omega arith)
filled_out [] (suc at) l h = h
filled_out (x ∷ blocks) zero l h = absurd (omega arith)
filled_out (x ∷ blocks) (suc at) l h = all_out (λ x. 0 < fin.len x) blocks at h

length_out : (blocks : List Rows) (at : ℕ) → at < length blocks → length (remove blocks at) + 1 ≡ length blocks
length_out [] at l = absurd (omega arith)
length_out (x ∷ blocks) zero l = let e : length blocks + 1 ≡ suc (length blocks) = omega arith in e
length_out (x ∷ blocks) (suc at) l =
    let ih : length (remove blocks at) + 1 ≡ length blocks = length_out blocks at (omega arith) in
    let e : suc (length (remove blocks at)) + 1 ≡ suc (length blocks) = omega (arith, ih) in
    e

out_set : (key : Values) (blocks : List Rows) (at : ℕ) (b : Rows) → IsOwn key blocks at → remove (slice_set blocks at b) at ≡ remove blocks at
out_set key [] at b h = absurd h
out_set key (x ∷ blocks) zero b h = refl
out_set key (x ∷ blocks) (suc at) b h = ap (λ z. x ∷ z) (out_set key blocks at b h.1)

items_out : (key : Values) (blocks : List Rows) (at : ℕ) → IsOwn key blocks at
    → items_in (remove blocks at) ≡ items_in (slice_set blocks at none_kept)
items_out key [] at h = absurd h
items_out key (x ∷ blocks) zero h = ap (λ z. z ++ items_in blocks) (sym entries_empty)
items_out key (x ∷ blocks) (suc at) h = ap (λ z. fin.entries x ++ z) (items_out key blocks at h.1)

-- ---- the own block of a call's key: m is what the blocks were

pub record HasOwn (blocks : List Rows) (m : Rows) (key : Values) (at : ℕ) (b : Rows) : Type 0 where
  pub are : AreBlocks blocks
  pub of : rows_in (items_in blocks) ≡ m
  pub own : IsOwn key blocks at
  pub within : at < length blocks
  pub is : b ≡ slice_index_or blocks at b

-- the blocks now have these rows
pub record AreOf (blocks : List Rows) (m : Rows) : Type 0 where
  pub are : AreBlocks blocks
  pub of : rows_in (items_in blocks) ≡ m

module _ {blocks : List Rows} {m : Rows} {key : Values} {at : ℕ} {b : Rows} (h : HasOwn blocks m key at b) where
  pub own_get : fin.get m key ≡ fin.get b key
  own_get =
      ap (λ z. fin.get z key) (sym h.of) ∙ get-from_entries total (items_in blocks) key ∙ own_find key blocks at b h.own h.is
      ∙ sym (get-entries b key)

  pub own_found : found m key ≡ found b key
  own_found = ap (option_and_then present) own_get

  pub own_small : fin.len b ≤ 128
  own_small = subst (λ z. fin.len z ≤ 128) (sym h.is) (all_at (λ x. fin.len x ≤ 128) blocks at b h.within h.are.small)

  own_written : (w : Option Counted) → fin.len (written b key w) ≤ 128 → (0 < at → 0 < fin.len (written b key w))
      → AreOf (slice_set blocks at (written b key w)) (written m key w)
  own_written w most some =
      let new : Rows = written b key w in
      let items : items_in (slice_set blocks at new) ≡ changed key w (items_in blocks) = own_changed key blocks at b w h.own h.is in
      let count : length (slice_set blocks at new) ≡ length blocks = length-set blocks at new in
      record {
        are = record {
          keyed = subst IsKeyed (sym items) (keyed_changed key w (items_in blocks) h.are.keyed);
          some = subst (λ n. 0 < n) (sym count) h.are.some;
          few = subst (λ n. n ≤ 2 ^ 56) (sym count) h.are.few;
          small = all_set (λ x. fin.len x ≤ 128) blocks at new most h.are.small;
          filled = filled_set blocks at new some h.are.filled;
        };
        of = ap rows_in items ∙ rows_changed key w (items_in blocks) h.are.keyed ∙ ap (λ z. written z key w) h.of;
      }

  -- where there is room
  pub own_put : (w : Counted) → fin.len b < 128 → AreOf (slice_set blocks at (fin.insert b key w)) (fin.insert m key w)
  own_put w l = own_written (Some w) (len_one_more b key w 128 l) (λ i. len_put b key w)

  -- where something is kept at the key
  pub own_set : (w : Counted) → IsSome (fin.get b key) → AreOf (slice_set blocks at (fin.insert b key w)) (fin.insert m key w)
  own_set w some =
      own_written (Some w) (subst (λ n. n ≤ 128) (sym (len_as_many b key w some)) own_small) (λ i. len_put b key w)

  pub own_raised : (extra : Values) → fin.len b < 128 → AreOf (slice_set blocks at (once_more b key extra)) (once_more m key extra)
  own_raised extra l =
      subst (λ o. AreOf (slice_set blocks at (once_more b key extra)) (fin.insert m key (extra, count_of o + 1))) (sym own_get)
      (own_put (extra, count_at b key + 1) l)

  pub own_lowered : IsSome (found b key) → AreOf (slice_set blocks at (once_less b key)) (once_less m key)
  own_lowered some =
      subst (λ o. AreOf (slice_set blocks at (once_less b key)) (written m key (one_less o))) (sym own_get) (go (fin.get b key) refl some)
    where
      go : (o : Option Counted) → fin.get b key ≡ o → IsSome (option_and_then present o)
          → AreOf (slice_set blocks at (written b key (one_less o))) (written m key (one_less o))
      go None e some = absurd (false≢true some)
      go (Some w) e some = own_set (w.0, w.1 - 1) (ap is_some e)

  -- a row added where none was, or the row that was there
  pub own_added : (new : Rows) (extra : Values) (r : Bool) → fin.len b < 128 → IsAddedNew b new key extra r
      → AreBlocks (slice_set blocks at new) × IsAddedNew m (rows_in (items_in (slice_set blocks at new))) key extra r
  own_added new extra true l added =
      let put : AreOf (slice_set blocks at new) (fin.insert m key (extra, 1)) =
      subst (λ z. AreOf (slice_set blocks at z) (fin.insert m key (extra, 1))) (sym added.1) (own_put (extra, 1) l) in
      (put.are, (own_found ∙ added.0, put.of))
  own_added new extra false l added =
      let same : slice_set blocks at new ≡ blocks = ap (slice_set blocks at) added.1 ∙ set_again blocks at b h.is in
      (subst AreBlocks (sym same) h.are, (subst IsSome (sym own_found) added.0, ap (λ z. rows_in (items_in z)) same ∙ h.of))

  len_swept : fin.len (swept b key) ≤ 128
  len_swept = go (fin.get b key) refl
    where
      out : (k : Bool) → fin.len (fin.remove b key) ≡ cond k (fin.len b - 1) (fin.len b) → fin.len (fin.remove b key) ≤ 128
      out true e = let l : fin.len b ≤ 128 = own_small in omega (arith, e, l)
      out false e = let l : fin.len b ≤ 128 = own_small in omega (arith, e, l)

      kept : (o : Option Counted) (w : Counted) → fin.get b key ≡ Some w → present w ≡ o → fin.len (written b key o) ≤ 128
      kept None w e i = out (is_some (fin.get b key)) (len-remove total b key)
      kept (Some v) w e i = subst (λ n. n ≤ 128) (sym (len_as_many b key v (ap is_some e))) own_small

      go : (o : Option Counted) → fin.get b key ≡ o → fin.len (written b key (option_and_then present o)) ≤ 128
      go None e = out (is_some (fin.get b key)) (len-remove total b key)
      go (Some w) e = kept (present w) w e refl

  pub own_swept : (0 < at → 0 < fin.len (swept b key)) → AreOf (slice_set blocks at (swept b key)) (swept m key)
  own_swept some =
      subst (λ o. AreOf (slice_set blocks at (swept b key)) (written m key o)) (sym own_found) (own_written (found b key) len_swept some)

  -- where the block has nothing more it is let go
  pub own_out : (new : Rows) → new ≡ swept b key → new ≡ fin.empty → 0 < at → AreOf (remove (slice_set blocks at new) at) (swept m key)
  own_out new swept_is gone l =
      let w : Option Counted = found b key in
      let left : List Rows = remove blocks at in
      let items : items_in left ≡ changed key w (items_in blocks) =
      items_out key blocks at h.own ∙ ap (λ z. items_in (slice_set blocks at z)) (sym gone ∙ swept_is) ∙ own_changed key blocks at b w h.own h.is in
      let count : length left + 1 ≡ length blocks = length_out blocks at h.within in
      subst (λ z. AreOf z (swept m key)) (sym (out_set key blocks at new h.own)) (record {
        are = record {
          keyed = subst IsKeyed (sym items) (keyed_changed key w (items_in blocks) h.are.keyed);
          some = let i = h.within in omega (arith, count, i, l);
          few = let i = h.are.few in omega (arith, count, i);
          small = all_out (λ x. fin.len x ≤ 128) blocks at h.are.small;
          filled = filled_out blocks at l h.are.filled;
        };
        of = ap rows_in items ∙ rows_changed key w (items_in blocks) h.are.keyed ∙ ap (λ z. written z key w) h.of
            ∙ ap (written m key) (sym own_found);
      })

-- ---- the search for a key's own block

below_or_at : (x f key : Values) → values_cmp x f ≡ Less → not (is_lt (values_cmp key f)) ≡ true → values_cmp x key ≡ Less
below_or_at x f key l h = go (values_cmp key f) refl h
  where
    go : (o : Ordering) → values_cmp key f ≡ o → not (is_lt o) ≡ true → values_cmp x key ≡ Less
    go Less e h = absurd (false≢true h)
    go Equal e h = subst (λ z. values_cmp x z ≡ Less) (sym (values_order.ties key f e)) l
    go Greater e h = total.trans x f key l (total.antisymm f key ∙ ap ordering_reverse e)

-- a key below all of some blocks is below one by which one of them begins
below_begun : (x key : Values) (blocks : List Rows) (k : ℕ) (d : Rows) → T (below_all values_cmp x (items_in blocks)) → k < length blocks
    → begins_by (slice_index_or blocks k d) key ≡ true → values_cmp x key ≡ Less
below_begun x key [] k d h l e = absurd (omega arith)
below_begun x key (b ∷ blocks) zero d h l e = go (fin.entries b) (below_front x (fin.entries b) (items_in blocks) h) e
  where
    go : (items : Items) → T (below_all values_cmp x items) → begin_by items key ≡ true → values_cmp x key ≡ Less
    go [] h e = absurd (false≢true e)
    go (i ∷ items) h e = below_or_at x i.0 key (below_first x i items h) e
below_begun x key (b ∷ blocks) (suc k) d h l e =
    below_begun x key blocks k d (below_back x (fin.entries b) (items_in blocks) h) (omega arith) e

-- so are those of the items before such blocks
before_begun : (key : Values) (items : Items) (blocks : List Rows) (k : ℕ) (d : Rows) → IsKeyed (items ++ items_in blocks) → k < length blocks
    → begins_by (slice_index_or blocks k d) key ≡ true → AreBelow items key
before_begun key [] blocks k d h l e = tt
before_begun key (i ∷ items) blocks k d h l e = (
  below_begun i.0 key blocks k d (below_back i.0 items (items_in blocks) (head_below i (items ++ items_in blocks) h)) l e,
  before_begun key items blocks k d (tail_sorted i (items ++ items_in blocks) h) l e,
)

-- a key by which a block that has one doesn't begin is below those of it and of the blocks behind
above_begun : (key : Values) (b : Rows) (blocks : List Rows) → IsKeyed (items_in (b ∷ blocks)) → 0 < fin.len b → begins_by b key ≡ false
    → T (below_all values_cmp key (items_in (b ∷ blocks)))
above_begun key b blocks h l e = go (fin.entries b) h (subst (λ n. 0 < n) (len-entries b) l) e
  where
    is_less : (o : Ordering) → not (is_lt o) ≡ false → o ≡ Less
    is_less Less e = refl
    is_less Equal e = absurd (false≢true (sym e))
    is_less Greater e = absurd (false≢true (sym e))

    go : (items : Items) → IsKeyed (items ++ items_in blocks) → 0 < length items → begin_by items key ≡ false
        → T (below_all values_cmp key (items ++ items_in blocks))
    go [] h l e = absurd (omega arith)
    go (i ∷ items) h l e =
        let less_than : values_cmp key i.0 ≡ Less = is_less (values_cmp key i.0) e in
        both (is_lt (values_cmp key i.0)) (below_all values_cmp key (items ++ items_in blocks))
        (subst (λ o. T (is_lt o)) (sym less_than) tt)
        (below_more key i.0 (items ++ items_in blocks) less_than (head_below i (items ++ items_in blocks) h))

abbrev pub AreFilled : List Rows → Type 0
AreFilled blocks = AllByRecursion (λ b. 0 < fin.len b) blocks

-- the blocks that begin at or below a key stand before the others
pub begun_before : (key : Values) (blocks : List Rows) → IsKeyed (items_in blocks) → AreFilled blocks
    → IsPartitionedBy (λ b. begins_by b key) blocks
begun_before key [] h f i j d m l e = absurd (omega arith)
begun_before key (b ∷ blocks) h f zero zero d m l e = e
begun_before key (b ∷ blocks) h f zero (suc j) d m l e =
    go (fin.entries b) (subst (λ n. 0 < n) (len-entries b) f.0) (before_begun key (fin.entries b) blocks j d h (omega arith) e)
  where
    go : (items : Items) → 0 < length items → AreBelow items key → begin_by items key ≡ true
    go [] l a = absurd (omega arith)
    go (i ∷ items) l a = ap (λ o. not (is_lt o)) (above key i.0 a.0)
begun_before key (b ∷ blocks) h f (suc i) zero d m l e = absurd (omega arith)
begun_before key (b ∷ blocks) h f (suc i) (suc j) d m l e =
    begun_before key blocks (keyed_back (fin.entries b) (items_in blocks) h) f.1 i j d (omega arith) (omega arith) e

-- behind the first, the place of the first block that doesn't begin at or below the key is its own block's in the whole
pub own_searched : (key : Values) (b : Rows) (blocks : List Rows) (n : ℕ) → IsKeyed (items_in (b ∷ blocks)) → AreFilled blocks → n ≤ length blocks
    → IsPartitionPoint (λ x. begins_by x key ≡ true) (λ x. begins_by x key ≡ false) blocks n
    → IsOwn key (b ∷ blocks) n
own_searched key b [] zero h f l p = tt
own_searched key b (c ∷ blocks) zero h f l p =
    above_begun key c blocks (keyed_back (fin.entries b) (items_in (c ∷ blocks)) h) f.0 (p.1 0 c (omega arith) (omega arith))
own_searched key b [] (suc n) h f l p = absurd (omega arith)
own_searched key b (c ∷ blocks) (suc n) h f l p = (
  before_begun key (fin.entries b) (c ∷ blocks) 0 c h (omega arith) (p.0 0 c (omega arith) (omega arith)),
  own_searched key c blocks n (keyed_back (fin.entries b) (items_in (c ∷ blocks)) h) f.1 (omega arith) (
    λ k d i j. p.0 (suc k) d (omega arith) (omega arith),
    λ k d i j. p.1 (suc k) d (omega arith) (omega arith),
  ),
)

-- the blocks behind the first
abbrev pub behind_first : List Rows → List Rows
behind_first blocks = take (length blocks - 1) (drop 1 blocks)

pub behind_is : (b : Rows) (blocks : List Rows) → behind_first (b ∷ blocks) ≡ blocks
behind_is b blocks =
    let e : suc (length blocks) - 1 ≡ length blocks = omega arith in
    let l : length blocks ≤ length blocks = omega arith in
    ap (λ n. take n blocks) e ∙ take_all (length blocks) blocks l

pub begun_before_first : (key : Values) (blocks : List Rows) → AreBlocks blocks → IsPartitionedBy (λ b. begins_by b key) (behind_first blocks)
begun_before_first key [] are = let l = are.some in absurd (omega arith)
begun_before_first key (b ∷ blocks) are =
    subst (IsPartitionedBy (λ x. begins_by x key)) (sym (behind_is b blocks))
    (begun_before key blocks (keyed_back (fin.entries b) (items_in blocks) are.keyed) are.filled)

pub own_place : (key : Values) (blocks : List Rows) (n : ℕ) → AreBlocks blocks → n ≤ length (behind_first blocks)
    → IsPartitionPoint (λ x. begins_by x key ≡ true) (λ x. begins_by x key ≡ false) (behind_first blocks) n
    → IsOwn key blocks n
own_place key [] n are l p = let l = are.some in absurd (omega arith)
own_place key (b ∷ blocks) n are l p =
    own_searched key b blocks n are.keyed are.filled (subst (λ z. n ≤ length z) (behind_is b blocks) l)
    (subst (λ z. IsPartitionPoint (λ x. begins_by x key ≡ true) (λ x. begins_by x key ≡ false) z n) (behind_is b blocks) p)

pub place_within : (blocks : List Rows) (n : ℕ) → AreBlocks blocks → n ≤ length (behind_first blocks) → n < length blocks
place_within [] n are l = let l = are.some in absurd (omega arith)
place_within (b ∷ blocks) n are l = let m : n ≤ length blocks = subst (λ z. n ≤ length z) (behind_is b blocks) l in omega arith

-- ---- a block that is split

-- the blocks with two in the place of one
abbrev halved : List Rows → ℕ → Rows → Rows → List Rows
halved [] at lower upper = []
halved (b ∷ blocks) zero lower upper = lower ∷ upper ∷ blocks
halved (b ∷ blocks) (suc at) lower upper = b ∷ halved blocks at lower upper

halved_is : (blocks : List Rows) (at : ℕ) (lower upper : Rows) → at < length blocks
    → slice_set (insert blocks (suc at) upper) at lower ≡ halved blocks at lower upper
halved_is [] at lower upper l = absurd (omega arith)
halved_is (b ∷ blocks) zero lower upper l = refl
halved_is (b ∷ blocks) (suc at) lower upper l = ap (λ z. b ∷ z) (halved_is blocks at lower upper (omega arith))

items_halved : (blocks : List Rows) (at : ℕ) (b lower upper : Rows) → at < length blocks → b ≡ slice_index_or blocks at b
    → fin.entries lower ++ fin.entries upper ≡ fin.entries b
    → items_in (halved blocks at lower upper) ≡ items_in blocks
items_halved [] at b lower upper l is e = absurd (omega arith)
items_halved (x ∷ blocks) zero b lower upper l is e =
    sym (append_assoc (fin.entries lower) (fin.entries upper) (items_in blocks)) ∙ ap (λ z. z ++ items_in blocks) (e ∙ ap fin.entries is)
items_halved (x ∷ blocks) (suc at) b lower upper l is e =
    ap (λ z. fin.entries x ++ z) (items_halved blocks at b lower upper (omega arith) is e)

length_halved : (blocks : List Rows) (at : ℕ) (lower upper : Rows) → at < length blocks
    → length (halved blocks at lower upper) ≡ length blocks + 1
length_halved [] at lower upper l = absurd (omega arith)
length_halved (b ∷ blocks) zero lower upper l = let e : suc (suc (length blocks)) ≡ suc (length blocks) + 1 = omega arith in e
length_halved (b ∷ blocks) (suc at) lower upper l =
    let ih : length (halved blocks at lower upper) ≡ length blocks + 1 = length_halved blocks at lower upper (omega arith) in
    let e : suc (length (halved blocks at lower upper)) ≡ suc (length blocks) + 1 = omega (arith, ih) in
    e

all_halved : (P : Rows → Type 0) (blocks : List Rows) (at : ℕ) (lower upper : Rows) → P lower → P upper → AllByRecursion P blocks
    → AllByRecursion P (halved blocks at lower upper)
all_halved P [] at lower upper p q h = h
all_halved P (b ∷ blocks) zero lower upper p q h = (p, (q, h.1))
all_halved P (b ∷ blocks) (suc at) lower upper p q h = (h.0, all_halved P blocks at lower upper p q h.1)

filled_halved : (blocks : List Rows) (at : ℕ) (lower upper : Rows) → 0 < fin.len lower → 0 < fin.len upper → AreFilled (drop 1 blocks)
    → AreFilled (drop 1 (halved blocks at lower upper))
filled_halved [] at lower upper p q h = h
filled_halved (b ∷ blocks) zero lower upper p q h = (q, h)
filled_halved (b ∷ blocks) (suc at) lower upper p q h = all_halved (λ x. 0 < fin.len x) blocks at lower upper p q h

at_lower : (blocks : List Rows) (at : ℕ) (lower upper d : Rows) → at < length blocks → slice_index_or (halved blocks at lower upper) at d ≡ lower
at_lower [] at lower upper d l = absurd (omega arith)
at_lower (b ∷ blocks) zero lower upper d l = refl
at_lower (b ∷ blocks) (suc at) lower upper d l = at_lower blocks at lower upper d (omega arith)

at_upper : (blocks : List Rows) (at : ℕ) (lower upper d : Rows) → at < length blocks
    → slice_index_or (halved blocks at lower upper) (suc at) d ≡ upper
at_upper [] at lower upper d l = absurd (omega arith)
at_upper (b ∷ blocks) zero lower upper d l = refl
at_upper (b ∷ blocks) (suc at) lower upper d l = at_upper blocks at lower upper d (omega arith)

own_upper : (key : Values) (blocks : List Rows) (at : ℕ) (lower upper : Rows) → IsKeyed (items_in (halved blocks at lower upper))
    → begins_by upper key ≡ true → IsOwn key blocks at
    → IsOwn key (halved blocks at lower upper) (suc at)
own_upper key [] at lower upper k e h = h
own_upper key (b ∷ blocks) zero lower upper k e h =
    (before_begun key (fin.entries lower) (upper ∷ blocks) 0 upper k (omega arith) e, h)
own_upper key (b ∷ blocks) (suc at) lower upper k e h =
    (h.0, own_upper key blocks at lower upper (keyed_back (fin.entries b) (items_in (halved blocks at lower upper)) k) e h.1)

own_lower : (key : Values) (blocks : List Rows) (at : ℕ) (lower upper : Rows) → IsKeyed (items_in (halved blocks at lower upper))
    → 0 < fin.len upper → begins_by upper key ≡ false → IsOwn key blocks at
    → IsOwn key (halved blocks at lower upper) at
own_lower key [] at lower upper k l e h = h
own_lower key (b ∷ blocks) zero lower upper k l e h =
    above_begun key upper blocks (keyed_back (fin.entries lower) (items_in (upper ∷ blocks)) k) l e
own_lower key (b ∷ blocks) (suc at) lower upper k l e h =
    (h.0, own_lower key blocks at lower upper (keyed_back (fin.entries b) (items_in (halved blocks at lower upper)) k) l e h.1)

pub below_most : (n : ℕ) → n ≤ 2 ^ 56 → (n ≡ 2 ^ 56 → ⊥) → n < 2 ^ 56
below_most n l h = omega (arith, l, h)

-- the blocks after the split of one that is full, at its place
pub record AreHalved (old new : List Rows) (key : Values) (at : ℕ) (back : Rows) : Type 0 where
  pub are : AreBlocks new
  pub items : items_in new ≡ items_in old
  pub lower : begins_by back key ≡ false → HasRoom key new at
  pub upper : begins_by back key ≡ true → HasRoom key new (at + 1)

pub split_in : (blocks : List Rows) (key : Values) (at : ℕ) (b lower upper : Rows) → AreBlocks blocks → IsOwn key blocks at
    → at < length blocks → b ≡ slice_index_or blocks at b → length blocks < 2 ^ 56 → fin.len b ≡ 128
    → fin.entries lower ++ fin.entries upper ≡ fin.entries b → fin.len lower ≡ 64
    → AreHalved blocks (slice_set (insert blocks (at + 1) upper) at lower) key at upper
split_in blocks key at b lower upper are own l is few full parts half =
    let new : List Rows = halved blocks at lower upper in
    let next : at + 1 ≡ suc at = omega arith in
    let new_is : slice_set (insert blocks (at + 1) upper) at lower ≡ new =
    ap (λ n. slice_set (insert blocks n upper) at lower) next ∙ halved_is blocks at lower upper l in
    let items : items_in new ≡ items_in blocks = items_halved blocks at b lower upper l is parts in
    let count : length new ≡ length blocks + 1 = length_halved blocks at lower upper l in
    let keyed : IsKeyed (items_in new) = subst IsKeyed (sym items) are.keyed in
    let both_halves : fin.len lower + fin.len upper ≡ fin.len b =
    (λ i. len-entries lower i + len-entries upper i) ∙ sym (length-append (fin.entries lower) (fin.entries upper)) ∙ ap length parts
    ∙ sym (len-entries b) in
    let other : fin.len upper ≡ 64 = omega (arith, both_halves, full, half) in
    let some_lower : 0 < fin.len lower = omega (arith, half) in
    let some_upper : 0 < fin.len upper = omega (arith, other) in
    let low : fin.len lower < 128 = omega (arith, half) in
    let up : fin.len upper < 128 = omega (arith, other) in
    subst (λ z. AreHalved blocks z key at upper) (sym new_is) (record {
      are = record {
        keyed = keyed;
        some = omega (arith, count);
        few = omega (arith, count, few);
        small = all_halved (λ x. fin.len x ≤ 128) blocks at lower upper (omega (arith, low)) (omega (arith, up)) are.small;
        filled = filled_halved blocks at lower upper some_lower some_upper are.filled;
      };
      items = items;
      lower = λ e. record {
        own = own_lower key blocks at lower upper keyed some_upper e own;
        within = omega (arith, count, l);
        room = λ d. subst (λ z. fin.len z < 128) (sym (at_lower blocks at lower upper d l)) low;
      };
      upper = λ e. subst (HasRoom key new) (sym next) (record {
        own = own_upper key blocks at lower upper keyed e own;
        within = omega (arith, count, l);
        room = λ d. subst (λ z. fin.len z < 128) (sym (at_upper blocks at lower upper d l)) up;
      });
    })

-- ---- a call that adds to the own block, or wants memory

pub at_set : (blocks : List Rows) (at : ℕ) (b d : Rows) → at < length blocks → slice_index_or (slice_set blocks at b) at d ≡ b
at_set [] at b d l = absurd (omega (arith, l))
at_set (x ∷ blocks) zero b d l = refl
at_set (x ∷ blocks) (suc at) b d l = at_set blocks at b d (omega (arith, l))

pub some_kept : (m : Rows) → (m ≡ fin.empty → ⊥) → 0 < fin.len m
some_kept m h = go (fin.len m) refl
  where
    go : (n : ℕ) → fin.len m ≡ n → 0 < fin.len m
    go zero e = absurd (h (empty_of_len m e))
    go (suc n) e = omega (arith, e)

module _ {X Y : Type 0} {blocks : List Rows} {m : Rows} {key : Values} {at : ℕ} {b : Rows} (h : HasOwn blocks m key at b) where
  -- the row of the key, once more
  pub raised_are : (r : Result X Y) (new : Rows) (extra : Values) → fin.len b < 128 → OnOk r (new ≡ once_more b key extra) → OnErr r (new ≡ b)
      → AreBlocks (slice_set blocks at new)
  raised_are (Ok x) new extra l ok err =
      subst (λ z. AreBlocks (slice_set blocks at z)) (sym ok) (own_raised h extra l).are
  raised_are (Err y) new extra l ok err = subst AreBlocks (sym (ap (slice_set blocks at) err ∙ set_again blocks at b h.is)) h.are

  pub raised_ok : (r : Result X Y) (new : Rows) (extra : Values) → fin.len b < 128 → OnOk r (new ≡ once_more b key extra)
      → OnOk r (rows_in (items_in (slice_set blocks at new)) ≡ once_more m key extra)
  raised_ok (Ok x) new extra l ok =
      ap (λ z. rows_in (items_in (slice_set blocks at z))) ok ∙ (own_raised h extra l).of
  raised_ok (Err y) new extra l ok = ok

  -- where memory was wanted
  pub stays_err : (r : Result X Y) (new : Rows) → OnErr r (new ≡ b) → OnErr r (rows_in (items_in (slice_set blocks at new)) ≡ m)
  stays_err (Ok x) new err = err
  stays_err (Err y) new err = ap (λ z. rows_in (items_in z)) (ap (slice_set blocks at) err ∙ set_again blocks at b h.is) ∙ h.of

module _ {Y : Type 0} {blocks : List Rows} {m : Rows} {key : Values} {at : ℕ} {b : Rows} (h : HasOwn blocks m key at b) where
  pub count_before : (r : Result ℕ Y) → IfOk r (λ n. n ≡ count_at b key) → IfOk r (λ n. n ≡ count_at m key)
  count_before (Ok n) e = e ∙ ap count_of (sym (own_get h))
  count_before (Err y) e = e

  -- a row of the key, where none was
  pub added_are : (r : Result Bool Y) (new : Rows) (extra : Values) → fin.len b < 128 → IfOk r (IsAddedNew b new key extra) → OnErr r (new ≡ b)
      → AreBlocks (slice_set blocks at new)
  added_are (Ok x) new extra l ok err = (own_added h new extra x l ok).0
  added_are (Err y) new extra l ok err = subst AreBlocks (sym (ap (slice_set blocks at) err ∙ set_again blocks at b h.is)) h.are

  pub added_ok : (r : Result Bool Y) (new : Rows) (extra : Values) → fin.len b < 128 → IfOk r (IsAddedNew b new key extra)
      → IfOk r (IsAddedNew m (rows_in (items_in (slice_set blocks at new))) key extra)
  added_ok (Ok x) new extra l ok = (own_added h new extra x l ok).1
  added_ok (Err y) new extra l ok = ok

-- ---- a block from which a tombstone was let go

module _ (blocks : List Rows) (at : ℕ) (new b : Rows) (r : Bool) (l : at < length blocks) (is : b ≡ slice_index_or (slice_set blocks at new) at b)
    (h : IsTrue r ↔ (b ≡ fin.empty)) where
  pub none_left : r ≡ true → new ≡ fin.empty
  none_left t = sym (is ∙ at_set blocks at new b l) ∙ h.0 t

  pub some_left : r ≡ false → 0 < fin.len new
  some_left f = some_kept new (λ e. false≢true (sym f ∙ h.1 (is ∙ at_set blocks at new b l ∙ e)))
