-- Laws of maps from tuples: a value written, and the part of each value.
use Rattle.std.specs.Prelude.{◌≡◌, ◌<◌, ◌≤◌, Bool, true, false, cond, T, ◌&&◌, Option, None, Some, IsSome, List, [], ◌∷◌, nat_lt}
use Rattle.rc_edges.specs.Imports.{cons_option, option_map, option_and_then, Ordering, Less, Equal, Greater, is_lt, is_eq, IsTotalOrder, FinMap, find, is_sorted, entries_sorted, get-entries, same_map, get-insert, get-remove, get-from_entries, below_all, same_entries}
use Rattle.std.specs.FinMap as fin
use Rattle.std.proofs.Common.{refl, sym, ap, subst, ◌∙◌, arith}
use Rattle.std.proofs.lemmas.Bool.{false≢true, eqb-true, eq-eqb, ltb-true, ltb-false}
use Rattle.rc_edges.specs.Values.{Values, values_cmp, values_eq}
use Rattle.rc_edges.specs.ValuesLaws.{values_order, same_from_test}
use Rattle.rc_edges.specs.EdgeMap.{Counted, IsAddedNew, Rows, current, found, keep, parts, present, written}
use Rattle.rc_edges.specs.Entry.{IsStarted, is_tombstone}

abbrev pub total : IsTotalOrder values_cmp
total = values_order.total

pub get-written : {X : Type 0} (m : FinMap values_cmp X) (key : Values) (w : Option X) (q : Values)
    → fin.get (written m key w) q ≡ cond (values_eq q key) w (fin.get m q)
get-written m key None q = get-remove total m key q
get-written m key (Some x) q = get-insert total m key x q

-- two maps that answer alike are one
pub same_answers : {X : Type 0} (m n : FinMap values_cmp X) → ((q : Values) → fin.get m q ≡ fin.get n q) → m ≡ n
same_answers m n h = same_map total values_order.ties m n h

-- what was found, written again, changes nothing
pub written_again : {X : Type 0} (m : FinMap values_cmp X) (key : Values) (o : Option X) → fin.get m key ≡ o → written m key o ≡ m
written_again m key o h = same_answers (written m key o) m (λ q. get-written m key o q ∙ go q (values_eq q key) refl)
  where
    go : (q : Values) (b : Bool) → values_eq q key ≡ b → cond b o (fin.get m q) ≡ fin.get m q
    go q true e = sym h ∙ ap (fin.get m) (sym (same_from_test q key e))
    go q false e = refl

-- ---- lists of entries in the order of their keys

both : (a b : Bool) → T a → T b → T (a && b)
both true b p q = q
both false b p q = p

first : (a b : Bool) → T (a && b) → T a
first true b p = tt
first false b p = p

second : (a b : Bool) → T (a && b) → T b
second true b p = p
second false b p = absurd p

pub less : (o : Ordering) → T (is_lt o) → o ≡ Less
less Less p = refl
less Equal p = absurd p
less Greater p = absurd p

pub head_below : {X : Type 0} (e : Values × X) (es : List (Values × X)) → T (is_sorted values_cmp (e ∷ es))
    → T (below_all values_cmp e.0 es)
head_below e es h = first (below_all values_cmp e.0 es) (is_sorted values_cmp es) h

pub tail_sorted : {X : Type 0} (e : Values × X) (es : List (Values × X)) → T (is_sorted values_cmp (e ∷ es)) → T (is_sorted values_cmp es)
tail_sorted e es h = second (below_all values_cmp e.0 es) (is_sorted values_cmp es) h

pub below_more : {X : Type 0} (x y : Values) (es : List (Values × X)) → values_cmp x y ≡ Less → T (below_all values_cmp y es)
    → T (below_all values_cmp x es)
below_more x y [] p h = tt
below_more x y (e ∷ es) p h =
    both (is_lt (values_cmp x e.0)) (below_all values_cmp x es)
    (subst (λ r. T (is_lt r)) (sym (total.trans x y e.0 p
    (less (values_cmp y e.0) (first (is_lt (values_cmp y e.0)) (below_all values_cmp y es) h)))) tt)
    (below_more x y es p (second (is_lt (values_cmp y e.0)) (below_all values_cmp y es) h))

-- a key below all is not found
pub find_below : {X : Type 0} (q : Values) (es : List (Values × X)) → T (below_all values_cmp q es) → find values_cmp q es ≡ None
find_below q [] h = refl
find_below q (e ∷ es) h =
    ap (λ r. cond (is_eq r) (Some e.1) (find values_cmp q es))
    (less (values_cmp q e.0) (first (is_lt (values_cmp q e.0)) (below_all values_cmp q es) h))
    ∙ find_below q es (second (is_lt (values_cmp q e.0)) (below_all values_cmp q es) h)

-- ---- the part of each value

module _ {X Y : Type 0} (part : X → Option Y) where
  below_parts : (x : Values) (es : List (Values × X)) → T (below_all values_cmp x es) → T (below_all values_cmp x (parts part es))
  below_parts x [] h = tt
  below_parts x (e ∷ es) h = go (part e.1) (below_parts x es (second (is_lt (values_cmp x e.0)) (below_all values_cmp x es) h))
    where
      go : (o : Option Y) → T (below_all values_cmp x (parts part es))
          → T (below_all values_cmp x (cons_option (option_map (λ y. (e.0, y)) o) (parts part es)))
      go None ih = ih
      go (Some y) ih =
          both (is_lt (values_cmp x e.0)) (below_all values_cmp x (parts part es))
          (first (is_lt (values_cmp x e.0)) (below_all values_cmp x es) h) ih

  pub sorted_parts : (es : List (Values × X)) → T (is_sorted values_cmp es) → T (is_sorted values_cmp (parts part es))
  sorted_parts [] h = tt
  sorted_parts (e ∷ es) h = go (part e.1) (sorted_parts es (tail_sorted e es h))
    where
      go : (o : Option Y) → T (is_sorted values_cmp (parts part es))
          → T (is_sorted values_cmp (cons_option (option_map (λ y. (e.0, y)) o) (parts part es)))
      go None ih = ih
      go (Some y) ih =
          both (below_all values_cmp e.0 (parts part es)) (is_sorted values_cmp (parts part es))
          (below_parts e.0 es (head_below e es h)) ih

  find-parts : (q : Values) (es : List (Values × X)) → T (is_sorted values_cmp es)
      → find values_cmp q (parts part es) ≡ option_and_then part (find values_cmp q es)
  find-parts q [] h = refl
  find-parts q (e ∷ es) h = go (part e.1) refl (values_eq q e.0) refl (find-parts q es (tail_sorted e es h))
    where
      go : (o : Option Y) → part e.1 ≡ o → (b : Bool) → values_eq q e.0 ≡ b
          → find values_cmp q (parts part es) ≡ option_and_then part (find values_cmp q es)
          → find values_cmp q (cons_option (option_map (λ y. (e.0, y)) o) (parts part es))
          ≡ option_and_then part (cond b (Some e.1) (find values_cmp q es))
      go None p true t ih =
          let k : e.0 ≡ q = sym (same_from_test q e.0 t) in
          find_below q (parts part es) (below_parts q es (subst (λ z. T (below_all values_cmp z es)) k (head_below e es h))) ∙ sym p
      go None p false t ih = ih
      go (Some y) p true t ih = ap (λ b. cond b (Some y) (find values_cmp q (parts part es))) t ∙ sym p
      go (Some y) p false t ih = ap (λ b. cond b (Some y) (find values_cmp q (parts part es))) t ∙ ih

  pub get-keep : (m : FinMap values_cmp X) (q : Values) → fin.get (keep part m) q ≡ option_and_then part (fin.get m q)
  get-keep m q =
      get-from_entries total (parts part (fin.entries m)) q ∙ find-parts q (fin.entries m) (entries_sorted m)
      ∙ ap (option_and_then part) (sym (get-entries m q))

  pub entries-keep : (m : FinMap values_cmp X) → fin.entries (keep part m) ≡ parts part (fin.entries m)
  entries-keep m =
      same_entries values_cmp total values_order.ties (fin.entries (keep part m)) (parts part (fin.entries m))
      (entries_sorted (keep part m)) (sorted_parts (fin.entries m) (entries_sorted m))
      (λ q. sym (get-entries (keep part m) q) ∙ get-from_entries total (parts part (fin.entries m)) q)

  -- a value written is its part written
  pub keep-written : (m : FinMap values_cmp X) (key : Values) (w : Option X)
      → keep part (written m key w) ≡ written (keep part m) key (option_and_then part w)
  keep-written m key w = same_answers (keep part (written m key w)) (written (keep part m) key (option_and_then part w)) (λ q.
      get-keep (written m key w) q ∙ ap (option_and_then part) (get-written m key w q) ∙ go q (values_eq q key)
      ∙ sym (get-written (keep part m) key (option_and_then part w) q))
    where
      go : (q : Values) (b : Bool)
          → option_and_then part (cond b w (fin.get m q)) ≡ cond b (option_and_then part w) (fin.get (keep part m) q)
      go q true = refl
      go q false = sym (get-keep m q)

-- ---- the rows that are there

-- what is there is what is kept, and its count is at least 1
pub present_is : (c d : Counted) → present c ≡ Some d → (d ≡ c) × (0 < d.1)
present_is c d h = go (nat_lt 0 c.1) refl h
  where
    go : (b : Bool) → nat_lt 0 c.1 ≡ b → cond b (Some c) None ≡ Some d → (d ≡ c) × (0 < d.1)
    go true t p =
        let l : 0 < c.1 = ltb-true 0 c.1 t in
        let e : d ≡ c = cc in
        let f : d.1 ≡ c.1 = ap (λ (z : Counted). z.1) e in
        (e, omega arith)
    go false t p = absurd (cc)

-- a row that is there has a count of at least 1
pub counts : (c : Counted) → IsSome (present c) → 0 < c.1
counts c h = go (nat_lt 0 c.1) refl h
  where
    go : (b : Bool) → nat_lt 0 c.1 ≡ b → IsSome (cond b (Some c) None) → 0 < c.1
    go true t p = ltb-true 0 c.1 t
    go false t p = absurd (false≢true p)

-- a row that was taken out is not there
pub tombstone_absent : (c : Counted) → is_tombstone c ≡ true → present c ≡ None
tombstone_absent c h = let z : c.1 ≡ 0 = eqb-true c.1 0 h in ap (λ n. cond (nat_lt 0 n) (Some c) None) z

-- a row that was not taken out is there
pub filled_present : (c : Counted) → is_tombstone c ≡ false → present c ≡ Some c
filled_present c h = go (nat_lt 0 c.1) refl
  where
    go : (b : Bool) → nat_lt 0 c.1 ≡ b → cond b (Some c) None ≡ Some c
    go true t = refl
    go false t = let l : c.1 ≤ 0 = ltb-false 0 c.1 t in absurd (false≢true (sym h ∙ eq-eqb c.1 0 (omega arith)))

pub get-current : (m : Rows) (q : Values) → fin.get (current m) q ≡ found m q
get-current m q = get-keep present m q

-- ---- a row added where none was

-- by the entry at the key
pub started_at : (m new : Rows) (key extra : Values) (c w : Counted) → fin.get m key ≡ Some c → new ≡ fin.insert m key w
    → (b : Bool) → IsStarted c w extra b → IsAddedNew m new key extra b
started_at m new key extra c w h e true s = (ap (option_and_then present) h ∙ s.0, e ∙ ap (fin.insert m key) s.1)
started_at m new key extra c w h e false s =
    (subst IsSome (sym (ap (option_and_then present) h)) s.0, e ∙ ap (fin.insert m key) s.1 ∙ written_again m key (Some c) h)

-- by a new entry, where nothing was kept
pub started_new : (m new : Rows) (key extra : Values) (w : Counted) → fin.get m key ≡ None → new ≡ fin.insert m key w → w ≡ (extra, 1)
    → IsAddedNew m new key extra true
started_new m new key extra w h e s = (ap (option_and_then present) h, e ∙ ap (fin.insert m key) s)

-- ---- the one key
