-- Laws of a walk over a table's entries, in an order of the table's own: sorted, counted and copied.
use Rattle.std.specs.Prelude.{◌≡◌, ℕ, zero, suc, ◌+◌, Bool, true, false, cond, nat_lt, T, ◌<◌, ◌&&◌, ◌||◌, ◌↔◌, Option, None, Some, is_some, List, [], ◌∷◌, map, length}
use Rattle.rc_maps.specs.Imports.{Ordering, Less, Equal, Greater, is_lt, is_eq, ordering_reverse, eq_by_cmp_equiv, IsTrue, AllByRecursion, count_by, list_any, IsPermutation, IsSortedBy, lookup, keys_of, values_of, option_and_then, option_or, FinMap, find, get-from_entries, get-empty, len-insert, below_all, Values, values_cmp, values_eq, same_from_test, Counted, current, present, written, Items, rows_in, len-rows, total, get-written, same_answers, written_again, get-keep, keep-written, head_below, tail_sorted}
use Rattle.std.specs.List.{IsDistinct}
use Rattle.std.specs.List.Sorted.{IsStrictlySortedBy}
use Rattle.std.specs.FinMap as fin
use Rattle.std.proofs.Common.{refl, sym, ap, subst, ◌∙◌, arith, get_or}
use Rattle.std.proofs.lemmas.Bool.{false≢true, lt-ltb, ltb-true}
use Rattle.std.proofs.lemmas.List.Sums.{sum_by-cons}
use Rattle.std.proofs.lemmas.List.Sorted.{Contains-permutation, IsPermutation-sym, IsPermutation-map}
use Rattle.std.proofs.lemmas.Map.Keys.{IsDistinct-head, IsDistinct-tail, IsDistinct-IsPermutation, sorted_from_all_adjacent, apart_from_distinct}
use Rattle.std.proofs.lemmas.Map.Views.{Contains-from_lookup, lookup-from_Contains}
use Rattle.std.proofs.lemmas.Option.{none-some}
use Rattle.rc_maps.specs.declared.keyed.Keyed.{Keyed}
use Rattle.rc_maps.specs.Keyed.{AreApart, IsKeyed, has_row, pair_of}
use Rattle.rc_maps.specs.TableLaws.{by_values, sorted_by_values}

-- ---- look-ups in a walk

find_apart : {X : Type 0} (key : Values) (es : List (Values × X)) → AllByRecursion (λ k. values_eq key k ≡ false) (keys_of es)
    → find values_cmp key es ≡ None
find_apart key [] h = refl
find_apart key (e ∷ es) h = ap (λ b. cond b (Some e.1) (find values_cmp key es)) h.0 ∙ find_apart key es h.1

pub find_later : {X : Type 0} (e : Values × X) (es : List (Values × X)) → IsDistinct values_eq (keys_of (e ∷ es))
    → find values_cmp e.0 es ≡ None
find_later e es h = find_apart e.0 es (IsDistinct-head values_eq e.0 (keys_of es) h)

find_lookup : {X : Type 0} (q : Values) (es : List (Values × X)) → find values_cmp q es ≡ lookup (values_eq q) es
find_lookup q [] = refl
find_lookup q (e ∷ es) = ap (cond (values_eq q e.0) (Some e.1)) (find_lookup q es)

-- a look-up finds the same in another order of the same entries
pub find-permutation : {X : Type 0} (xs ys : List (Values × X)) → IsDistinct values_eq (keys_of xs) → IsPermutation xs ys → (q : Values)
    → find values_cmp q ys ≡ find values_cmp q xs
find-permutation {X} xs ys h p q = find_lookup q ys ∙ go (lookup (values_eq q) ys) refl ∙ sym (find_lookup q xs)
  where
    ys_apart : IsDistinct values_eq (keys_of ys)
    ys_apart =
        IsDistinct-IsPermutation values_eq (eq_by_cmp_equiv total).symm (keys_of xs) (keys_of ys)
        (IsPermutation-map (λ (e : Values × X). e.0) xs ys p) h

    in_ys : (v : X) → lookup (values_eq q) xs ≡ Some v → lookup (values_eq q) ys ≡ Some v
    in_ys v e =
        lookup-from_Contains (eq_by_cmp_equiv total) q v ys ys_apart
        (Contains-permutation xs ys (q, v) p (Contains-from_lookup same_from_test q v xs e))

    in_xs : (v : X) → lookup (values_eq q) ys ≡ Some v → lookup (values_eq q) xs ≡ Some v
    in_xs v e =
        lookup-from_Contains (eq_by_cmp_equiv total) q v xs h
        (Contains-permutation ys xs (q, v) (IsPermutation-sym xs ys p) (Contains-from_lookup same_from_test q v ys e))

    none : (o : Option X) → lookup (values_eq q) xs ≡ o → lookup (values_eq q) ys ≡ None → None ≡ o
    none None e n = refl
    none (Some v) e n = absurd (none-some v (sym n ∙ in_ys v e))

    go : (o : Option X) → lookup (values_eq q) ys ≡ o → o ≡ lookup (values_eq q) xs
    go None e = none (lookup (values_eq q) xs) refl e
    go (Some v) e = sym (in_xs v e)

below_from : (a b : Values) → is_lt (values_cmp b a) ≡ false → values_eq a b ≡ false → values_cmp a b ≡ Less
below_from a b l n = go (values_cmp a b) refl
  where
    go : (o : Ordering) → values_cmp a b ≡ o → o ≡ Less
    go Less e = refl
    go Equal e = absurd (false≢true (sym n ∙ ap is_eq e))
    go Greater e = absurd (false≢true (sym l ∙ ap is_lt (total.antisymm b a ∙ ap ordering_reverse e)))

-- ---- keys that rise

key_at : {X : Type 0} (rs : List (Keyed X)) (k : ℕ) (d : Keyed X) → get_or (keys_of (map pair_of rs)) k d.key.now ≡ (get_or rs k d).key.now
key_at [] k d = refl
key_at (r ∷ rs) zero d = refl
key_at (r ∷ rs) (suc k) d = key_at rs k d

length-keys : {X : Type 0} (rs : List (Keyed X)) → length (keys_of (map pair_of rs)) ≡ length rs
length-keys [] = refl
length-keys (r ∷ rs) = ap suc (length-keys rs)

-- the first key is below the second
abbrev pub is_before : {X : Type 0} → Keyed X → Keyed X → Bool
is_before r s = is_lt (values_cmp r.key.now s.key.now)

rising_keys : {X : Type 0} (rs : List (Keyed X)) → AreApart (map pair_of rs) → IsSortedBy is_before rs
    → IsStrictlySortedBy values_cmp (keys_of (map pair_of rs))
unfolding IsStrictlySortedBy
rising_keys [] a s = tt
rising_keys (r ∷ rs) a s = sorted_from_all_adjacent total (keys_of (map pair_of (r ∷ rs))) r.key.now (λ k l.
    let n : length (keys_of (map pair_of (r ∷ rs))) ≡ length (r ∷ rs) = length-keys (r ∷ rs) in
    below_from (get_or (keys_of (map pair_of (r ∷ rs))) k r.key.now) (get_or (keys_of (map pair_of (r ∷ rs))) (k + 1) r.key.now)
    ((λ i. is_lt (values_cmp (key_at (r ∷ rs) (k + 1) r i) (key_at (r ∷ rs) k r i))) ∙ s k r (omega arith) (omega arith))
    (apart_from_distinct values_eq (keys_of (map pair_of (r ∷ rs))) k (k + 1) r.key.now a (omega arith) l))

by_itself : {X : Type 0} (ps : List (Values × X)) → by_values (λ (k : Values). k) ps ≡ ps
by_itself [] = refl
by_itself (e ∷ es) = ap (λ z. e ∷ z) (by_itself es)

-- a walk sorted by its keys rises, and has the same entries
pub record IsSorted {X : Type 0} (old new : List (Keyed X)) : Type 0 where
  pub rising : IsKeyed (map pair_of new)
  pub entries : fin.from_entries {R = values_cmp} (map pair_of new) ≡ fin.from_entries (map pair_of old)

pub IsSorted-by : {X : Type 0} (old new : List (Keyed X)) → AreApart (map pair_of old) → IsPermutation old new → IsSortedBy is_before new
    → IsSorted old new
IsSorted-by {X = X} old new h p s = record {
  rising = subst IsKeyed (by_itself (map pair_of new)) (sorted_by_values (λ (k : Values). k) (map pair_of new) (rising_keys new apart s));
  entries = same_answers (fin.from_entries (map pair_of new)) (fin.from_entries (map pair_of old)) (λ q.
      get-from_entries total (map pair_of new) q ∙ find-permutation (map pair_of old) (map pair_of new) h moved q
      ∙ sym (get-from_entries total (map pair_of old) q));
}
  where
    moved : IsPermutation (map pair_of old) (map pair_of new)
    moved = IsPermutation-map pair_of old new p

    apart : AreApart (map pair_of new)
    apart = IsDistinct-IsPermutation values_eq (eq_by_cmp_equiv total).symm (keys_of (map pair_of old)) (keys_of (map pair_of new))
        (IsPermutation-map (λ (e : Values × X). e.0) (map pair_of old) (map pair_of new) moved) h

-- a key below all is none of theirs
none_of_them : {X : Type 0} (x : Values) (ds : List (Values × X)) → T (below_all values_cmp x ds)
    → AllByRecursion (λ k. values_eq x k ≡ false) (keys_of ds)
none_of_them x [] b = tt
none_of_them {X} x (d ∷ ds) b = go (values_cmp x d.0) refl b (none_of_them x ds)
  where
    go : (o : Ordering) → values_cmp x d.0 ≡ o → T (is_lt o && below_all values_cmp x ds)
        → (T (below_all values_cmp x ds) → AllByRecursion (λ k. values_eq x k ≡ false) (keys_of ds))
        → AllByRecursion (λ k. values_eq x k ≡ false) (keys_of (d ∷ ds))
    go Less e b ih = (ap is_eq e, ih b)
    go Equal e b ih = absurd b
    go Greater e b ih = absurd b

-- keys that rise are distinct
pub apart_rising : {X : Type 0} (es : List (Values × X)) → IsKeyed es → AreApart es
unfolding IsDistinct
apart_rising [] h = tt
apart_rising (e ∷ es) h = (none_of_them e.0 es (head_below e es h), apart_rising es (tail_sorted e es h))

-- ---- how many rows

pub len-walk : (es : Items) → IsDistinct values_eq (keys_of es) → fin.len (current (rows_in es)) ≡ count_by has_row (values_of es)
len-walk [] h = len-rows [] tt
len-walk (e ∷ es) h =
    ap fin.len (keep-written present (rows_in es) e.0 (Some e.1))
    ∙ go (present e.1) (len-walk es (IsDistinct-tail values_eq e.0 (keys_of es) h))
    ∙ sym (sum_by-cons (λ v. cond (has_row v) 1 0) e.1 (values_of es))
  where
    none : fin.get (current (rows_in es)) e.0 ≡ None
    none = get-keep present (rows_in es) e.0 ∙ ap (option_and_then present) (get-from_entries total es e.0 ∙ find_later e es h)

    go : (o : Option Counted) → fin.len (current (rows_in es)) ≡ count_by has_row (values_of es)
        → fin.len (written (current (rows_in es)) e.0 o) ≡ cond (is_some o) 1 0 + count_by has_row (values_of es)
    go None ih =
        let n : ℕ = count_by has_row (values_of es) in
        let a : fin.len (written (current (rows_in es)) e.0 None) ≡ n = ap fin.len (written_again (current (rows_in es)) e.0 None none) ∙ ih in
        let b : 0 + n ≡ n = omega arith in
        a ∙ sym b
    go (Some c) ih =
        let n : ℕ = count_by has_row (values_of es) in
        let k : ℕ = fin.len (current (rows_in es)) in
        let a : fin.len (fin.insert (current (rows_in es)) e.0 c) ≡ k + 1 =
        len-insert total (current (rows_in es)) e.0 c ∙ ap (λ o. cond (is_some o) k (k + 1)) none in
        let b : k ≡ n = ih in
        let d : k + 1 ≡ 1 + n = omega arith in
        a ∙ d

-- whether there is one, by a walk
some-counted : (cs : List Counted) → nat_lt 0 (count_by has_row cs) ≡ list_any has_row cs
some-counted [] = refl
some-counted (c ∷ cs) = go (has_row c) refl (some-counted cs)
  where
    one_if : Counted → ℕ
    one_if v = cond (has_row v) 1 0

    go : (b : Bool) → has_row c ≡ b → nat_lt 0 (count_by has_row cs) ≡ list_any has_row cs → nat_lt 0 (count_by has_row (c ∷ cs)) ≡ (has_row c || list_any has_row cs)
    go true t ih =
        let is : count_by has_row (c ∷ cs) ≡ 1 + count_by has_row cs = sum_by-cons one_if c cs ∙ ap (λ b. cond b 1 0 + count_by has_row cs) t in
        lt-ltb 0 (count_by has_row (c ∷ cs)) (omega (arith, is)) ∙ ap (λ b. b || list_any has_row cs) (sym t)
    go false t ih =
        let is : 0 + count_by has_row cs ≡ count_by has_row cs = omega arith in
        ap (nat_lt 0) (sum_by-cons one_if c cs ∙ ap (λ b. cond b 1 0 + count_by has_row cs) t ∙ is) ∙ ih ∙ ap (λ b. b || list_any has_row cs) (sym t)

pub has_row-walk : (es : Items) → IsDistinct values_eq (keys_of es) → (b : Bool) → b ≡ list_any has_row (values_of es)
    → IsTrue b ↔ (0 < fin.len (current (rows_in es)))
has_row-walk es apart b e = ((λ t. ltb-true 0 n (sym is ∙ t)), (λ l. is ∙ lt-ltb 0 n l))
  where
    n : ℕ
    n = fin.len (current (rows_in es))

    is : b ≡ nat_lt 0 n
    is = e ∙ sym (some-counted (values_of es)) ∙ ap (nat_lt 0) (sym (len-walk es apart))

-- ---- a copy

-- what is left and else what is copied is the whole, at each key
pub record IsCopied {X : Type 0} (all left : List (Values × X)) (copy : FinMap values_cmp X) : Type 0 where
  pub apart : AreApart left
  pub same : (q : Values) → option_or (find values_cmp q left) (fin.get copy q) ≡ find values_cmp q all

pub IsCopied-none : {X : Type 0} (all left : List (Values × X)) (copy : FinMap values_cmp X) → left ≡ all → copy ≡ fin.empty
    → AreApart all → IsCopied all left copy
IsCopied-none {X} all left copy l c h = record {
  apart = subst AreApart (sym l) h;
  same =
      λ q. (λ i. option_or (find values_cmp q (l i)) (fin.get (c i) q)) ∙ ap (option_or (find values_cmp q all)) (get-empty values_cmp q)
      ∙ go (find values_cmp q all);
}
  where
    go : (o : Option X) → option_or o None ≡ o
    go None = refl
    go (Some e) = refl

pub IsCopied-more : {X : Type 0} (all left : List (Values × X)) (copy new : FinMap values_cmp X) (e : Values × X)
    → IsCopied all (e ∷ left) copy → new ≡ fin.insert copy e.0 e.1 → IsCopied all left new
IsCopied-more all left copy new e h w = record {
  apart = IsDistinct-tail values_eq e.0 (keys_of left) h.apart;
  same =
      λ q. ap (option_or (find values_cmp q left)) (ap (λ z. fin.get z q) w ∙ get-written copy e.0 (Some e.1) q)
      ∙ go q (values_eq q e.0) refl ∙ h.same q;
}
  where
    go : (q : Values) (b : Bool) → values_eq q e.0 ≡ b
        → option_or (find values_cmp q left) (cond b (Some e.1) (fin.get copy q))
        ≡ option_or (cond b (Some e.1) (find values_cmp q left)) (fin.get copy q)
    go q true t = ap (λ o. option_or o (Some e.1)) (ap (λ z. find values_cmp z left) (same_from_test q e.0 t) ∙ find_later e left h.apart)
    go q false t = refl

pub IsCopied-all : {X : Type 0} (all : List (Values × X)) (copy : FinMap values_cmp X) → IsCopied all [] copy → copy ≡ fin.from_entries all
IsCopied-all all copy h = same_answers copy (fin.from_entries all) (λ q. h.same q ∙ sym (get-from_entries total all q))
