-- Laws of a map in two parts: keys of two values in the first, and all others in the second.
use Rattle.std.specs.Prelude.{◌≡◌, ◌+◌, Bool, true, false, cond, nat_eq, not, IsTrue, Option, None, Some, IsSome, Result, Ok, Err, OnOk, OnErr, List, [], ◌∷◌, ◌++◌, length}
use Rattle.rc_maps.specs.Imports.{pointwise, AllByRecursion, list_all, lookup, keys_of, values_of, KeepsOthers, option_and_then, option_or, FinMap, find, get-from_entries, get-empty, Values, values_cmp, values_eq, pointwise_same, same_from_test, test_from_same, Counted, IsAddedNew, count_at, count_of, once_more, present, written, total, get-written, same_answers}
use Rattle.std.specs.List.{IsDistinct}
use Rattle.std.specs.FinMap as fin
use Rattle.std.proofs.Common.{refl, sym, ap, subst, ◌∙◌}
use Rattle.std.proofs.lemmas.Bool.{false≢true, eq-eqb, eqb-true, and_parts, and_from}
use Rattle.std.proofs.lemmas.Option.{none-some}
use Rattle.rc_maps.specs.Keyed.{AreApart, by_many, by_two}
use Rattle.rc_maps.specs.KeyLengths.{all_have_two, has_other, has_two, none_has_two}
use Rattle.rc_maps.specs.HashLaws.{VecKey, apart_many, vec_eq}
use Rattle.rc_maps.specs.TableLaws.{apart_by_values, by_values, get-whole, many, none-whole, values-by_values, whole, whole-changed}

abbrev map_of : {X : Type 0} → List (Values × X) → FinMap values_cmp X
map_of es = fin.from_entries es

-- ---- two lists of entries, one behind the other

module _ {X : Type 0} where
  find-append : (xs ys : List (Values × X)) (q : Values)
      → find values_cmp q (xs ++ ys) ≡ option_or (find values_cmp q xs) (find values_cmp q ys)
  find-append [] ys q = refl
  find-append (e ∷ xs) ys q = ap (cond (values_eq q e.0) (Some e.1)) (find-append xs ys q) ∙ go (values_eq q e.0)
    where
      go : (b : Bool)
          → cond b (Some e.1) (option_or (find values_cmp q xs) (find values_cmp q ys))
          ≡ option_or (cond b (Some e.1) (find values_cmp q xs)) (find values_cmp q ys)
      go true = refl
      go false = refl

  get-append : (xs ys : List (Values × X)) (q : Values)
      → fin.get (map_of (xs ++ ys)) q ≡ option_or (fin.get (map_of xs) q) (fin.get (map_of ys) q)
  get-append xs ys q =
      get-from_entries total (xs ++ ys) q ∙ find-append xs ys q
      ∙ (λ i. option_or (sym (get-from_entries total xs q) i) (sym (get-from_entries total ys q) i))

  or-none : (o : Option X) → option_or o None ≡ o
  or-none None = refl
  or-none (Some x) = refl

  -- a key that one part lacks is looked up in the other
  in_first : (xs ys : List (Values × X)) (q : Values) → fin.get (map_of ys) q ≡ None → fin.get (map_of (xs ++ ys)) q ≡ fin.get (map_of xs) q
  in_first xs ys q n = get-append xs ys q ∙ ap (option_or (fin.get (map_of xs) q)) n ∙ or-none (fin.get (map_of xs) q)

  in_second : (xs ys : List (Values × X)) (q : Values) → fin.get (map_of xs) q ≡ None
      → fin.get (map_of (xs ++ ys)) q ≡ fin.get (map_of ys) q
  in_second xs ys q n = get-append xs ys q ∙ ap (λ o. option_or o (fin.get (map_of ys) q)) n

  -- a change of one part at a key that the other lacks is one of the whole
  first-changed : (old new ys : List (Values × X)) (key : Values) (w : Option X) → fin.get (map_of ys) key ≡ None
      → map_of new ≡ written (map_of old) key w
      → map_of (new ++ ys) ≡ written (map_of (old ++ ys)) key w
  first-changed old new ys key w n h = same_answers (map_of (new ++ ys)) (written (map_of (old ++ ys)) key w) (λ q.
      get-append new ys q ∙ ap (λ o. option_or o (fin.get (map_of ys) q)) (ap (λ z. fin.get z q) h ∙ get-written (map_of old) key w q)
      ∙ go q (values_eq q key) refl ∙ ap (cond (values_eq q key) w) (sym (get-append old ys q))
      ∙ sym (get-written (map_of (old ++ ys)) key w q))
    where
      go : (q : Values) (b : Bool) → values_eq q key ≡ b
          → option_or (cond b w (fin.get (map_of old) q)) (fin.get (map_of ys) q)
          ≡ cond b w (option_or (fin.get (map_of old) q) (fin.get (map_of ys) q))
      go q true t = ap (option_or w) (ap (fin.get (map_of ys)) (same_from_test q key t) ∙ n) ∙ or-none w
      go q false t = refl

  second-changed : (xs old new : List (Values × X)) (key : Values) (w : Option X) → fin.get (map_of xs) key ≡ None
      → map_of new ≡ written (map_of old) key w
      → map_of (xs ++ new) ≡ written (map_of (xs ++ old)) key w
  second-changed xs old new key w n h = same_answers (map_of (xs ++ new)) (written (map_of (xs ++ old)) key w) (λ q.
      get-append xs new q ∙ ap (option_or (fin.get (map_of xs) q)) (ap (λ z. fin.get z q) h ∙ get-written (map_of old) key w q)
      ∙ go q (values_eq q key) refl ∙ ap (cond (values_eq q key) w) (sym (get-append xs old q))
      ∙ sym (get-written (map_of (xs ++ old)) key w q))
    where
      go : (q : Values) (b : Bool) → values_eq q key ≡ b
          → option_or (fin.get (map_of xs) q) (cond b w (fin.get (map_of old) q))
          ≡ cond b w (option_or (fin.get (map_of xs) q) (fin.get (map_of old) q))
      go q true t = ap (λ o. option_or o w) (ap (fin.get (map_of xs)) (same_from_test q key t) ∙ n)
      go q false t = refl

  pub first-kept : (old new ys : List (Values × X)) → map_of new ≡ map_of old → map_of (new ++ ys) ≡ map_of (old ++ ys)
  first-kept old new ys h = same_answers (map_of (new ++ ys)) (map_of (old ++ ys)) (λ q.
      get-append new ys q ∙ ap (λ z. option_or (fin.get z q) (fin.get (map_of ys) q)) h ∙ sym (get-append old ys q))

  pub second-kept : (xs old new : List (Values × X)) → map_of new ≡ map_of old → map_of (xs ++ new) ≡ map_of (xs ++ old)
  second-kept xs old new h = same_answers (map_of (xs ++ new)) (map_of (xs ++ old)) (λ q.
      get-append xs new q ∙ ap (λ z. option_or (fin.get (map_of xs) q) (fin.get z q)) h ∙ sym (get-append xs old q))

-- ---- keys that all pass a test

module _ {K X : Type 0} (f : K → Values) (test : Values → Bool) where
  abbrev pub passed : List (K × X) → Bool
  passed es = list_all (λ k. test (f k)) (keys_of es)

  find_failed : (es : List (K × X)) → IsTrue (passed es) → (q : Values) → test q ≡ false → find values_cmp q (by_values f es) ≡ None
  find_failed [] h q n = refl
  find_failed (e ∷ es) h q n =
      let parts = and_parts (test (f e.0)) (passed es) h in
      ap (λ b. cond b (Some e.1) (find values_cmp q (by_values f es))) (other (values_eq q (f e.0)) refl parts.0)
      ∙ find_failed es parts.1 q n
    where
      other : (b : Bool) → values_eq q (f e.0) ≡ b → IsTrue (test (f e.0)) → b ≡ false
      other true t h = absurd (false≢true (sym n ∙ ap test (same_from_test q (f e.0) t) ∙ h))
      other false t h = refl

  -- a key that fails is none of theirs
  no_failed : (es : List (K × X)) → IsTrue (passed es) → (q : Values) → test q ≡ false → fin.get (whole f es) q ≡ None
  no_failed es h q n = get-from_entries total (by_values f es) q ∙ find_failed es h q n

  passed-from : (es : List (K × X)) → ((q : Values) → test q ≡ false → find values_cmp q (by_values f es) ≡ None) → IsTrue (passed es)
  passed-from [] h = refl
  passed-from (e ∷ es) h =
      and_from (test (f e.0)) (passed es) (this (test (f e.0)) refl) (passed-from es (λ q n. later q (values_eq q (f e.0)) (h q n)))
    where
      this : (b : Bool) → test (f e.0) ≡ b → IsTrue b
      this true t = refl
      this false t =
          absurd (none-some e.1 (sym (h (f e.0) t)
          ∙ ap (λ b. cond b (Some e.1) (find values_cmp (f e.0) (by_values f es))) (test_from_same (f e.0) (f e.0) refl)))

      later : (q : Values) (b : Bool) → cond b (Some e.1) (find values_cmp q (by_values f es)) ≡ None
          → find values_cmp q (by_values f es) ≡ None
      later q true t = absurd (none-some e.1 (sym t))
      later q false t = t

  -- where nothing is put at a key that fails, all pass as before
  pub passed-changed : (old new : List (K × X)) (key : Values) (w : Option X) → IsTrue (passed old) → (test key ≡ false → w ≡ None)
      → whole f new ≡ written (whole f old) key w → IsTrue (passed new)
  passed-changed old new key w h n e = passed-from new (λ q t.
      sym (get-from_entries total (by_values f new) q) ∙ ap (λ z. fin.get z q) e ∙ get-written (whole f old) key w q
      ∙ go q t (values_eq q key) refl)
    where
      go : (q : Values) → test q ≡ false → (b : Bool) → values_eq q key ≡ b → cond b w (fin.get (whole f old) q) ≡ None
      go q t true s = n (sym (ap test (same_from_test q key s)) ∙ t)
      go q t false s = no_failed old h q t

  pub passed-put : {Y E P : Type 0} (r : Result Y E) (old new : List (K × X)) (key : Values) (x : X) → IsTrue (passed old)
      → IsTrue (test key)
      → (P → whole f new ≡ written (whole f old) key (Some x)) → OnOk r P → OnErr r (new ≡ old) → IsTrue (passed new)
  passed-put (Ok y) old new key x h t put ok err = passed-changed old new key (Some x) h (λ n. absurd (false≢true (sym n ∙ t))) (put ok)
  passed-put (Err e) old new key x h t put ok err = ap passed err ∙ h

-- ---- keys of two values, and others

abbrev pub pair : Values → Values
pair k = k

-- `==` on arrays
abbrev pub pair_eq : Values → Values → Bool
pair_eq x y = pointwise nat_eq x y

pub two_from : (key : Values) → length key ≡ 2 → IsTrue (has_two key)
two_from key h = eq-eqb (length key) 2 h

pub other_from : (key : Values) → (length key ≡ 2 → ⊥) → has_two key ≡ false
other_from key n = go (has_two key) refl
  where
    go : (b : Bool) → has_two key ≡ b → b ≡ false
    go true t = absurd (n (eqb-true (length key) 2 t))
    go false t = refl

module _ {X : Type 0} where
  pub found_two : (key : Values) (o : Option X) (es : List (Values × X)) → o ≡ lookup (pair_eq key) es
      → fin.get (map_of (by_two es)) key ≡ o
  found_two key o es h = get-whole pair (pair_eq key) key (λ x. pointwise_same key x) es ∙ sym h

  pub changed_two : (key : Values) (w : Option X) (old new : List (Values × X)) → KeepsOthers pair_eq (pair_eq key) old new
      → lookup (pair_eq key) new ≡ w → map_of (by_two new) ≡ written (map_of (by_two old)) key w
  changed_two key w old new keeps here =
      whole-changed pair pair_eq (λ x y. pointwise_same x y) key (pair_eq key) (λ x. pointwise_same key x) w old new keeps here

  -- all keys have two values where one that has is written
  pub two-changed : (key : Values) (w : X) (old new : List (Values × X)) → length key ≡ 2 → IsTrue (all_have_two (keys_of old))
      → KeepsOthers pair_eq (pair_eq key) old new → lookup (pair_eq key) new ≡ Some w
      → IsTrue (all_have_two (keys_of new))
  two-changed key w old new two all keeps here =
      passed-changed pair has_two old new key (Some w) all (λ n. absurd (false≢true (sym n ∙ two_from key two)))
      (changed_two key (Some w) old new keeps here)

  -- a key of two values is none of the others, and another is none of the pairs
  no_other : (fs : List (VecKey × X)) → IsTrue (none_has_two (keys_of fs)) → (key : Values) → length key ≡ 2
      → fin.get (map_of (by_many fs)) key ≡ None
  no_other fs h key two = no_failed many has_other fs h key (ap not (two_from key two))

  no_two : (es : List (Values × X)) → IsTrue (all_have_two (keys_of es)) → (key : Values) → (length key ≡ 2 → ⊥)
      → fin.get (map_of (by_two es)) key ≡ None
  no_two es h key n = no_failed pair has_two es h key (other_from key n)

-- ---- the whole

-- a key of two values is looked up and changed among the pairs, here under another name
module _ {X : Type 0} (key k : Values) (es : List (Values × X)) (fs : List (VecKey × X)) (same : k ≡ key)
    (two : length key ≡ 2) (none : IsTrue (none_has_two (keys_of fs))) where
  pub pairs-found : (o : Option X) → o ≡ fin.get (map_of (by_two es)) k → o ≡ fin.get (map_of (by_two es ++ by_many fs)) key
  pairs-found o h = h ∙ ap (fin.get (map_of (by_two es))) same ∙ sym (in_first (by_two es) (by_many fs) key (no_other fs none key two))

  pub pairs-changed : (new : List (Values × X)) (w : Option X) → map_of (by_two new) ≡ written (map_of (by_two es)) k w
      → map_of (by_two new ++ by_many fs) ≡ written (map_of (by_two es ++ by_many fs)) key w
  pairs-changed new w h =
      first-changed (by_two es) (by_two new) (by_many fs) key w (no_other fs none key two) (h ∙ ap (λ z. written (map_of (by_two es)) z w) same)

-- an entry raised among the keys of two values is raised in the whole
module _ (key k : Values) (es : List (Values × Counted)) (fs : List (VecKey × Counted)) (same : k ≡ key)
    (two : length key ≡ 2) (none : IsTrue (none_has_two (keys_of fs))) where
  pub raised-pairs : (new : List (Values × Counted)) (extra : Values) → map_of (by_two new) ≡ once_more (map_of (by_two es)) k extra
      → map_of (by_two new ++ by_many fs) ≡ once_more (map_of (by_two es ++ by_many fs)) key extra
  raised-pairs new extra h =
      pairs-changed key k es fs same two none new (Some (extra, count_at (map_of (by_two es)) k + 1)) h
      ∙ ap (λ z. fin.insert (map_of (by_two es ++ by_many fs)) key (extra, count_of z + 1))
      (pairs-found key k es fs same two none (fin.get (map_of (by_two es)) k) refl)

  -- and one added where no row was is added in the whole
  pub added-pairs : (new : List (Values × Counted)) (extra : Values) (b : Bool)
      → IsAddedNew (map_of (by_two es)) (map_of (by_two new)) k extra b
      → IsAddedNew (map_of (by_two es ++ by_many fs)) (map_of (by_two new ++ by_many fs)) key extra b
  added-pairs new extra true h = (
    ap (option_and_then present) (sym (pairs-found key k es fs same two none (fin.get (map_of (by_two es)) k) refl)) ∙ h.0,
    pairs-changed key k es fs same two none new (Some (extra, 1)) h.1,
  )
  added-pairs new extra false h = (
    subst IsSome (ap (option_and_then present) (pairs-found key k es fs same two none (fin.get (map_of (by_two es)) k) refl)) h.0,
    first-kept (by_two es) (by_two new) (by_many fs) h.1,
  )

-- a key of another length among the others
module _ {X : Type 0} (key : Values) (es : List (Values × X)) (fs : List (VecKey × X))
    (other : length key ≡ 2 → ⊥) (all : IsTrue (all_have_two (keys_of es))) where
  pub others-found : (o : Option X) → o ≡ fin.get (map_of (by_many fs)) key → o ≡ fin.get (map_of (by_two es ++ by_many fs)) key
  others-found o h = h ∙ sym (in_second (by_two es) (by_many fs) key (no_two es all key other))

  pub others-changed : (new : List (VecKey × X)) (w : Option X) → map_of (by_many new) ≡ written (map_of (by_many fs)) key w
      → map_of (by_two es ++ by_many new) ≡ written (map_of (by_two es ++ by_many fs)) key w
  others-changed new w h = second-changed (by_two es) (by_many fs) (by_many new) key w (no_two es all key other) h

module _ {X : Type 0} where
  behind : (key : Values) (ds : List (Values × X)) → find values_cmp key ds ≡ None
      → AllByRecursion (λ k. values_eq key k ≡ false) (keys_of ds)
  behind key [] h = tt
  behind key (d ∷ ds) h = let n = both (values_eq key d.0) h in (n.0, behind key ds n.1)
    where
      both : (b : Bool) → cond b (Some d.1) (find values_cmp key ds) ≡ None → (b ≡ false) × (find values_cmp key ds ≡ None)
      both true h = absurd (none-some d.1 (sym h))
      both false h = (refl, h)

  -- the keys of the two parts are distinct
  apart_split : (es : List (Values × X)) (fs : List (VecKey × X)) → AreApart (by_two es) → AreApart (by_many fs)
      → IsTrue (all_have_two (keys_of es)) → IsTrue (none_has_two (keys_of fs)) → AreApart (by_two es ++ by_many fs)
  unfolding IsDistinct
  apart_split [] fs a b p n = b
  apart_split (e ∷ es) fs a b p n =
      let parts = and_parts (has_two e.0) (all_have_two (keys_of es)) p in (others es a.0 parts.0, apart_split es fs a.1 b parts.1 n)
    where
      others : (ds : List (Values × X)) → AllByRecursion (λ k. values_eq e.0 k ≡ false) (keys_of (by_two ds)) → IsTrue (has_two e.0)
          → AllByRecursion (λ k. values_eq e.0 k ≡ false) (keys_of (by_two ds ++ by_many fs))
      others [] h t =
          behind e.0 (by_many fs) (sym (get-from_entries total (by_many fs) e.0) ∙ no_other fs n e.0 (eqb-true (length e.0) 2 t))
      others (d ∷ ds) h t = (h.0, others ds h.1 t)

  pub apart_both : (es : List (Values × X)) (fs : List (VecKey × X)) → IsDistinct pair_eq (keys_of es) → IsDistinct vec_eq (keys_of fs)
      → IsTrue (all_have_two (keys_of es)) → IsTrue (none_has_two (keys_of fs)) → AreApart (by_two es ++ by_many fs)
  apart_both es fs a b p n = apart_split es fs (apart_by_values pair pair_eq (λ x y. pointwise_same x y) es a) (apart_many fs b) p n

  -- there are no entries where the map is empty
  pub none-both : (es : List (Values × X)) (fs : List (VecKey × X)) → map_of (by_two es ++ by_many fs) ≡ fin.empty
      → (length es ≡ 0) × (length fs ≡ 0)
  none-both [] fs h = (refl, (none-whole many fs).1 h)
  none-both (e ∷ es) fs h =
      absurd (none-some e.1 (sym (get-empty values_cmp e.0) ∙ ap (λ z. fin.get z e.0) (sym h)
      ∙ get-from_entries total (by_two (e ∷ es) ++ by_many fs) e.0
      ∙ ap (λ b. cond b (Some e.1) (find values_cmp e.0 (by_two es ++ by_many fs))) (test_from_same e.0 e.0 refl)))

  pub both-none : (es : List (Values × X)) (fs : List (VecKey × X)) → length es ≡ 0 → length fs ≡ 0
      → map_of (by_two es ++ by_many fs) ≡ fin.empty
  both-none [] fs z h = (none-whole many fs).0 h
  both-none (e ∷ es) fs z h = absurd (cc)

  pub values-both : (es : List (Values × X)) (fs : List (VecKey × X)) → values_of (by_two es ++ by_many fs) ≡ values_of es ++ values_of fs
  values-both [] fs = values-by_values many fs
  values-both (e ∷ es) fs = ap (λ z. e.1 ∷ z) (values-both es fs)
