-- Laws of tuples in registers.
use Rattle.std.proofs.Common.{◌≡◌, ℕ, zero, suc, ◌+◌, ◌<◌, ◌^◌, ◌==◌, ◌||◌, ◌&&◌, Bool, true, false, cond, not, None, Option, Some, eqb, List, [], ◌∷◌, ◌++◌, length, map, filter, get_or, set, take, refl, sym, ap, ◌∙◌, inl, inr, ◌⊎◌, subst, arith}
use Rattle.std.proofs.Math.ListN.{length-set}
use Rattle.rc_bindings.specs.Imports.{option_eq, unwrap_or, Result, Ok, Err, IfOk, OnOk, fold, range_with_len, zip, nat_cmp, ordering_then, nat_cmp_is, Ordering, Less, Equal, Greater, In, IsRising, in_map, map_in, get_or_in, same_rising, in_has, has_in, nat_order, not_below_itself, same_bool, list_all_in, in_list_all, rising_filter, in_filter, filter_in, slice_get, IsColSet, Within, has, inter, inter_in, rank_more, slice_get-rank, rising_range, in_range_below, range_with_len_more, Pairs, IsTuple, agrees, cols_of, get, merge, pair_cmp, project, tuple_cmp, value, zip_more, GivesOne, one_pair, agree_from, agrees_to, in_project, project_in, rising_cols, rising_pairs, pair_order, in_merge, merge_left, merge_right, rising_merge, IsSetBelow, hash_of, mix}
use Rattle.std.proofs.lemmas.Option.{none-some}
use Rattle.std.proofs.lemmas.Bool.{and_from, eqb-true, eq-eqb, false≢true, or_cases, or_left, or_right}
use Rattle.std.proofs.lemmas.List.{get_or-set_same, get_or-set_other}
use Rattle.std.proofs.Math.Seq.{take-suc}
use Rattle.std.proofs.lemmas.Option.{slice_get_within}
use Rattle.std.proofs.lemmas.List.{append-nil, length-take-le, map-append, take_all}
use Rattle.std.proofs.lemmas.List.Elements.{filter-append}
use Rattle.std.proofs.lemmas.List.Sums.{fold-append}
use Rattle.std.proofs.lemmas.Cmp.{ranked}
use Rattle.rc_bindings.specs.Registers.{all_written, columns_below, fits, fits_all, register, tuple_in, values_of}

pub cols_of-tuple_in : (cols values : List ℕ) → cols_of (tuple_in cols values) ≡ cols
cols_of-tuple_in [] values = refl
cols_of-tuple_in (c ∷ cols) values = ap (λ cs. c ∷ cs) (cols_of-tuple_in cols values)

-- each pair of the tuple is a column that counts with its register
pub in_tuple_in : (cols values : List ℕ) (p : ℕ × ℕ) → In p (tuple_in cols values) → In p.0 cols × (p.1 ≡ register values p.0)
in_tuple_in cols values p m =
    let q : (c : ℕ) × In c cols × (p ≡ (c, register values c)) = in_map (λ c. (c, register values c)) p cols m in
    let first : p.0 ≡ q.0 = ap (λ (z : ℕ × ℕ). z.0) q.2 in
    (subst (λ c. In c cols) (sym first) q.1, ap (λ (z : ℕ × ℕ). z.1) q.2 ∙ ap (register values) (sym first))

pub tuple_in_has : (cols values : List ℕ) (p : ℕ × ℕ) → In p.0 cols → p.1 ≡ register values p.0 → In p (tuple_in cols values)
tuple_in_has cols values p m e =
    let same : (p.0, register values p.0) ≡ p = λ i. (p.0, sym e i) in
    subst (λ z. In z (tuple_in cols values)) same (map_in (λ k. (k, register values k)) p.0 cols m)

pub rising-tuple_in : (cols values : List ℕ) → IsRising nat_cmp cols → IsRising pair_cmp (tuple_in cols values)
rising-tuple_in cols values rises = rising_cols (tuple_in cols values) (subst (IsRising nat_cmp) (sym (cols_of-tuple_in cols values)) rises)

pub IsTuple-tuple_in : (cols values : List ℕ) → IsSetBelow (length values) cols → ((v : ℕ) → In v values → v < 2 ^ 64) → IsTuple (tuple_in cols values)
IsTuple-tuple_in cols values within small = record {
  rising = subst (IsRising nat_cmp) (sym (cols_of-tuple_in cols values)) within.set.rising;
  columns = λ p m. within.set.below p.0 (in_tuple_in cols values p m).0;
  values = λ p m. let q : In p.0 cols × (p.1 ≡ register values p.0) = in_tuple_in cols values p m in
      subst (λ v. v < 2 ^ 64) (sym q.1) (small (register values p.0) (get_or_in values p.0 0 (within.below p.0 q.0)));
}

-- a projection moves no value
pub project-tuple_in : (xs cols values : List ℕ) → project xs (tuple_in cols values) ≡ tuple_in (filter (has xs) cols) values
project-tuple_in xs [] values = refl
project-tuple_in xs (c ∷ cols) values = go (has xs c) (project-tuple_in xs cols values)
  where
    go : (b : Bool) → project xs (tuple_in cols values) ≡ tuple_in (filter (has xs) cols) values
        → cond b ((c, register values c) ∷ project xs (tuple_in cols values)) (project xs (tuple_in cols values)) ≡ tuple_in (cond b (c ∷ filter (has xs) cols) (filter (has xs) cols)) values
    go false rest = rest
    go true rest = ap (λ t. (c, register values c) ∷ t) rest

-- ---- writes

pub length-all_written : (ps : Pairs) (values : List ℕ) → length (all_written ps values) ≡ length values
length-all_written [] values = refl
length-all_written (p ∷ ps) values = length-all_written ps (set values p.0 p.1) ∙ length-set values p.0 p.1

-- a register whose column isn't written stays
pub register-unwritten : (ps : Pairs) (values : List ℕ) (c : ℕ) → (In c (cols_of ps) → ⊥) → register (all_written ps values) c ≡ register values c
register-unwritten [] values c out = refl
register-unwritten (p ∷ ps) values c out =
    register-unwritten ps (set values p.0 p.1) c (λ m. out (inr m)) ∙ get_or-set_other values p.0 c p.1 0 (λ e. out (inl e))

-- each written register has the value of its column
pub register-written : (ps : Pairs) (values : List ℕ) → IsRising nat_cmp (cols_of ps) → ((p : ℕ × ℕ) → In p ps → p.0 < length values) → (p : ℕ × ℕ) → In p ps → register (all_written ps values) p.0 ≡ p.1
register-written [] values rises below p m = absurd m
register-written (q ∷ ps) values rises below p (inl e) =
    let out : In q.0 (cols_of ps) → ⊥ = λ m. not_below_itself nat_cmp nat_order q.0 q.0 (rises.0 q.0 m) (rises.0 q.0 m) in
    ap (λ (z : ℕ × ℕ). register (all_written ps (set values q.0 q.1)) z.0) e
    ∙ register-unwritten ps (set values q.0 q.1) q.0 out ∙ get_or-set_same values q.0 q.1 0 (below q (inl refl)) ∙ ap (λ (z : ℕ × ℕ). z.1) (sym e)
register-written (q ∷ ps) values rises below p (inr m) =
    register-written ps (set values q.0 q.1) rises.1 (λ r k. subst (λ n. r.0 < n) (sym (length-set values q.0 q.1)) (below r (inr k))) p m

-- the columns of written pairs have just these pairs
pub tuple_in-written : (ps : Pairs) (values : List ℕ) → IsRising nat_cmp (cols_of ps) → ((p : ℕ × ℕ) → In p ps → p.0 < length values) → tuple_in (cols_of ps) (all_written ps values) ≡ ps
tuple_in-written ps values rises below =
    same_rising pair_cmp pair_order (tuple_in (cols_of ps) (all_written ps values)) ps
    (rising-tuple_in (cols_of ps) (all_written ps values) rises) (rising_cols ps rises)
    (λ p m.
    let q : In p.0 (cols_of ps) × (p.1 ≡ register (all_written ps values) p.0) = in_tuple_in (cols_of ps) (all_written ps values) p m in
    let r : (z : ℕ × ℕ) × In z ps × (p.0 ≡ z.0) = in_map (λ (z : ℕ × ℕ). z.0) p.0 ps q.0 in
    let v : p.1 ≡ r.0.1 = q.1 ∙ ap (register (all_written ps values)) r.2 ∙ register-written ps values rises below r.0 r.1 in
    let same : r.0 ≡ p = λ i. (sym r.2 i, sym v i) in
    subst (λ z. In z ps) same r.1)
    (λ p m. tuple_in_has (cols_of ps) (all_written ps values) p (map_in (λ (z : ℕ × ℕ). z.0) p ps m) (sym (register-written ps values rises below p m)))

-- the test of the registers is that of agreement
pub fits_all-agrees : (cols values : List ℕ) (u : Pairs) → fits_all cols values u ≡ agrees (tuple_in cols values) u
fits_all-agrees cols values u = same_bool (fits_all cols values u) (agrees (tuple_in cols values) u) to from
  where
    fit : (q : ℕ × ℕ) → fits cols values q ≡ true → In q.0 cols → register values q.0 ≡ q.1
    fit q f m = elim (or_cases (not (has cols q.0)) (register values q.0 == q.1) f)
        [ inl out ↦ absurd (false≢true (sym (ap not (has_in cols q.0 m)) ∙ out)) | inr same ↦ eqb-true (register values q.0) q.1 same ]

    to : fits_all cols values u ≡ true → agrees (tuple_in cols values) u ≡ true
    to h = agrees_to (tuple_in cols values) u (λ p q m n e.
        let r : In p.0 cols × (p.1 ≡ register values p.0) = in_tuple_in cols values p m in
        let v : p.1 ≡ q.1 = r.1 ∙ ap (register values) e ∙ fit q (list_all_in (fits cols values) u h q n) (subst (λ c. In c cols) e r.0) in
        λ i. (e i, v i))

    from : agrees (tuple_in cols values) u ≡ true → fits_all cols values u ≡ true
    from h = in_list_all (fits cols values) u (λ q n. go q n (has cols q.0) refl)
      where
        go : (q : ℕ × ℕ) → In q u → (b : Bool) → has cols q.0 ≡ b → fits cols values q ≡ true
        go q n false e = or_left (not (has cols q.0)) (register values q.0 == q.1) (ap not e)
        go q n true e =
            let same : (q.0, register values q.0) ≡ q = agree_from (tuple_in cols values) u h (q.0, register values q.0) q (tuple_in_has cols values (q.0, register values q.0) (in_has cols q.0 e) refl) n refl in
            or_right (not (has cols q.0)) (register values q.0 == q.1) (eq-eqb (register values q.0) q.1 (ap (λ (z : ℕ × ℕ). z.1) same))

-- ---- pairs in any order

pub all_written-append : (ps qs : Pairs) (values : List ℕ) → all_written (ps ++ qs) values ≡ all_written qs (all_written ps values)
all_written-append [] qs values = refl
all_written-append (p ∷ ps) qs values = all_written-append ps qs (set values p.0 p.1)

-- each written register has the value of its column, where no column is given two
pub register-given : (ps : Pairs) (values : List ℕ) → GivesOne ps → ((p : ℕ × ℕ) → In p ps → p.0 < length values) → (p : ℕ × ℕ) → In p ps → register (all_written ps values) p.0 ≡ p.1
register-given [] values one below p m = absurd m
register-given (q ∷ ps) values one below p m =
    go (register-given ps (set values q.0 q.1) (λ x y a b e. one x y (inr a) (inr b) e) (λ x k. subst (λ n. x.0 < n) (sym (length-set values q.0 q.1)) (below x (inr k)))) (has (cols_of ps) p.0) refl m
  where
    go : ((r : ℕ × ℕ) → In r ps → register (all_written ps (set values q.0 q.1)) r.0 ≡ r.1) → (b : Bool) → has (cols_of ps) p.0 ≡ b → In p (q ∷ ps)
        → register (all_written ps (set values q.0 q.1)) p.0 ≡ p.1
    go later b h (inr k) = later p k
    go later true h (inl e) =
        let r : (z : ℕ × ℕ) × In z ps × (p.0 ≡ z.0) = in_map (λ (z : ℕ × ℕ). z.0) p.0 ps (in_has (cols_of ps) p.0 h) in
        let same : p ≡ r.0 = one p r.0 (inl e) (inr r.1) r.2 in
        ap (λ (z : ℕ × ℕ). register (all_written ps (set values q.0 q.1)) z.0) same ∙ later r.0 r.1 ∙ ap (λ (z : ℕ × ℕ). z.1) (sym same)
    go later false h (inl e) =
        register-unwritten ps (set values q.0 q.1) p.0 (λ k. false≢true (sym h ∙ has_in (cols_of ps) p.0 k))
        ∙ ap (λ (z : ℕ × ℕ). register (set values q.0 q.1) z.0) e ∙ get_or-set_same values q.0 q.1 0 (below q (inl refl)) ∙ ap (λ (z : ℕ × ℕ). z.1) (sym e)

-- a row that has the pairs, and beside them none but those that the registers have
module _ (cols values : List ℕ) (rises : IsRising nat_cmp cols) (ps u : Pairs) (to_row : (p : ℕ × ℕ) → In p ps → In p u) (from_row : (p : ℕ × ℕ) → In p u → In p (tuple_in cols values) ⊎ In p ps) where
  own : (p q : ℕ × ℕ) → In p (tuple_in cols values) → In q (tuple_in cols values) → p.0 ≡ q.0 → p ≡ q
  own = one_pair (tuple_in cols values) (subst (IsRising nat_cmp) (sym (cols_of-tuple_in cols values)) rises)

  -- the test is that of agreement with the row
  pub fits_all-agree : fits_all cols values ps ≡ agrees (tuple_in cols values) u
  fits_all-agree = same_bool (fits_all cols values ps) (agrees (tuple_in cols values) u) to from
    where
      to : fits_all cols values ps ≡ true → agrees (tuple_in cols values) u ≡ true
      to h = agrees_to (tuple_in cols values) u (λ p q m n e. elim (from_row q n) [
        | inl k ↦ own p q m k e
        | inr k ↦ agree_from (tuple_in cols values) ps (sym (fits_all-agrees cols values ps) ∙ h) p q m k e
      ])

      from : agrees (tuple_in cols values) u ≡ true → fits_all cols values ps ≡ true
      from h = fits_all-agrees cols values ps ∙ agrees_to (tuple_in cols values) ps (λ p q m n e. agree_from (tuple_in cols values) u h p q m (to_row q n) e)

  -- and writing the pairs is the merge with it
  pub merge-given : GivesOne ps → ((p : ℕ × ℕ) → In p ps → p.0 < length values) → (xs : List ℕ) → IsRising nat_cmp xs
      → ((c : ℕ) → In c xs → In c cols ⊎ In c (cols_of ps)) → Within cols xs → Within (cols_of ps) xs
      → agrees (tuple_in cols values) u ≡ true → tuple_in xs (all_written ps values) ≡ merge (tuple_in cols values) u
  merge-given one below xs xs_rise parts old_within new_within agreeing =
      same_rising pair_cmp pair_order (tuple_in xs (all_written ps values)) (merge (tuple_in cols values) u)
      (rising-tuple_in xs (all_written ps values) xs_rise) (rising_merge (tuple_in cols values) u) to from
    where
      in_given : (p : ℕ × ℕ) → In p.0 (cols_of ps) → p.1 ≡ register (all_written ps values) p.0 → In p ps
      in_given p m e =
          let r : (z : ℕ × ℕ) × In z ps × (p.0 ≡ z.0) = in_map (λ (z : ℕ × ℕ). z.0) p.0 ps m in
          let w : r.0.1 ≡ p.1 = sym (e ∙ ap (register (all_written ps values)) r.2 ∙ register-given ps values one below r.0 r.1) in
          let same : r.0 ≡ p = λ i. (sym r.2 i, w i) in
          subst (λ (z : ℕ × ℕ). In z ps) same r.1

      to : (p : ℕ × ℕ) → In p (tuple_in xs (all_written ps values)) → In p (merge (tuple_in cols values) u)
      to p m = go (has (cols_of ps) p.0) refl
        where
          q : In p.0 xs × (p.1 ≡ register (all_written ps values) p.0)
          q = in_tuple_in xs (all_written ps values) p m

          go : (b : Bool) → has (cols_of ps) p.0 ≡ b → In p (merge (tuple_in cols values) u)
          go true h = merge_right (tuple_in cols values) u p (to_row p (in_given p (in_has (cols_of ps) p.0 h) q.1))
          go false h =
              let out : In p.0 (cols_of ps) → ⊥ = λ k. false≢true (sym h ∙ has_in (cols_of ps) p.0 k) in
              elim (parts p.0 q.0) [
                | inl k ↦ merge_left (tuple_in cols values) u p (tuple_in_has cols values p k (q.1 ∙ register-unwritten ps values p.0 out))
                | inr k ↦ absurd (out k)
              ]

      given : (p : ℕ × ℕ) → In p ps → In p (tuple_in xs (all_written ps values))
      given p k = tuple_in_has xs (all_written ps values) p (new_within p.0 (map_in (λ (z : ℕ × ℕ). z.0) p ps k)) (sym (register-given ps values one below p k))

      left : (p : ℕ × ℕ) → In p (tuple_in cols values) → In p (tuple_in xs (all_written ps values))
      left p k = go (has (cols_of ps) p.0) refl
        where
          q : In p.0 cols × (p.1 ≡ register values p.0)
          q = in_tuple_in cols values p k

          go : (b : Bool) → has (cols_of ps) p.0 ≡ b → In p (tuple_in xs (all_written ps values))
          go true h =
              let r : (z : ℕ × ℕ) × In z ps × (p.0 ≡ z.0) = in_map (λ (z : ℕ × ℕ). z.0) p.0 ps (in_has (cols_of ps) p.0 h) in
              let same : p ≡ r.0 = agree_from (tuple_in cols values) u agreeing p r.0 k (to_row r.0 r.1) r.2 in
              given p (subst (λ z. In z ps) (sym same) r.1)
          go false h = tuple_in_has xs (all_written ps values) p (old_within p.0 q.0)
              (q.1 ∙ sym (register-unwritten ps values p.0 (λ n. false≢true (sym h ∙ has_in (cols_of ps) p.0 n))))

      from : (p : ℕ × ℕ) → In p (merge (tuple_in cols values) u) → In p (tuple_in xs (all_written ps values))
      from p m = elim (in_merge (tuple_in cols values) u p m) [
        | inl k ↦ left p k
        | inr k ↦ elim (from_row p k) [ inl n ↦ left p n | inr n ↦ given p n ]
      ]

-- ---- order

same_column : (c x y : ℕ) → ordering_then (nat_cmp c c) (nat_cmp x y) ≡ nat_cmp x y
same_column c x y = ap (λ o. ordering_then o (nat_cmp x y)) (sym (nat_cmp_is c c Equal refl))

then_decided : (a o : Ordering) → (a ≡ Equal → ⊥) → ordering_then a o ≡ a
then_decided Less o n = refl
then_decided Equal o n = absurd (n refl)
then_decided Greater o n = refl

-- the first column at which two differ decides
pub tuple_in-decided : (cols x y : List ℕ) (c : ℕ) (a : Ordering) → (a ≡ Equal → ⊥) → IsRising nat_cmp cols → In c cols
    → ((k : ℕ) → In k cols → k < c → register x k ≡ register y k) → nat_cmp (register x c) (register y c) ≡ a
    → tuple_cmp (tuple_in cols x) (tuple_in cols y) ≡ a
tuple_in-decided [] x y c a n rises m before is = absurd m
tuple_in-decided (h ∷ cols) x y c a n rises (inl e) before is =
    let here : nat_cmp (register x h) (register y h) ≡ a = subst (λ k. nat_cmp (register x k) (register y k) ≡ a) e is in
    ap (λ o. ordering_then o (tuple_cmp (tuple_in cols x) (tuple_in cols y))) (same_column h (register x h) (register y h) ∙ here)
    ∙ then_decided a (tuple_cmp (tuple_in cols x) (tuple_in cols y)) n
tuple_in-decided (h ∷ cols) x y c a n rises (inr m) before is =
    let same : register x h ≡ register y h = before h (inl refl) (ranked h c Less (sym (rises.0 c m))) in
    ap (λ o. ordering_then o (tuple_cmp (tuple_in cols x) (tuple_in cols y)))
    (same_column h (register x h) (register y h) ∙ sym (nat_cmp_is (register x h) (register y h) Equal same))
    ∙ tuple_in-decided cols x y c a n rises.1 m (λ k n l. before k (inr n) l) is

-- and where there is none they are equal
pub tuple_in-equal : (cols x y : List ℕ) → ((k : ℕ) → In k cols → register x k ≡ register y k)
    → tuple_cmp (tuple_in cols x) (tuple_in cols y) ≡ Equal
tuple_in-equal [] x y same = refl
tuple_in-equal (h ∷ cols) x y same =
    ap (λ o. ordering_then o (tuple_cmp (tuple_in cols x) (tuple_in cols y)))
    (same_column h (register x h) (register y h) ∙ sym (nat_cmp_is (register x h) (register y h) Equal (same h (inl refl))))
    ∙ tuple_in-equal cols x y (λ k n. same k (inr n))

-- ---- reading

pub get-tuple_in : (cols values : List ℕ) (c : ℕ) → get (tuple_in cols values) c ≡ cond (has cols c) (Some (register values c)) None
get-tuple_in [] values c = refl
get-tuple_in (k ∷ cols) values c = go (k == c) refl (get-tuple_in cols values c)
  where
    go : (b : Bool) → (k == c) ≡ b → get (tuple_in cols values) c ≡ cond (has cols c) (Some (register values c)) None
        → cond b (Some (register values k)) (get (tuple_in cols values) c) ≡ cond (b || has cols c) (Some (register values c)) None
    go true e rest = ap (λ n. Some (register values n)) (eqb-true k c e)
    go false e rest = rest

unequal : (x y : ℕ) → (x ≡ y → ⊥) → (x == y) ≡ false
unequal x y n = go (x == y) refl
  where
    go : (b : Bool) → (x == y) ≡ b → b ≡ false
    go true e = absurd (n (eqb-true x y e))
    go false e = refl

pub get_of : (t : Pairs) (p : ℕ × ℕ) → IsRising nat_cmp (cols_of t) → In p t → get t p.0 ≡ Some p.1
get_of [] p rises m = absurd m
get_of (q ∷ t) p rises (inl e) = ap (λ b. cond b (Some q.1) (get t p.0)) (eq-eqb q.0 p.0 (ap (λ (z : ℕ × ℕ). z.0) (sym e))) ∙ ap (λ (z : ℕ × ℕ). Some z.1) (sym e)
get_of (q ∷ t) p rises (inr m) =
    let other : (q.0 ≡ p.0) → ⊥ = λ e. not_below_itself nat_cmp nat_order p.0 p.0 (below e) (below e) in
    ap (λ b. cond b (Some q.1) (get t p.0)) (unequal q.0 p.0 other) ∙ get_of t p rises.1 m
  where
    below : q.0 ≡ p.0 → nat_cmp p.0 p.0 ≡ Less
    below e = subst (λ k. nat_cmp k p.0 ≡ Less) e (rises.0 p.0 (map_in (λ (z : ℕ × ℕ). z.0) p t m))

pub in_from_get : (t : Pairs) (c v : ℕ) → get t c ≡ Some v → In {A = ℕ × ℕ} (c, v) t
in_from_get [] c v h = absurd (none-some v h)
in_from_get (q ∷ t) c v h = go (q.0 == c) refl h (in_from_get t c v)
  where
    go : (b : Bool) → (q.0 == c) ≡ b → cond b (Some q.1) (get t c) ≡ Some v → (get t c ≡ Some v → In {A = ℕ × ℕ} (c, v) t) → In {A = ℕ × ℕ} (c, v) (q ∷ t)
    go true e k later = inl (λ i. (sym (eqb-true q.0 c e) i, sym (ap (λ o. unwrap_or o 0) k) i))
    go false e k later = inr (later k)

-- and those that have the same projection have the same values there
pub get-project : (xs : List ℕ) (t : Pairs) (c : ℕ) → has xs c ≡ true → get (project xs t) c ≡ get t c
get-project xs [] c h = refl
get-project xs (p ∷ t) c h = go (has xs p.0) (p.0 == c) refl refl (get-project xs t c h)
  where
    go : (a b : Bool) → has xs p.0 ≡ a → (p.0 == c) ≡ b → get (project xs t) c ≡ get t c → get (cond a (p ∷ project xs t) (project xs t)) c ≡ cond b (Some p.1) (get t c)
    go true b f e rest = ap (λ z. cond z (Some p.1) (get (project xs t) c)) e ∙ ap (cond b (Some p.1)) rest
    go false true f e rest = absurd (false≢true (sym f ∙ ap (has xs) (eqb-true p.0 c e) ∙ h))
    go false false f e rest = rest

pub get-same : (xs : List ℕ) (t u : Pairs) (c : ℕ) → has xs c ≡ true → project xs t ≡ project xs u → get t c ≡ get u c
get-same xs t u c h e = sym (get-project xs t c h) ∙ ap (λ z. get z c) e ∙ get-project xs u c h

-- the test of two values, each of which may be missing
pub same_option : (a b : Option ℕ) → option_eq eqb a b ≡ true → a ≡ b
same_option None None h = refl
same_option None (Some y) h = absurd (false≢true h)
same_option (Some x) None h = absurd (false≢true h)
same_option (Some x) (Some y) h = ap Some (eqb-true x y h)

pub not_different : (a b : Option ℕ) → not (option_eq eqb a b) ≡ false → a ≡ b
not_different a b h = go (option_eq eqb a b) refl h
  where
    go : (t : Bool) → option_eq eqb a b ≡ t → not t ≡ false → a ≡ b
    go true e n = same_option a b e
    go false e n = absurd (false≢true (sym n))

pub option_same : (a b : Option ℕ) → a ≡ b → option_eq eqb a b ≡ true
option_same a b e = subst (λ z. option_eq eqb a z ≡ true) e (itself a)
  where
    itself : (o : Option ℕ) → option_eq eqb o o ≡ true
    itself None = refl
    itself (Some x) = eq-eqb x x refl

-- tuples that have the same values at some columns have the same projection on them
pub project-same_values : (xs : List ℕ) (t u : Pairs) → IsTuple t → IsTuple u → ((c : ℕ) → In c xs → get t c ≡ get u c) → project xs t ≡ project xs u
project-same_values xs t u it iu same =
    same_rising pair_cmp pair_order (project xs t) (project xs u)
    (rising_filter pair_cmp (λ (p : ℕ × ℕ). has xs p.0) t (rising_pairs t it)) (rising_filter pair_cmp (λ (p : ℕ × ℕ). has xs p.0) u (rising_pairs u iu))
    (λ p m. let q : In p t × In p.0 xs = in_project xs p t m in project_in xs p u (in_from_get u p.0 p.1 (sym (same p.0 q.1) ∙ get_of t p it.rising q.0)) q.1)
    (λ p m. let q : In p u × In p.0 xs = in_project xs p u m in project_in xs p t (in_from_get t p.0 p.1 (same p.0 q.1 ∙ get_of u p iu.rising q.0)) q.1)

-- ---- columns in turn

-- a set is its columns below the width
pub columns_below_all : (width : ℕ) (cols : List ℕ) → IsSetBelow width cols → columns_below cols width ≡ cols
columns_below_all width cols within =
    same_rising nat_cmp nat_order (columns_below cols width) cols (rising_filter nat_cmp (has cols) (range_with_len 0 width) (rising_range 0 width)) within.set.rising
    (λ c m. in_has cols c (in_filter (has cols) c (range_with_len 0 width) m).1)
    (λ c m. filter_in (has cols) c (range_with_len 0 width) (in_range_below width c (within.below c m)) (has_in cols c m))

pub columns_below_more : (cols : List ℕ) (n : ℕ) → columns_below cols (n + 1) ≡ columns_below cols n ++ cond (has cols n) (n ∷ []) []
columns_below_more cols n = let e : 0 + n ≡ n = omega arith in
    ap (filter (has cols)) (range_with_len_more 0 n) ∙ filter-append (has cols) (range_with_len 0 n) ((0 + n) ∷ []) ∙ ap (λ k. columns_below cols n ++ filter (has cols) (k ∷ [])) e

-- the hash of a tuple's values takes them in turn
pub hash_of_next : (cols : List ℕ) (t : Pairs) (n : ℕ) → hash_of (columns_below cols (n + 1)) t ≡ cond (has cols n) (mix (hash_of (columns_below cols n) t) (value t n)) (hash_of (columns_below cols n) t)
hash_of_next cols t n =
    ap (λ xs. hash_of xs t) (columns_below_more cols n) ∙ fold-append (λ hash c. mix hash (value t c)) 7 (columns_below cols n) (cond (has cols n) (n ∷ []) []) ∙ go (has cols n)
  where
    go : (b : Bool) → fold (λ hash c. mix hash (value t c)) (hash_of (columns_below cols n) t) (cond b (n ∷ []) []) ≡ cond b (mix (hash_of (columns_below cols n) t) (value t n)) (hash_of (columns_below cols n) t)
    go true = refl
    go false = refl

-- so do the values of a tuple
pub values_next : (cols values : List ℕ) (n : ℕ) → map (register values) (columns_below cols (n + 1)) ≡ map (register values) (columns_below cols n) ++ cond (has cols n) (register values n ∷ []) []
values_next cols values n =
    ap (map (register values)) (columns_below_more cols n) ∙ map-append (register values) (columns_below cols n) (cond (has cols n) (n ∷ []) []) ∙ go (has cols n)
  where
    go : (b : Bool) → map (register values) (columns_below cols n) ++ map (register values) (cond b (n ∷ []) []) ≡ map (register values) (columns_below cols n) ++ cond b (register values n ∷ []) []
    go true = refl
    go false = refl

-- the values of a tuple are its registers
pub values_of-tuple_in : (cols values : List ℕ) → values_of (tuple_in cols values) ≡ map (register values) cols
values_of-tuple_in [] values = refl
values_of-tuple_in (c ∷ cols) values = ap (λ l. register values c ∷ l) (values_of-tuple_in cols values)

-- ---- values of columns in turn

pub length-columns_below_more : (cols : List ℕ) (n : ℕ) → length (columns_below cols (n + 1)) ≡ length (columns_below cols n) + cond (has cols n) 1 0
length-columns_below_more cols n = rank_more cols n

-- a column of the set has a place
pub place_within : (cols : List ℕ) (n : ℕ) → IsColSet cols → has cols n ≡ true → length (columns_below cols n) < length cols
place_within cols n set h = slice_get_within cols (length (columns_below cols n)) n (slice_get-rank cols n set h)

-- the pairs of the columns so far, and of one more
abbrev pub pairs_below : List ℕ → List ℕ → ℕ → Pairs
pairs_below cols values n = zip (columns_below cols n) (take (length (columns_below cols n)) values)

pub pairs_below_there : (cols values : List ℕ) (n : ℕ) → IsColSet cols → length values ≡ length cols → has cols n ≡ true
    → pairs_below cols values (n + 1) ≡ pairs_below cols values n ++ (n, get_or values (length (columns_below cols n)) 0) ∷ []
pairs_below_there cols values n set count h =
    let l = place_within cols n set h in
    let more : columns_below cols (n + 1) ≡ columns_below cols n ++ n ∷ [] = columns_below_more cols n ∙ ap (λ b. columns_below cols n ++ cond b (n ∷ []) []) h in
    let next : length (columns_below cols (n + 1)) ≡ suc (length (columns_below cols n)) =
    length-columns_below_more cols n ∙ ap (λ b. length (columns_below cols n) + cond b 1 0) h ∙ (let e : length (columns_below cols n) + 1 ≡ suc (length (columns_below cols n)) = omega arith in e) in
    let taken : length (columns_below cols n) ≡ length (take (length (columns_below cols n)) values) = sym (length-take-le (length (columns_below cols n)) values (omega (arith, l, count))) in
    ap (λ k. zip (columns_below cols (n + 1)) (take k values)) next
    ∙ ap (λ v. zip (columns_below cols (n + 1)) v) (take-suc values (length (columns_below cols n)) 0 (omega (arith, l, count)))
    ∙ ap (λ xs. zip xs (take (length (columns_below cols n)) values ++ get_or values (length (columns_below cols n)) 0 ∷ [])) more
    ∙ zip_more (columns_below cols n) (take (length (columns_below cols n)) values) n (get_or values (length (columns_below cols n)) 0) taken

pub pairs_below_out : (cols values : List ℕ) (n : ℕ) → has cols n ≡ false → pairs_below cols values (n + 1) ≡ pairs_below cols values n
pairs_below_out cols values n h =
    let same : columns_below cols (n + 1) ≡ columns_below cols n = columns_below_more cols n ∙ ap (λ b. columns_below cols n ++ cond b (n ∷ []) []) h ∙ append-nil (columns_below cols n) in
    ap (λ xs. zip xs (take (length xs) values)) same

pub pairs_below_all : (width : ℕ) (cols values : List ℕ) → IsSetBelow width cols → length values ≡ length cols → pairs_below cols values width ≡ zip cols values
pairs_below_all width cols values within count =
    ap (λ xs. zip xs (take (length xs) values)) (columns_below_all width cols within) ∙ ap (zip cols) (take_all (length cols) values (omega (arith, count)))

-- registers of which none of the columns is held fit any values
pub fits_apart : (held values : List ℕ) (ps : Pairs) → ((c : ℕ) → In c (cols_of ps) → has held c ≡ false) → fits_all held values ps ≡ true
fits_apart held values [] out = refl
fits_apart held values (p ∷ ps) out =
    and_from (fits held values p) (fits_all held values ps) (or_left (not (has held p.0)) (register values p.0 == p.1) (ap not (out p.0 (inl refl)))) (fits_apart held values ps (λ c m. out c (inr m)))

-- a column that isn't in the list is not found
pub has_not : (cols : List ℕ) (c : ℕ) → (In c cols → ⊥) → has cols c ≡ false
has_not cols c out = go (has cols c) refl
  where
    go : (b : Bool) → has cols c ≡ b → b ≡ false
    go true h = absurd (out (in_has cols c h))
    go false h = refl

-- two sets that share no column
pub none_shared : (held cols : List ℕ) (c : ℕ) → length (inter held cols) ≡ 0 → In c cols → has held c ≡ false
none_shared held cols c none m = has_not held c (λ h. some (inter held cols) (inter_in held cols c h m) none)
  where
    some : (xs : List ℕ) → In c xs → length xs ≡ 0 → ⊥
    some (x ∷ xs) k e = omega (arith, e)
    some [] k e = k

-- a column of the set stands with its value among the pairs
pub zip_there : (cols values : List ℕ) (i c : ℕ) → slice_get cols i ≡ Some c → i < length values → In {A = ℕ × ℕ} (c, get_or values i 0) (zip cols values)
zip_there [] values i c h l = absurd (none-some c h)
zip_there (k ∷ cols) [] i c h l = absurd (omega (arith, l))
zip_there (k ∷ cols) (v ∷ values) zero c h l = inl (λ i. (sym (ap (λ o. unwrap_or o 0) h) i, v))
zip_there (k ∷ cols) (v ∷ values) (suc i) c h l = inr (zip_there cols values i c h (omega (arith, l)))

pub fits_all-append : (held values : List ℕ) (ps qs : Pairs) → fits_all held values (ps ++ qs) ≡ (fits_all held values ps && fits_all held values qs)
fits_all-append held values [] qs = refl
fits_all-append held values (p ∷ ps) qs = go (fits held values p) (fits_all-append held values ps qs)
  where
    go : (b : Bool) → fits_all held values (ps ++ qs) ≡ (fits_all held values ps && fits_all held values qs) → (b && fits_all held values (ps ++ qs)) ≡ ((b && fits_all held values ps) && fits_all held values qs)
    go true rest = rest
    go false rest = refl

-- columns with their registers are the tuple
pub zip-registers : (cols values : List ℕ) → zip cols (map (register values) cols) ≡ tuple_in cols values
zip-registers [] values = refl
zip-registers (c ∷ cols) values = ap (λ t. (c, register values c) ∷ t) (zip-registers cols values)

-- ---- results

pub on_ok : {E : Type 0} {P Q : Type 0} (r : Result (Unit {0}) E) → (P → Q) → OnOk r P → OnOk r Q
on_ok (Ok x) f h = f h
on_ok (Err e) f h = tt

pub if_ok : {T E : Type 0} {P Q : T → Type 0} (r : Result T E) → ((x : T) → P x → Q x) → IfOk r P → IfOk r Q
if_ok (Ok x) f h = f x h
if_ok (Err e) f h = tt
