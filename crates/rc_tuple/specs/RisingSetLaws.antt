-- Members of a rising list, and that its members determine it.
use Rattle.std.specs.Prelude.{◌≡◌, ◌+◌, ◌<◌, length, Bool, true, false, List, [], ◌∷◌, ◌++◌, ◌⊎◌, filter, map, cond}
use Rattle.rc_tuple.specs.Imports.{Ordering, Less, Equal, Greater, eq_by_cmp, ordering_reverse, is_eq, match_ordering, nat_cmp, IsEquivalence, IsTotalOrder, eq_by_cmp_equiv, slice_cmp, dedup, flat_map, list_all, slice_get, AllByRecursion}
use Rattle.std.proofs.Common.{ℕ, Some, None, IsPermutation, IsSorted, Contains, zero, suc, arith, take, drop, get_or, inl, inr, refl, sym, ap, subst, ◌∙◌, ◌==◌}
use Rattle.std.specs.List.Sorted.{IsStrictlySortedBy}
use Rattle.std.proofs.lemmas.List.Kept.{Contains-dedup, Contains-from_dedup, IsStrictlySortedBy-dedup}
use Rattle.std.proofs.lemmas.List.Sorted.{Contains-permutation, IsPermutation-sym}
use Rattle.std.proofs.lemmas.Option.{get_or_from_slice_get, slice_get_within}
use Rattle.std.proofs.lemmas.Bool.{false≢true, and_parts, and_from, or_cases, or_left, or_right, eqb-true, eq-eqb}
use Rattle.std.proofs.lemmas.List.{drop_more, take_more, append_assoc}
use Rattle.std.proofs.lemmas.Cmp.{nat_cmp_total, nat_list_cmp_total, ranked, by_ranked}
use Rattle.std.proofs.lemmas.Map.Lookups.{exact_bytes}
use Rattle.rc_tuple.specs.RisingSet.{AreDistinct, In, IsRising, put, gather}
use Rattle.rc_tuple.specs.ColSet.{has}

-- a total order in which only equal elements tie
pub record IsOrder {A : Type 0} (R : A → A → Ordering) : Type 0 where
  pub total : IsTotalOrder R
  pub ties : (x y : A) → R x y ≡ Equal → x ≡ y

module _ {A : Type 0} (R : A → A → Ordering) (o : IsOrder R) where
  -- what stands in `put R x ys`
  in_put_go : (z x y : A) (ys : List A) (a : Ordering) → R x y ≡ a → (In z (put R x ys) → (z ≡ x) ⊎ In z ys)
      → In z (match_ordering a (x ∷ (y ∷ ys)) (y ∷ ys) (y ∷ put R x ys)) → (z ≡ x) ⊎ In z (y ∷ ys)
  in_put_go z x y ys Less e ih h = h
  in_put_go z x y ys Equal e ih h = inr h
  in_put_go z x y ys Greater e ih (inl q) = inr (inl q)
  in_put_go z x y ys Greater e ih (inr q) = elim (ih q) [ inl p ↦ inl p | inr p ↦ inr (inr p) ]

  pub in_put : (z x : A) (ys : List A) → In z (put R x ys) → (z ≡ x) ⊎ In z ys
  in_put z x [] h = h
  in_put z x (y ∷ ys) h = in_put_go z x y ys (R x y) refl (in_put z x ys) h

  put_new_go : (x y : A) (ys : List A) (a : Ordering) → R x y ≡ a → In x (put R x ys)
      → In x (match_ordering a (x ∷ (y ∷ ys)) (y ∷ ys) (y ∷ put R x ys))
  put_new_go x y ys Less e ih = inl refl
  put_new_go x y ys Equal e ih = inl (o.ties x y e)
  put_new_go x y ys Greater e ih = inr ih

  pub put_new : (x : A) (ys : List A) → In x (put R x ys)
  put_new x [] = inl refl
  put_new x (y ∷ ys) = put_new_go x y ys (R x y) refl (put_new x ys)

  put_old_go : (z x y : A) (ys : List A) (a : Ordering) → (In z ys → In z (put R x ys)) → In z (y ∷ ys)
      → In z (match_ordering a (x ∷ (y ∷ ys)) (y ∷ ys) (y ∷ put R x ys))
  put_old_go z x y ys Less ih h = inr h
  put_old_go z x y ys Equal ih h = h
  put_old_go z x y ys Greater ih (inl q) = inl q
  put_old_go z x y ys Greater ih (inr q) = inr (ih q)

  pub put_old : (z x : A) (ys : List A) → In z ys → In z (put R x ys)
  put_old z x [] h = inr h
  put_old z x (y ∷ ys) h = put_old_go z x y ys (R x y) (put_old z x ys) h

  -- `put` keeps a list rising
  rising_put_go : (x y : A) (ys : List A) (a : Ordering) → R x y ≡ a → IsRising R (y ∷ ys) → IsRising R (put R x ys)
      → IsRising R (match_ordering a (x ∷ (y ∷ ys)) (y ∷ ys) (y ∷ put R x ys))
  rising_put_go x y ys Less e h ih =
      ((λ z q. elim q [ inl p ↦ (subst (λ w. R x w ≡ Less) (sym p) e) | inr p ↦ o.total.trans x y z e (h.0 z p) ]), h)
  rising_put_go x y ys Equal e h ih = h
  rising_put_go x y ys Greater e h ih =
      ((λ z q. elim (in_put z x ys q) [ inl p ↦ subst (λ w. R y w ≡ Less) (sym p) (o.total.antisymm y x ∙ ap ordering_reverse e) | inr p ↦ h.0 z p ]), ih)

  pub rising_put : (x : A) (ys : List A) → IsRising R ys → IsRising R (put R x ys)
  rising_put x [] h = ((λ y q. absurd q), tt)
  rising_put x (y ∷ ys) h = rising_put_go x y ys (R x y) refl h (rising_put x ys h.1)

  pub rising_gather : (xs : List A) → IsRising R (gather R xs)
  rising_gather [] = tt
  rising_gather (x ∷ xs) = rising_put x (gather R xs) (rising_gather xs)

  pub in_gather : (z : A) (xs : List A) → In z (gather R xs) → In z xs
  in_gather z [] h = h
  in_gather z (x ∷ xs) h = elim (in_put z x (gather R xs) h) [ inl p ↦ inl p | inr p ↦ inr (in_gather z xs p) ]

  pub gather_in : (z : A) (xs : List A) → In z xs → In z (gather R xs)
  gather_in z [] h = h
  gather_in z (x ∷ xs) (inl p) = subst (λ w. In w (put R x (gather R xs))) (sym p) (put_new x (gather R xs))
  gather_in z (x ∷ xs) (inr p) = put_old z x (gather R xs) (gather_in z xs p)

  pub not_below_itself : (x y : A) → R x y ≡ Less → R y x ≡ Less → ⊥
  not_below_itself x y e f = let g : ordering_reverse Less ≡ Less = sym (o.total.antisymm x y ∙ ap ordering_reverse f) ∙ e in cc

  not_above_both : (x y : A) (xs ys : List A) → IsRising R (x ∷ xs) → IsRising R (y ∷ ys) → In x ys → In y xs → ⊥
  not_above_both x y xs ys p q a b = not_below_itself x y (p.0 y b) (q.0 x a)

  same_head : (x y : A) (xs ys : List A) → IsRising R (x ∷ xs) → IsRising R (y ∷ ys) → In x (y ∷ ys) → In y (x ∷ xs) → x ≡ y
  same_head x y xs ys p q (inl e) b = e
  same_head x y xs ys p q (inr a) (inl e) = sym e
  same_head x y xs ys p q (inr a) (inr b) = absurd (not_above_both x y xs ys p q a b)

  tail_in : (x y : A) (xs ys : List A) → IsRising R (x ∷ xs) → x ≡ y → ((z : A) → In z (x ∷ xs) → In z (y ∷ ys)) → (z : A) → In z xs → In z ys
  tail_in x y xs ys p e f z h =
      elim (f z (inr h)) [ inl q ↦ absurd (let l : R x x ≡ Less = subst (λ w. R x w ≡ Less) (q ∙ sym e) (p.0 z h) in not_below_itself x x l l) | inr q ↦ q ]

  -- the members of a rising list determine it
  pub same_rising : (xs ys : List A) → IsRising R xs → IsRising R ys → ((z : A) → In z xs → In z ys) → ((z : A) → In z ys → In z xs) → xs ≡ ys
  same_rising [] [] p q f g = refl
  same_rising [] (y ∷ ys) p q f g = absurd (g y (inl refl))
  same_rising (x ∷ xs) [] p q f g = absurd (f x (inl refl))
  same_rising (x ∷ xs) (y ∷ ys) p q f g =
      let e : x ≡ y = same_head x y xs ys p q (f x (inl refl)) (g y (inl refl)) in
      let t : xs ≡ ys = same_rising xs ys p.1 q.1 (tail_in x y xs ys p e f) (tail_in y x ys xs q (sym e) g) in cc

  pub same_gather : (xs ys : List A) → ((z : A) → In z xs → In z ys) → ((z : A) → In z ys → In z xs) → gather R xs ≡ gather R ys
  same_gather xs ys f g = same_rising (gather R xs) (gather R ys) (rising_gather xs) (rising_gather ys)
      (λ z h. gather_in z ys (f z (in_gather z xs h))) (λ z h. gather_in z xs (g z (in_gather z ys h)))

  pub gather-rising : (xs : List A) → IsRising R xs → gather R xs ≡ xs
  gather-rising xs h = same_rising (gather R xs) xs (rising_gather xs) h (in_gather_of xs) (gather_in_of xs)
    where
      in_gather_of : (xs : List A) → (z : A) → In z (gather R xs) → In z xs
      in_gather_of xs z h = in_gather z xs h

      gather_in_of : (xs : List A) → (z : A) → In z xs → In z (gather R xs)
      gather_in_of xs z h = gather_in z xs h

-- what passes a filter
pub in_filter : {A : Type 0} (p : A → Bool) (z : A) (xs : List A) → In z (filter p xs) → In z xs × (p z ≡ true)
in_filter p z [] h = absurd h
in_filter p z (x ∷ xs) h = in_filter_go p z x xs (p x) refl (in_filter p z xs) h
  where
    in_filter_go : {A : Type 0} (p : A → Bool) (z x : A) (xs : List A) (b : Bool) → p x ≡ b → (In z (filter p xs) → In z xs × (p z ≡ true))
        → In z (cond b (x ∷ filter p xs) (filter p xs)) → In z (x ∷ xs) × (p z ≡ true)
    in_filter_go p z x xs true e ih (inl q) = (inl q, ap p q ∙ e)
    in_filter_go p z x xs true e ih (inr q) = (inr (ih q).0, (ih q).1)
    in_filter_go p z x xs false e ih q = (inr (ih q).0, (ih q).1)

pub filter_in : {A : Type 0} (p : A → Bool) (z : A) (xs : List A) → In z xs → p z ≡ true → In z (filter p xs)
filter_in p z [] h e = absurd h
filter_in p z (x ∷ xs) h e = filter_in_go p z x xs (p x) refl (λ q. filter_in p z xs q e) h e
  where
    filter_in_go : {A : Type 0} (p : A → Bool) (z x : A) (xs : List A) (b : Bool) → p x ≡ b → (In z xs → In z (filter p xs)) → In z (x ∷ xs) → p z ≡ true
        → In z (cond b (x ∷ filter p xs) (filter p xs))
    filter_in_go p z x xs true f ih (inl q) e = inl q
    filter_in_go p z x xs true f ih (inr q) e = inr (ih q)
    filter_in_go p z x xs false f ih (inl q) e = absurd (false≢true (sym f ∙ ap p (sym q) ∙ e))
    filter_in_go p z x xs false f ih (inr q) e = ih q

pub rising_filter : {A : Type 0} (R : A → A → Ordering) (p : A → Bool) (xs : List A) → IsRising R xs → IsRising R (filter p xs)
rising_filter R p [] h = tt
rising_filter R p (x ∷ xs) h = rising_filter_go R p x xs (p x) h (rising_filter R p xs h.1)
  where
    rising_filter_go : {A : Type 0} (R : A → A → Ordering) (p : A → Bool) (x : A) (xs : List A) (b : Bool) → IsRising R (x ∷ xs) → IsRising R (filter p xs)
        → IsRising R (cond b (x ∷ filter p xs) (filter p xs))
    rising_filter_go R p x xs true h ih = ((λ y q. h.0 y (in_filter p y xs q).0), ih)
    rising_filter_go R p x xs false h ih = ih

pub in_map : {A B : Type 0} (f : A → B) (z : B) (xs : List A) → In z (map f xs) → (x : A) × In x xs × (z ≡ f x)
in_map f z [] h = absurd h
in_map f z (x ∷ xs) (inl q) = (x, inl refl, q)
in_map f z (x ∷ xs) (inr q) = ((in_map f z xs q).0, inr (in_map f z xs q).1, (in_map f z xs q).2)

pub map_in : {A B : Type 0} (f : A → B) (x : A) (xs : List A) → In x xs → In (f x) (map f xs)
map_in f x (y ∷ xs) (inl q) = inl (ap f q)
map_in f x (y ∷ xs) (inr q) = inr (map_in f x xs q)
map_in f x [] h = absurd h

pub in_append : {A : Type 0} (z : A) (xs ys : List A) → In z (xs ++ ys) → In z xs ⊎ In z ys
in_append z [] ys h = inr h
in_append z (x ∷ xs) ys (inl q) = inl (inl q)
in_append z (x ∷ xs) ys (inr q) = elim (in_append z xs ys q) [ inl p ↦ inl (inr p) | inr p ↦ inr p ]

pub append_in_left : {A : Type 0} (z : A) (xs ys : List A) → In z xs → In z (xs ++ ys)
append_in_left z (x ∷ xs) ys (inl q) = inl q
append_in_left z (x ∷ xs) ys (inr q) = inr (append_in_left z xs ys q)
append_in_left z [] ys h = absurd h

pub append_in_right : {A : Type 0} (z : A) (xs ys : List A) → In z ys → In z (xs ++ ys)
append_in_right z [] ys h = h
append_in_right z (x ∷ xs) ys h = inr (append_in_right z xs ys h)

-- the first part of a list in which no element stands twice
pub distinct_left : {A : Type 0} (xs ys : List A) → AreDistinct (xs ++ ys) → AreDistinct xs
distinct_left [] ys distinct = tt
distinct_left (x ∷ xs) ys distinct = ((λ m. distinct.0 (append_in_left x xs ys m)), distinct_left xs ys distinct.1)

pub in_flat_map : {A B : Type 0} (f : A → List B) (z : B) (xs : List A) → In z (flat_map f xs) → (x : A) × In x xs × In z (f x)
in_flat_map f z [] h = absurd h
in_flat_map f z (x ∷ xs) h = in_flat_map_go f z x xs (in_append z (f x) (flat_map f xs) h) (in_flat_map f z xs)
  where
    in_flat_map_go : {A B : Type 0} (f : A → List B) (z : B) (x : A) (xs : List A) → In z (f x) ⊎ In z (flat_map f xs) → (In z (flat_map f xs) → (x : A) × In x xs × In z (f x)) → (y : A) × In y (x ∷ xs) × In z (f y)
    in_flat_map_go f z x xs (inl q) ih = (x, inl refl, q)
    in_flat_map_go f z x xs (inr q) ih = ((ih q).0, inr (ih q).1, (ih q).2)

pub flat_map_in : {A B : Type 0} (f : A → List B) (z : B) (x : A) (xs : List A) → In x xs → In z (f x) → In z (flat_map f xs)
flat_map_in f z x (y ∷ xs) (inl q) h = append_in_left z (f y) (flat_map f xs) (subst (λ w. In z (f w)) q h)
flat_map_in f z x (y ∷ xs) (inr q) h = append_in_right z (f y) (flat_map f xs) (flat_map_in f z x xs q h)
flat_map_in f z x [] q h = absurd q

pub get_or_in : {A : Type 0} (xs : List A) (i : ℕ) (d : A) → i < length xs → In (get_or xs i d) xs
get_or_in [] i d h = absurd (omega arith)
get_or_in (x ∷ xs) zero d h = inl refl
get_or_in (x ∷ xs) (suc i) d h = inr (get_or_in xs i d (omega arith))

-- what holds at each place holds of each member
pub in_from_places : {A : Type 0} (P : A → Type 0) (d : A) (xs : List A) → ((i : ℕ) → i < length xs → P (get_or xs i d)) → (x : A) → In x xs → P x
in_from_places P d [] f x m = absurd m
in_from_places P d (y ∷ ys) f x (inl e) = subst P (sym e) (f 0 (omega arith))
in_from_places P d (y ∷ ys) f x (inr m) = in_from_places P d ys (λ i h. f (suc i) (omega arith)) x m

-- ---- a list gathered from its front

module _ {A : Type 0} (R : A → A → Ordering) (o : IsOrder R) where
  push_in : (z x : A) (ys : List A) → In z (gather R (ys ++ x ∷ [])) → In z (put R x (gather R ys))
  push_in z x ys h = elim (in_append z ys (x ∷ []) (in_gather R o z (ys ++ x ∷ []) h)) [
    | inl m ↦ put_old R o z x (gather R ys) (gather_in R o z ys m)
    | inr (inl e) ↦ subst (λ w. In w (put R x (gather R ys))) (sym e) (put_new R o x (gather R ys))
    | inr (inr n) ↦ elim n [ ]
  ]

  -- one more element at the end
  pub gather_more : (ys : List A) (x : A) → gather R (ys ++ x ∷ []) ≡ put R x (gather R ys)
  gather_more ys x =
      same_rising R o (gather R (ys ++ x ∷ [])) (put R x (gather R ys)) (rising_gather R o (ys ++ x ∷ [])) (rising_put R o x (gather R ys) (rising_gather R o ys))
      (λ z h. push_in z x ys h)
      (λ z h. gather_in R o z (ys ++ x ∷ []) (elim (in_put R o z x (gather R ys) h) [
        | inl e ↦ append_in_right z ys (x ∷ []) (inl e)
        | inr m ↦ append_in_left z ys (x ∷ []) (in_gather R o z ys m)
      ]))

-- what passes two filters, where the first test asks more
pub filter-filter : {A : Type 0} (p q : A → Bool) → ((x : A) → p x ≡ true → q x ≡ true) → (xs : List A) → filter p (filter q xs) ≡ filter p xs
filter-filter p q f [] = refl
filter-filter p q f (x ∷ xs) = go p q f x xs (p x) (q x) refl refl (filter-filter p q f xs)
  where
    go : {A : Type 0} (p q : A → Bool) (f : (x : A) → p x ≡ true → q x ≡ true) (x : A) (xs : List A) (a b : Bool) → p x ≡ a → q x ≡ b
        → filter p (filter q xs) ≡ filter p xs → filter p (cond b (x ∷ filter q xs) (filter q xs)) ≡ cond a (x ∷ filter p xs) (filter p xs)
    go p q f x xs true true e g ih = ap (λ w. cond w (x ∷ filter p (filter q xs)) (filter p (filter q xs))) e ∙ ap (λ w. x ∷ w) ih
    go p q f x xs true false e g ih = absurd (false≢true (sym g ∙ f x e))
    go p q f x xs false true e g ih = ap (λ w. cond w (x ∷ filter p (filter q xs)) (filter p (filter q xs))) e ∙ ih
    go p q f x xs false false e g ih = ih

-- a test of all elements
pub list_all_in : {A : Type 0} (p : A → Bool) (xs : List A) → list_all p xs ≡ true → (x : A) → In x xs → p x ≡ true
list_all_in p [] e x h = absurd h
list_all_in p (y ∷ ys) e x (inl q) = ap p q ∙ (and_parts (p y) (list_all p ys) e).0
list_all_in p (y ∷ ys) e x (inr q) = list_all_in p ys (and_parts (p y) (list_all p ys) e).1 x q

pub in_list_all : {A : Type 0} (p : A → Bool) (xs : List A) → ((x : A) → In x xs → p x ≡ true) → list_all p xs ≡ true
in_list_all p [] f = refl
in_list_all p (y ∷ ys) f = and_from (p y) (list_all p ys) (f y (inl refl)) (in_list_all p ys (λ x h. f x (inr h)))

-- ---- numbers

nat_ties : (x y : ℕ) → nat_cmp x y ≡ Equal → x ≡ y
nat_ties x y e = ranked x y Equal (sym e)

pub nat_order : IsOrder nat_cmp
nat_order = record { total = nat_cmp_total; ties = nat_ties }

pub in_has : (xs : List ℕ) (c : ℕ) → has xs c ≡ true → In c xs
in_has [] c h = absurd (false≢true h)
in_has (x ∷ xs) c h = elim (or_cases (x == c) (has xs c) h) [ inl e ↦ inl (sym (eqb-true x c e)) | inr e ↦ inr (in_has xs c e) ]

pub has_in : (xs : List ℕ) (c : ℕ) → In c xs → has xs c ≡ true
has_in [] c h = absurd h
has_in (x ∷ xs) c (inl e) = or_left (x == c) (has xs c) (eq-eqb x c (sym e))
has_in (x ∷ xs) c (inr e) = or_right (x == c) (has xs c) (has_in xs c e)

-- two tests that pass together are one
pub same_bool : (a b : Bool) → (a ≡ true → b ≡ true) → (b ≡ true → a ≡ true) → a ≡ b
same_bool true b f g = sym (f refl)
same_bool false true f g = g refl
same_bool false false f g = refl

-- ---- the walk to the place of an element

module _ {A : Type 0} (R : A → A → Ordering) where
  pub place_more : (x : A) (xs : List A) (i : ℕ) (d : A) → i < length xs → R x (get_or xs i d) ≡ Greater
      → take i xs ++ put R x (drop i xs) ≡ take (i + 1) xs ++ put R x (drop (i + 1) xs)
  place_more x xs i d lt g =
      ap (λ l. take i xs ++ put R x l) (drop_more xs i d lt)
      ∙ ap (λ a. take i xs ++ match_ordering a (x ∷ (get_or xs i d ∷ drop (i + 1) xs)) (get_or xs i d ∷ drop (i + 1) xs) (get_or xs i d ∷ put R x (drop (i + 1) xs))) g
      ∙ sym (append_assoc (take i xs) (get_or xs i d ∷ []) (put R x (drop (i + 1) xs)))
      ∙ ap (λ l. l ++ put R x (drop (i + 1) xs)) (sym (take_more xs i d lt))

-- what holds of each element, by recursion and by membership
pub each_in : {A : Type 0} (P : A → Type 0) (xs : List A) → AllByRecursion P xs → (x : A) → In x xs → P x
each_in P [] h x m = absurd m
each_in P (y ∷ ys) h x (inl e) = subst P (sym e) h.0
each_in P (y ∷ ys) h x (inr m) = each_in P ys h.1 x m

pub in_each : {A : Type 0} (P : A → Type 0) (xs : List A) → ((x : A) → In x xs → P x) → AllByRecursion P xs
in_each P [] h = tt
in_each P (y ∷ ys) h = (h y (inl refl), in_each P ys (λ x m. h x (inr m)))

-- a gathered list so far, with one more element
pub gather_next : {A : Type 0} (R : A → A → Ordering) → IsOrder R → (xs : List A) (i : ℕ) (d : A) → i < length xs
    → gather R (take (i + 1) xs) ≡ put R (get_or xs i d) (gather R (take i xs))
gather_next R o xs i d h = ap (gather R) (take_more xs i d h) ∙ gather_more R o (take i xs) (get_or xs i d)

pub slice_get_in : {A : Type 0} (xs : List A) (i : ℕ) (x : A) → slice_get xs i ≡ Some x → In x xs
slice_get_in xs i x e =
    subst (λ y. In y xs) (get_or_from_slice_get xs i x x e) (get_or_in xs i x (slice_get_within xs i x e))

-- ---- places in a list

-- a place within a list has an element
pub slice_get_there : {A : Type 0} (xs : List A) (i : ℕ) → i < length xs → slice_get xs i ≡ None → ⊥
slice_get_there [] i l e = absurd (omega arith)
slice_get_there (x ∷ xs) zero l e = cc
slice_get_there (x ∷ xs) (suc i) l e = slice_get_there xs i (omega arith) e

-- a member stands at some place
pub in_slice_get : {A : Type 0} (x : A) (xs : List A) → In x xs → (i : ℕ) × (slice_get xs i ≡ Some x)
in_slice_get x [] m = absurd m
in_slice_get x (y ∷ ys) (inl e) = (zero, ap Some (sym e))
in_slice_get x (y ∷ ys) (inr m) = let w = in_slice_get x ys m in (suc w.0, w.1)

-- in a rising list each element is below those at later places
pub rising_places : {A : Type 0} (R : A → A → Ordering) (xs : List A) (i j : ℕ) (x y : A) → IsRising R xs
    → slice_get xs i ≡ Some x → slice_get xs j ≡ Some y → i < j → R x y ≡ Less
rising_places R [] i j x y r e f h = cc
rising_places R (z ∷ zs) zero zero x y r e f h = absurd (omega arith)
rising_places R (z ∷ zs) zero (suc j) x y r e f h =
    let k : z ≡ x = cc in
    subst (λ w. R w y ≡ Less) k (r.0 y (slice_get_in zs j y f))
rising_places R (z ∷ zs) (suc i) zero x y r e f h = absurd (omega arith)
rising_places R (z ∷ zs) (suc i) (suc j) x y r e f h = rising_places R zs i j x y r.1 e f (omega arith)

module _ {A : Type 0} (R : A → A → Ordering) (o : IsOrder R) where
  -- and elements that are below others stand at earlier places
  pub places_rise : (xs : List A) (i j : ℕ) (x y : A) → IsRising R xs → slice_get xs i ≡ Some x → slice_get xs j ≡ Some y → R x y ≡ Less → i < j
  places_rise xs i j x y r e f l =
      by_ranked (i < j) (i ≡ j) (j < i) (nat_cmp i j) (ranked i j (nat_cmp i j) refl)
      (λ _ h. h)
      (λ _ h. let k : x ≡ y = cc in absurd (not_below_itself R o x y l (subst (λ w. R y w ≡ Less) (sym k) (subst (λ w. R w y ≡ Less) k l))))
      (λ _ h. absurd (not_below_itself R o x y l (rising_places R xs j i y x r f e h)))

  -- what is above the last element of a rising list is put behind it
  pub put_behind : (x y : A) (xs : List A) (i : ℕ) → IsRising R xs → slice_get xs i ≡ Some y → i + 1 ≡ length xs → R x y ≡ Greater → put R x xs ≡ xs ++ x ∷ []
  put_behind x y [] i r e l g = refl
  put_behind x y (z ∷ []) zero r e l g =
      let k : z ≡ y = cc in
      let b : R x z ≡ Greater = subst (λ w. R x w ≡ Greater) (sym k) g in
      ap (λ a. match_ordering a (x ∷ (z ∷ [])) (z ∷ []) (z ∷ put R x [])) b
  put_behind x y (z ∷ w ∷ ws) zero r e l g = absurd (omega (arith, l))
  put_behind x y (z ∷ zs) (suc i) r e l g =
      let under : R z y ≡ Less = r.0 y (slice_get_in zs i y e) in
      let over : R y x ≡ Less = o.total.antisymm y x ∙ ap ordering_reverse g in
      let b : R x z ≡ Greater = o.total.antisymm x z ∙ ap ordering_reverse (o.total.trans z y x under over) in
      ap (λ a. match_ordering a (x ∷ (z ∷ zs)) (z ∷ zs) (z ∷ put R x zs)) b
      ∙ ap (λ l. z ∷ l) (put_behind x y zs i r.1 e (omega (arith, l)) g)

  -- an element of a rising list stands at one place
  pub one_place : (xs : List A) (i j : ℕ) (x : A) → IsRising R xs → slice_get xs i ≡ Some x → slice_get xs j ≡ Some x → i ≡ j
  one_place xs i j x r e f =
      by_ranked (i < j) (i ≡ j) (j < i) (nat_cmp i j) (ranked i j (nat_cmp i j) refl)
      (λ _ h. let l = rising_places R xs i j x x r e f h in absurd (not_below_itself R o x x l l))
      (λ _ h. h)
      (λ _ h. let l = rising_places R xs j i x x r f e h in absurd (not_below_itself R o x x l l))

-- ---- what a sort leaves

pub is_eq_equal : (a : Ordering) → is_eq a ≡ true → a ≡ Equal
is_eq_equal Less e = cc
is_eq_equal Equal e = refl
is_eq_equal Greater e = cc

pub contains_in : {A : Type 0} (x : A) (xs : List A) → Contains xs x → In x xs
contains_in x xs h = subst (λ y. In y xs) h.2 (get_or_in xs h.0 x h.1)

pub in_contains : {A : Type 0} (x : A) (xs : List A) → In x xs → Contains xs x
in_contains x xs m = let w = in_slice_get x xs m in (w.0, slice_get_within xs w.0 x w.1, get_or_from_slice_get xs w.0 x x w.1)

pub rising_from_sorted : {A : Type 0} (R : A → A → Ordering) (xs : List A) → IsStrictlySortedBy R xs → IsRising R xs
unfolding IsStrictlySortedBy
rising_from_sorted R [] h = tt
rising_from_sorted R (x ∷ xs) h = (each_in (λ y. R x y ≡ Less) xs h.0, rising_from_sorted R xs h.1)

module _ {A : Type 0} (R : A → A → Ordering) (o : IsOrder R) (E : A → A → Bool) (ties : (x y : A) → E x y ≡ eq_by_cmp R x y) where
  same_element : (x y : A) → E x y ≡ true → x ≡ y
  same_element x y e = o.ties x y (is_eq_equal (R x y) (sym (ties x y) ∙ e))

  -- sorted elements of which each is kept once
  pub kept_once : (xs sorted : List A) → IsPermutation xs sorted → IsSorted R sorted → dedup E sorted ≡ gather R xs
  kept_once xs sorted moved rises =
      same_rising R o (dedup E sorted) (gather R xs)
      (rising_from_sorted R (dedup E sorted) (IsStrictlySortedBy-dedup o.total ties sorted rises))
      (rising_gather R o xs)
      (λ x m. gather_in R o x xs (contains_in x xs (Contains-permutation sorted xs x (IsPermutation-sym xs sorted moved) (Contains-from_dedup E sorted x (in_contains x (dedup E sorted) m)))))
      (λ x m. contains_in x (dedup E sorted) (Contains-dedup (subst IsEquivalence (λ i x y. sym (ties x y) i) (eq_by_cmp_equiv o.total)) same_element sorted x (Contains-permutation xs sorted x moved (in_contains x xs (in_gather R o x xs m)))))

-- ---- lists of numbers

-- the first number that differs decides, and a list that goes on comes after
pub number_lists_order : IsOrder (slice_cmp nat_cmp)
number_lists_order = record { total = nat_list_cmp_total; ties = exact_bytes }
