-- Laws of filters over lists, and over rising lists with one more element.
use Rattle.std.proofs.Common.{◌≡◌, Bool, true, false, cond, List, [], ◌∷◌, map, refl, sym, ap, ◌∙◌, subst, inl, inr}
use Rattle.rc_generate.specs.Imports.{filter, Ordering, In, IsRising, put, IsOrder, in_put, put_new, put_old, rising_put, rising_filter, in_filter, filter_in, same_rising}
use Rattle.std.proofs.lemmas.Bool.{false≢true}

-- two filters commute
pub filter-swap : {A : Type 0} (p q : A → Bool) (xs : List A) → filter p (filter q xs) ≡ filter q (filter p xs)
filter-swap p q [] = refl
filter-swap p q (x ∷ xs) = go p q x xs (p x) (q x) refl refl (filter-swap p q xs)
  where
    go : {A : Type 0} (p q : A → Bool) (x : A) (xs : List A) (a b : Bool) → p x ≡ a → q x ≡ b → filter p (filter q xs) ≡ filter q (filter p xs)
        → filter p (cond b (x ∷ filter q xs) (filter q xs)) ≡ filter q (cond a (x ∷ filter p xs) (filter p xs))
    go p q x xs true true e f ih =
        ap (λ w. cond w (x ∷ filter p (filter q xs)) (filter p (filter q xs))) e ∙ ap (λ w. x ∷ w) ih ∙ sym (ap (λ w. cond w (x ∷ filter q (filter p xs)) (filter q (filter p xs))) f)
    go p q x xs true false e f ih = ih ∙ sym (ap (λ w. cond w (x ∷ filter q (filter p xs)) (filter q (filter p xs))) f)
    go p q x xs false true e f ih = ap (λ w. cond w (x ∷ filter p (filter q xs)) (filter p (filter q xs))) e ∙ ih
    go p q x xs false false e f ih = ih

-- a filter that all elements pass
pub filter-every : {A : Type 0} (p : A → Bool) (xs : List A) → ((x : A) → In x xs → p x ≡ true) → filter p xs ≡ xs
filter-every p [] h = refl
filter-every p (x ∷ xs) h = ap (λ b. cond b (x ∷ filter p xs) (filter p xs)) (h x (inl refl)) ∙ ap (λ l. x ∷ l) (filter-every p xs (λ y m. h y (inr m)))

-- a filter that none passes
pub filter-none : {A : Type 0} (p : A → Bool) (xs : List A) → ((x : A) → In x xs → p x ≡ false) → filter p xs ≡ []
filter-none p [] h = refl
filter-none p (x ∷ xs) h = ap (λ b. cond b (x ∷ filter p xs) (filter p xs)) (h x (inl refl)) ∙ filter-none p xs (λ y m. h y (inr m))

-- a filter before and after a map
pub map-filter : {A B : Type 0} (f : A → B) (p : B → Bool) (xs : List A) → map f (filter (λ x. p (f x)) xs) ≡ filter p (map f xs)
map-filter f p [] = refl
map-filter {A} {B} f p (x ∷ xs) = go (p (f x)) ∙ ap (λ l. cond (p (f x)) (f x ∷ l) l) (map-filter f p xs)
  where
    go : (b : Bool) → map f (cond b (x ∷ filter (λ y. p (f y)) xs) (filter (λ y. p (f y)) xs)) ≡ cond b (f x ∷ map f (filter (λ y. p (f y)) xs)) (map f (filter (λ y. p (f y)) xs))
    go true = refl
    go false = refl

module _ {A : Type 0} (R : A → A → Ordering) (o : IsOrder R) where
  -- an element that passes the filter
  pub filter-put : (q : A → Bool) (x : A) (xs : List A) → IsRising R xs → q x ≡ true → filter q (put R x xs) ≡ put R x (filter q xs)
  filter-put q x xs h e =
      same_rising R o (filter q (put R x xs)) (put R x (filter q xs))
      (rising_filter R q (put R x xs) (rising_put R o x xs h))
      (rising_put R o x (filter q xs) (rising_filter R q xs h)) there back
    where
      there : (z : A) → In z (filter q (put R x xs)) → In z (put R x (filter q xs))
      there z m =
          let w = in_filter q z (put R x xs) m in
          elim (in_put R o z x xs w.0) [
            | inl k ↦ subst (λ y. In y (put R x (filter q xs))) (sym k) (put_new R o x (filter q xs))
            | inr k ↦ put_old R o z x (filter q xs) (filter_in q z xs k w.1)
          ]

      back : (z : A) → In z (put R x (filter q xs)) → In z (filter q (put R x xs))
      back z m = elim (in_put R o z x (filter q xs) m) [
        | inl k ↦ subst (λ y. In y (filter q (put R x xs))) (sym k) (filter_in q x (put R x xs) (put_new R o x xs) e)
        | inr k ↦ let w = in_filter q z xs k in filter_in q z (put R x xs) (put_old R o z x xs w.0) w.1
      ]

  -- one that doesn't
  pub filter-put_other : (q : A → Bool) (x : A) (xs : List A) → IsRising R xs → q x ≡ false → filter q (put R x xs) ≡ filter q xs
  filter-put_other q x xs h e =
      same_rising R o (filter q (put R x xs)) (filter q xs) (rising_filter R q (put R x xs) (rising_put R o x xs h)) (rising_filter R q xs h) there back
    where
      there : (z : A) → In z (filter q (put R x xs)) → In z (filter q xs)
      there z m =
          let w = in_filter q z (put R x xs) m in
          elim (in_put R o z x xs w.0) [
            | inl k ↦ absurd (false≢true (sym e ∙ ap q (sym k) ∙ w.1))
            | inr k ↦ filter_in q z xs k w.1
          ]

      back : (z : A) → In z (filter q xs) → In z (filter q (put R x xs))
      back z m = let w = in_filter q z xs m in filter_in q z (put R x xs) (put_old R o z x xs w.0) w.1
