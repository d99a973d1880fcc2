-- Lists from which an element was removed.
use Rattle.std.proofs.Common.{◌≡◌, ℕ, zero, suc, ◌+◌, ◌<◌, Bool, true, false, cond, List, [], ◌∷◌, get_or, length, map, refl, sym, ap, ◌∙◌, inl, inr, arith}
use Rattle.rc_inline.specs.Imports.{count_by, remove, AreDistinct, In, get_or_in}
use Rattle.std.proofs.lemmas.List.Sums.{sum_by-cons}

pub in_removed : {A : Type 0} (xs : List A) (i : ℕ) (x : A) → In x (remove xs i) → In x xs
in_removed [] zero x m = absurd m
in_removed [] (suc i) x m = absurd m
in_removed (y ∷ ys) zero x m = inr m
in_removed (y ∷ ys) (suc i) x (inl q) = inl q
in_removed (y ∷ ys) (suc i) x (inr m) = inr (in_removed ys i x m)

pub distinct_removed : {A : Type 0} (xs : List A) (i : ℕ) → AreDistinct xs → AreDistinct (remove xs i)
distinct_removed [] zero d = d
distinct_removed [] (suc i) d = d
distinct_removed (y ∷ ys) zero d = d.1
distinct_removed (y ∷ ys) (suc i) d = ((λ m. d.0 (in_removed ys i y m)), distinct_removed ys i d.1)

pub map-removed : {A B : Type 0} (f : A → B) (xs : List A) (i : ℕ) → map f (remove xs i) ≡ remove (map f xs) i
map-removed f [] zero = refl
map-removed f [] (suc i) = refl
map-removed f (y ∷ ys) zero = refl
map-removed f (y ∷ ys) (suc i) = ap (λ zs. f y ∷ zs) (map-removed f ys i)

-- ---- elements that fail a test

module _ {A : Type 0} (p : A → Bool) where
  none_passes : (b : Bool) (n : ℕ) → cond b 1 0 + n ≡ 0 → (b ≡ false) × (n ≡ 0)
  none_passes true n e = absurd (omega (arith, e))
  none_passes false n e = (refl, omega (arith, e))

  either_fails : (x y : A) (ys : List A) → p y ≡ false → (In x ys → p x ≡ false) → In x (y ∷ ys) → p x ≡ false
  either_fails x y ys first rest (inl q) = ap p q ∙ first
  either_fails x y ys first rest (inr m) = rest m

  count-cons : (y : A) (ys : List A) → count_by p (y ∷ ys) ≡ cond (p y) 1 0 + count_by p ys
  count-cons y ys = sum_by-cons (λ x. cond (p x) 1 0) y ys

  all_fail : (xs : List A) → count_by p xs ≡ 0 → (x : A) → In x xs → p x ≡ false
  all_fail [] none x m = absurd m
  all_fail (y ∷ ys) none x m =
      let split = none_passes (p y) (count_by p ys) (sym (count-cons y ys) ∙ none) in
      either_fails x y ys split.0 (all_fail ys split.1 x) m

  passes_alone : (b : Bool) (ys : List A) (i : ℕ) (d : A) → i < length ys → p (get_or ys i d) ≡ true → cond b 1 0 + count_by p ys ≡ 1
      → (b ≡ false) × (count_by p ys ≡ 1)
  passes_alone true ys i d l passes one =
      let fails : p (get_or ys i d) ≡ false = all_fail ys (omega (arith, one)) (get_or ys i d) (get_or_in ys i d l) in
      let clash : true ≡ false = sym passes ∙ fails in
      absurd cc
  passes_alone false ys i d l passes one = (refl, omega (arith, one))

  -- where one element alone passes, the others fail
  pub others_fail : (xs : List A) (i : ℕ) (d : A) → i < length xs → p (get_or xs i d) ≡ true → count_by p xs ≡ 1
      → (x : A) → In x (remove xs i) → p x ≡ false
  others_fail [] i d l passes one x m = elim l [ ]
  others_fail (y ∷ ys) zero d l passes one x m =
      let whole : 1 + count_by p ys ≡ 1 = ap (λ b. cond b 1 0 + count_by p ys) (sym passes) ∙ sym (count-cons y ys) ∙ one in
      all_fail ys (omega (arith, whole)) x m
  others_fail (y ∷ ys) (suc i) d l passes one x m =
      let split = passes_alone (p y) ys i d (omega (arith, l)) passes (sym (count-cons y ys) ∙ one) in
      either_fails x y (remove ys i) split.0 (others_fail ys i d (omega (arith, l)) passes split.1 x) m
