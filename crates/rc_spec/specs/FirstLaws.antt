-- Laws of the first of a list for which something does not hold.
use Rattle.std.proofs.Common.{◌≡◌, ℕ, ◌+◌, ◌<◌, ◌≤◌, ◌↔◌, Bool, true, List, [], ◌∷◌, ◌++◌, map, take, drop, length, get_or, Result, Ok, Err, refl, sym, ap, ◌∙◌, subst, inl, inr, arith}
use Rattle.rc_spec.specs.Imports.{flat_map, range_with_len, IsOk, IfErr, In, in_append, append_in_left, append_in_right, in_map, in_flat_map, flat_map_in, in_range_bounds, range_at, in_range_below}
use Rattle.std.proofs.lemmas.Bool.{false≢true}
use Rattle.std.proofs.lemmas.List.{append_assoc, append-nil, map-append, take_more, take-append-drop}
use Rattle.std.proofs.Math.Seq.{take-length}
use Rattle.std.proofs.lemmas.Grind.{flat_map-append}
use Rattle.rc_spec.specs.First.{EachHolds, IsFirstFailing, Judges}

pub each_none : {A : Type 0} (P : A → Type 0) → EachHolds P []
each_none P x m = absurd m

pub each_append : {A : Type 0} (P : A → Type 0) (xs ys : List A) → EachHolds P xs → EachHolds P ys → EachHolds P (xs ++ ys)
each_append P xs ys f g x m = elim (in_append x xs ys m) [ inl a ↦ f x a | inr b ↦ g x b ]

pub each_one : {A : Type 0} (P : A → Type 0) (x : A) → P x → EachHolds P (x ∷ [])
each_one P x h y (inl e) = subst P (sym e) h
each_one P x h y (inr m) = absurd m

-- of each image, where it holds so of each element
pub each_map : {A B : Type 0} (P : B → Type 0) (f : A → B) (xs : List A) → ((x : A) → In x xs → P (f x)) → EachHolds P (map f xs)
each_map {A} P f xs h y m =
    let w : (x : A) × In x xs × (y ≡ f x) = in_map f y xs m in
    subst P (sym w.2) (h w.0 w.1)

pub each_flat_map : {A B : Type 0} (P : B → Type 0) (f : A → List B) (xs : List A) → ((x : A) → In x xs → EachHolds P (f x)) → EachHolds P (flat_map f xs)
each_flat_map {A} P f xs h y m =
    let w : (x : A) × In x xs × In y (f x) = in_flat_map f y xs m in
    h w.0 w.1 y w.2

-- ---- the first that fails

pub first_here : {A : Type 0} (P : A → Type 0) (x : A) (xs : List A) → (P x → ⊥) → IsFirstFailing P (x ∷ xs) x
first_here P x xs n = record { before = []; after = xs; place = refl; earlier = each_none P; fails = n }

pub first_left : {A : Type 0} (P : A → Type 0) (xs ys : List A) (x : A) → IsFirstFailing P xs x → IsFirstFailing P (xs ++ ys) x
first_left P xs ys x f = record {
  before = f.before;
  after = f.after ++ ys;
  place = ap (λ l. l ++ ys) f.place ∙ append_assoc f.before (x ∷ f.after) ys;
  earlier = f.earlier;
  fails = f.fails;
}

pub first_right : {A : Type 0} (P : A → Type 0) (xs ys : List A) (x : A) → EachHolds P xs → IsFirstFailing P ys x → IsFirstFailing P (xs ++ ys) x
first_right P xs ys x h f = record {
  before = xs ++ f.before;
  after = f.after;
  place = ap (λ l. xs ++ l) f.place ∙ sym (append_assoc xs f.before (x ∷ f.after));
  earlier = each_append P xs f.before h f.earlier;
  fails = f.fails;
}

pub judged_append : {A B : Type 0} (P : A → Type 0) (xs ys : List A) (answer : Result B A) → EachHolds P xs → Judges P ys answer → Judges P (xs ++ ys) answer
judged_append P xs ys (Ok value) h j = each_append P xs ys h j
judged_append P xs ys (Err y) h j = first_right P xs ys y h j

-- an answer that is the refusal of the first failing check
pub judged_err : {A B : Type 0} (P : A → Type 0) (xs : List A) (answer : Result B A) (y x : A) → answer ≡ Err y → y ≡ x → IsFirstFailing P xs x → Judges P xs answer
judged_err P xs answer y x e f h = subst (Judges P xs) (sym (e ∙ ap Err f)) h

-- the answer of one check alone
pub judged_one : {A B : Type 0} (P : A → Type 0) (x : A) (answer : Result B A) (b : Bool) → (b ≡ true) ↔ P x → IsOk answer ↔ (b ≡ true) → IfErr answer (λ y. y ≡ x) → Judges P (x ∷ []) answer
judged_one P x (Ok value) b test ok err = each_one P x (test.0 (ok.0 refl))
judged_one P x (Err y) b test ok err = subst (λ z. IsFirstFailing P (x ∷ []) z) (sym err) (first_here P x [] (λ k. false≢true (ok.1 (test.1 k))))

-- one element at most is the first that fails
pub one_first : {A : Type 0} (P : A → Type 0) (xs : List A) (x y : A) → IsFirstFailing P xs x → IsFirstFailing P xs y → x ≡ y
one_first {A} P xs x y f g = go f.before g.before f.earlier g.earlier (sym f.place ∙ g.place)
  where
    go : (before others : List A) → EachHolds P before → EachHolds P others → before ++ x ∷ f.after ≡ others ++ y ∷ g.after → x ≡ y
    go [] [] a b e = cc
    go [] (z ∷ zs) a b e = let h : x ≡ z = cc in absurd (f.fails (subst P (sym h) (b z (inl refl))))
    go (z ∷ zs) [] a b e = let h : z ≡ y = cc in absurd (g.fails (subst P h (a z (inl refl))))
    go (z ∷ zs) (w ∷ ws) a b e = go zs ws (λ u m. a u (inr m)) (λ u m. b u (inr m)) cc

pub first_in : {A : Type 0} (P : A → Type 0) (xs : List A) (x : A) → IsFirstFailing P xs x → In x xs
first_in P xs x f = subst (In x) (sym f.place) (append_in_right x f.before (x ∷ f.after) (inl refl))

-- where one fails, not all hold
pub first_not_each : {A : Type 0} (P : A → Type 0) (xs : List A) (x : A) → IsFirstFailing P xs x → EachHolds P xs → ⊥
first_not_each P xs x f h = f.fails (h x (first_in P xs x f))

-- ---- by number

number_below : (count n : ℕ) → In n (range_with_len 0 count) → n < count
number_below count n m = let b : (0 ≤ n) × (n < 0 + count) = in_range_bounds 0 count n m in omega (arith, b.1)

-- what holds of those of each number below the count holds of all
pub each_listed : {A : Type 0} (P : A → Type 0) (g : ℕ → List A) (count : ℕ) → ((n : ℕ) → n < count → EachHolds P (g n)) → EachHolds P (flat_map g (range_with_len 0 count))
each_listed P g count h = each_flat_map P g (range_with_len 0 count) (λ n m. h n (number_below count n m))

pub first_listed : {A : Type 0} (P : A → Type 0) (g : ℕ → List A) (count k : ℕ) (x : A) → k < count → ((n : ℕ) → n < k → EachHolds P (g n)) → IsFirstFailing P (g k) x
    → IsFirstFailing P (flat_map g (range_with_len 0 count)) x
first_listed P g count k x l h f =
    let s : (after : List ℕ) × (range_with_len 0 count ≡ range_with_len 0 k ++ k ∷ after) = range_at count k l in
    let e : flat_map g (range_with_len 0 count) ≡ flat_map g (range_with_len 0 k) ++ (g k ++ flat_map g s.0) =
    ap (flat_map g) s.1 ∙ flat_map-append g (range_with_len 0 k) (k ∷ s.0) in
    subst (λ l. IsFirstFailing P l x) (sym e)
    (first_right P (flat_map g (range_with_len 0 k)) (g k ++ flat_map g s.0) x (each_listed P g k h) (first_left P (g k) (flat_map g s.0) x f))

-- ---- in a loop over a list, at the place i

module _ {A B : Type 0} (P : B → Type 0) (f : A → List B) (xs : List A) (i : ℕ) (d : A) (l : i < length xs) where
  more : flat_map f (take (i + 1) xs) ≡ flat_map f (take i xs) ++ f (get_or xs i d)
  more =
      ap (flat_map f) (take_more xs i d l) ∙ flat_map-append f (take i xs) (get_or xs i d ∷ [])
      ∙ ap (λ ys. flat_map f (take i xs) ++ ys) (append-nil (f (get_or xs i d)))

  -- those of one more element hold too
  pub all_more : EachHolds P (flat_map f (take i xs)) → EachHolds P (f (get_or xs i d)) → EachHolds P (flat_map f (take (i + 1) xs))
  all_more before here = subst (EachHolds P) (sym more) (each_append P (flat_map f (take i xs)) (f (get_or xs i d)) before here)

  -- one of those of this element fails first
  pub first_among : (z : B) → EachHolds P (flat_map f (take i xs)) → IsFirstFailing P (f (get_or xs i d)) z → IsFirstFailing P (flat_map f xs) z
  first_among z before fails =
      let whole : flat_map f xs ≡ flat_map f (take (i + 1) xs) ++ flat_map f (drop (i + 1) xs) =
      ap (flat_map f) (sym (take-append-drop (i + 1) xs)) ∙ flat_map-append f (take (i + 1) xs) (drop (i + 1) xs) in
      subst (λ ys. IsFirstFailing P ys z) (sym whole)
      (first_left P (flat_map f (take (i + 1) xs)) (flat_map f (drop (i + 1) xs)) z
      (subst (λ ys. IsFirstFailing P ys z) (sym more) (first_right P (flat_map f (take i xs)) (f (get_or xs i d)) z before fails)))

-- the same where an element stands for one
module _ {A B : Type 0} (P : B → Type 0) (f : A → B) (xs : List A) (i : ℕ) (d : A) (l : i < length xs) where
  one_more : map f (take (i + 1) xs) ≡ map f (take i xs) ++ f (get_or xs i d) ∷ []
  one_more = ap (map f) (take_more xs i d l) ∙ map-append f (take i xs) (get_or xs i d ∷ [])

  pub each_more : EachHolds P (map f (take i xs)) → P (f (get_or xs i d)) → EachHolds P (map f (take (i + 1) xs))
  each_more before here =
      subst (EachHolds P) (sym one_more) (each_append P (map f (take i xs)) (f (get_or xs i d) ∷ []) before (each_one P (f (get_or xs i d)) here))

  pub first_at : EachHolds P (map f (take i xs)) → (P (f (get_or xs i d)) → ⊥) → IsFirstFailing P (map f xs) (f (get_or xs i d))
  first_at before fails =
      let x : B = f (get_or xs i d) in
      let whole : map f xs ≡ map f (take (i + 1) xs) ++ map f (drop (i + 1) xs) =
      ap (map f) (sym (take-append-drop (i + 1) xs)) ∙ map-append f (take (i + 1) xs) (drop (i + 1) xs) in
      subst (λ ys. IsFirstFailing P ys x) (sym whole)
      (first_left P (map f (take (i + 1) xs)) (map f (drop (i + 1) xs)) x
      (subst (λ ys. IsFirstFailing P ys x) (sym one_more) (first_right P (map f (take i xs)) (x ∷ []) x before (first_here P x [] fails))))

-- the elements up to the end are all
pub taken_whole : {A : Type 0} (xs : List A) (n : ℕ) → n ≡ length xs → take n xs ≡ xs
taken_whole xs n e = ap (λ k. take k xs) e ∙ take-length xs

-- ---- back to the parts

pub listed_each : {A : Type 0} (P : A → Type 0) (g : ℕ → List A) (count : ℕ) → EachHolds P (flat_map g (range_with_len 0 count)) → (n : ℕ) → n < count → EachHolds P (g n)
listed_each P g count h n l x m = h x (flat_map_in g x n (range_with_len 0 count) (in_range_below count n l) m)

pub each_left : {A : Type 0} (P : A → Type 0) (xs ys : List A) → EachHolds P (xs ++ ys) → EachHolds P xs
each_left P xs ys h x m = h x (append_in_left x xs ys m)

pub each_right : {A : Type 0} (P : A → Type 0) (xs ys : List A) → EachHolds P (xs ++ ys) → EachHolds P ys
each_right P xs ys h x m = h x (append_in_right x xs ys m)
