-- The widest class over some columns: there is one, and it has them.
use Rattle.std.proofs.Common.{◌≡◌, ℕ, ◌+◌, ◌<◌, ◌≤◌, ◌&&◌, Bool, true, false, cond, not, nat_le, List, [], ◌∷◌, Option, None, Some, get_or, length, refl, sym, ap, ◌∙◌, subst, inl, inr, arith}
use Rattle.rc_inline.specs.Imports.{position, position_or_len, option_map_or, nat_cmp, In, get_or_in, in_list_all, list_all_in, nat_order, same_rising, IsColSet, is_within, test_from_within, within_from_test, Class, no_class}
use Rattle.std.proofs.lemmas.Bool.{and_from, and_parts, cases_Bool, cases_lt, cond-true, false≢true, le-leb, leb-true, lt-ltb, not-true, not_from_false, or_cases, or_left, or_right}
use Rattle.std.proofs.lemmas.List.Quantifiers.{position-Some}
use Rattle.rc_inline.specs.Placing.{is_no_wider, is_over, is_widest, widest}

-- ---- an element of a list that passes a test, and isn't below any other that does

module _ {A : Type 0} (p : A → Bool) (f : A → ℕ) where
  abbrev Greatest : List A → Type 0
  Greatest xs = (m : A) × In m xs × (p m ≡ true) × ((y : A) → In y xs → p y ≡ true → f y ≤ f m)

  -- with one more element, which isn't above the one that is known to pass
  beside : (b x : A) (xs : List A) → p b ≡ true → (p x ≡ true → f x ≤ f b) → Greatest (b ∷ xs) → Greatest (b ∷ (x ∷ xs))
  beside b x xs passes low g = (g.0, further g.1, g.2, most)
    where
      further : In g.0 (b ∷ xs) → In g.0 (b ∷ (x ∷ xs))
      further (inl q) = inl q
      further (inr m) = inr (inr m)

      most : (y : A) → In y (b ∷ (x ∷ xs)) → p y ≡ true → f y ≤ f g.0
      most y (inl q) k = g.3 y (inl q) k
      most y (inr (inl q)) k =
          let least = low (ap p (sym q) ∙ k) in
          let best = g.3 b (inl refl) passes in
          let same = ap f q in
          omega (arith, least, best, same)
      most y (inr (inr m)) k = g.3 y (inr m) k

  -- with one more element, which is above
  above : (b x : A) (xs : List A) → p x ≡ true → f b < f x → Greatest (x ∷ xs) → Greatest (b ∷ (x ∷ xs))
  above b x xs passes high g = (g.0, inr g.1, g.2, most)
    where
      most : (y : A) → In y (b ∷ (x ∷ xs)) → p y ≡ true → f y ≤ f g.0
      most y (inl q) k =
          let best = g.3 x (inl refl) passes in
          let same = ap f q in
          omega (arith, high, best, same)
      most y (inr m) k = g.3 y m k

  alone : (b y : A) → In y (b ∷ []) → f y ≤ f b
  alone b y (inl q) = let same = ap f q in omega (arith, same)
  alone b y (inr m) = absurd m

  greatest_with : (b : A) (xs : List A) → p b ≡ true → Greatest (b ∷ xs)
  greatest_with b [] passes = (b, inl refl, passes, λ y m k. alone b y m)
  greatest_with b (x ∷ xs) passes = go (p x) refl (greatest_with b xs passes) (greatest_with x xs)
    where
      go : (t : Bool) → p x ≡ t → Greatest (b ∷ xs) → (p x ≡ true → Greatest (x ∷ xs)) → Greatest (b ∷ (x ∷ xs))
      go false fails old new = beside b x xs passes (λ k. absurd (false≢true (sym fails ∙ k))) old
      go true also old new =
          elim (cases_lt (f b) (f x)) [ inl high ↦ above b x xs also high (new also) | inr low ↦ beside b x xs passes (λ k. low) old ]

  within : (b m : A) (xs : List A) → In b xs → In m (b ∷ xs) → In m xs
  within b m xs k (inl q) = subst (λ z. In z xs) (sym q) k
  within b m xs k (inr n) = n

  pub greatest : (b : A) (xs : List A) → In b xs → p b ≡ true → Greatest xs
  greatest b xs m passes =
      let g = greatest_with b xs passes in
      (g.0, within b g.0 xs m g.1, g.2, λ y k. g.3 y (inr k))

  -- ---- the first that passes

  passes_before : (x : A) (xs : List A) → In x xs → p x ≡ true → position_or_len p xs < length xs
  passes_before x [] m k = absurd m
  passes_before x (y ∷ ys) m k = go (p y) refl m (λ n. passes_before x ys n k)
    where
      go : (t : Bool) → p y ≡ t → In x (y ∷ ys) → (In x ys → position_or_len p ys < length ys) → cond (not t) (1 + position_or_len p ys) 0 < length (y ∷ ys)
      go true is m rest = omega arith
      go false is (inl q) rest = absurd (false≢true (sym is ∙ ap p (sym q) ∙ k))
      go false is (inr m) rest = let later = rest m in omega (arith, later)

  pub position_found : (x : A) (xs : List A) → In x xs → p x ≡ true → position p xs ≡ Some (position_or_len p xs)
  position_found x xs m k =
      cond-true _ (Some (position_or_len p xs)) None (lt-ltb (position_or_len p xs) (length xs) (passes_before x xs m k))

-- ---- columns

-- sets of columns that lie within each other are one
pub within_both : (xs ys : List ℕ) → IsColSet xs → IsColSet ys → (is_within xs ys && is_within ys xs) ≡ true → xs ≡ ys
within_both xs ys a b same =
    let parts = and_parts (is_within xs ys) (is_within ys xs) same in
    same_rising nat_cmp nat_order xs ys a.rising b.rising (within_from_test xs ys parts.0) (within_from_test ys xs parts.1)

over_its_own : (class : Class) → is_over class.cols class ≡ true
over_its_own class =
    let same = test_from_within class.cols class.cols (λ c m. m) in
    and_from (is_within class.cols class.cols) (is_within class.cols class.cols) same same

-- ---- the widest class

module _ (classes : List Class) (c : ℕ) (known : c < length classes) where
  abbrev class : Class
  class = get_or classes c no_class

  abbrev most : Class → Bool
  most = is_widest classes class.cols

  pub widest_known : widest classes c < length classes
  widest_known = go (position most classes) refl
    where
      go : (found : Option ℕ) → position most classes ≡ found → option_map_or (λ k. k) found c < length classes
      go None is = known
      go (Some k) is = (position-Some most classes k no_class is).0

  -- it has the columns
  pub widest_columns : ((other : Class) → In other classes → IsColSet other.cols) → (get_or classes (widest classes c) no_class).cols ≡ class.cols
  widest_columns sets = go (position most classes) refl
    where
      go : (found : Option ℕ) → position most classes ≡ found → (get_or classes (option_map_or (λ k. k) found c) no_class).cols ≡ class.cols
      go None is = refl
      go (Some k) is =
          let at = position-Some most classes k no_class is in
          let other = get_or classes k no_class in
          within_both other.cols class.cols (sets other (get_or_in classes k no_class at.0)) (sets class (get_or_in classes c no_class known))
          (and_parts (is_over class.cols other) _ at.1).0

  -- there is one
  pub has_widest : position most classes ≡ Some (position_or_len most classes)
  has_widest =
      let g = greatest (is_over class.cols) (λ (other : Class). other.stripes) class classes (get_or_in classes c no_class known) (over_its_own class) in
      let each : (other : Class) → In other classes → is_no_wider class.cols g.0 other ≡ true =
      λ other m. elim (cases_Bool (is_over class.cols other)) [
        | inl is ↦ or_right (not (is_over class.cols other)) (nat_le other.stripes g.0.stripes) (le-leb other.stripes g.0.stripes (g.3 other m is))
        | inr is ↦ or_left (not (is_over class.cols other)) (nat_le other.stripes g.0.stripes) (not_from_false (is_over class.cols other) is)
      ] in
      position_found most (λ (other : Class). other.stripes) g.0 classes g.1
      (and_from (is_over class.cols g.0) _ g.2 (in_list_all (is_no_wider class.cols g.0) classes each))

-- of classes with the same columns it is the same
pub one_widest : (classes : List Class) (c d : ℕ) → c < length classes → (get_or classes c no_class).cols ≡ (get_or classes d no_class).cols
    → widest classes c ≡ widest classes d
one_widest classes c d known same =
    let found = has_widest classes c known in
    ap (λ o. option_map_or (λ k. k) o c) found
    ∙ sym (ap (λ o. option_map_or (λ k. k) o d) (ap (λ cols. position (is_widest classes cols) classes) (sym same) ∙ found))

-- no class over the columns has more stripes
pub widest_most : (classes : List Class) (c : ℕ) → c < length classes → (other : Class) → In other classes
    → other.cols ≡ (get_or classes c no_class).cols → other.stripes ≤ (get_or classes (widest classes c) no_class).stripes
widest_most classes c known other m same =
    let cols = (get_or classes c no_class).cols in
    let most : Class → Bool = is_widest classes cols in
    let k = position_or_len most classes in
    let found = has_widest classes c known in
    let best = get_or classes k no_class in
    let all = (and_parts (is_over cols best) _ (position-Some most classes k no_class found).1).1 in
    let one = list_all_in (is_no_wider cols best) classes all other m in
    let over : is_over cols other ≡ true = subst (λ l. is_over l other ≡ true) same (over_its_own other) in
    subst (λ n. other.stripes ≤ (get_or classes n no_class).stripes) (sym (ap (λ o. option_map_or (λ k. k) o c) found))
    (elim (or_cases (not (is_over cols other)) (nat_le other.stripes best.stripes) one) [
      | inl out ↦ absurd (false≢true (sym (not-true _ out) ∙ over))
      | inr low ↦ leb-true other.stripes best.stripes low
    ])
