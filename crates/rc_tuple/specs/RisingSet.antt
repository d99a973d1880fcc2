-- Sets as rising lists: a list in which each element is below every later one by an order R.
use Rattle.std.specs.Prelude.{◌≡◌, ℕ, ◌≤◌, List, [], ◌∷◌, ◌⊎◌, Option, Some, None, length}
use Rattle.rc_tuple.specs.Imports.{insert, Ordering, Less, match_ordering}

-- x is an element of the list
abbrev pub In : {A : Type 0} → A → List A → Type 0
In x [] = ⊥
In x (y ∷ ys) = (x ≡ y) ⊎ In x ys

-- each element is below every later one
abbrev pub IsRising : {A : Type 0} → (A → A → Ordering) → List A → Type 0
IsRising R [] = Unit {0}
IsRising {A} R (x ∷ xs) = ((y : A) → In y xs → R x y ≡ Less) × IsRising R xs

-- the rising list with one more element, which may stand in it already
abbrev pub put : {A : Type 0} → (A → A → Ordering) → A → List A → List A
put R x [] = x ∷ []
put R x (y ∷ ys) = match_ordering (R x y) (x ∷ (y ∷ ys)) (y ∷ ys) (y ∷ put R x ys)

-- the rising list of the elements of a list, each once
abbrev pub gather : {A : Type 0} → (A → A → Ordering) → List A → List A
gather R [] = []
gather R (x ∷ xs) = put R x (gather R xs)

-- each element differs from every later one
abbrev pub AreDistinct : {A : Type 0} → List A → Type 0
AreDistinct [] = Unit {0}
AreDistinct (x ∷ xs) = (In x xs → ⊥) × AreDistinct xs

-- where one more element goes in a rising list, or none where it stands in it
abbrev pub IsPlace : {A : Type 0} → (A → A → Ordering) → A → List A → Option ℕ → Type 0
IsPlace R x xs None = put R x xs ≡ xs
IsPlace R x xs (Some at) = (at ≤ length xs) × (put R x xs ≡ insert xs at x)
