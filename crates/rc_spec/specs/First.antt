-- The first of a list for which something does not hold.
use Rattle.std.specs.Prelude.{◌≡◌, List, ◌∷◌, ◌++◌, Result, Ok, Err}
use Rattle.rc_tuple.specs.RisingSet.{In}

abbrev pub EachHolds : {A : Type 0} → (A → Type 0) → List A → Type 0
EachHolds {A} P xs = (x : A) → In x xs → P x

-- P does not hold of x, and holds of each element before some place where x stands
pub record IsFirstFailing {A : Type 0} (P : A → Type 0) (xs : List A) (x : A) : Type 0 where
  pub before : List A
  pub after : List A
  pub place : xs ≡ before ++ x ∷ after
  pub earlier : EachHolds P before
  pub fails : P x → ⊥

-- an answer is Ok where P holds of each element, else the first of which it does not hold
abbrev pub Judges : {A B : Type 0} → (A → Type 0) → List A → Result B A → Type 0
Judges P xs (Ok value) = EachHolds P xs
Judges P xs (Err x) = IsFirstFailing P xs x
