-- What `all` and `any` answer of a list, where the closure's answer says P of an element.
use Rattle.std.proofs.Common.{◌≡◌, ℕ, Bool, true, false, List, [], ◌∷◌, Option, ◌<◌, ◌↔◌, MatchBool, MatchOption, get_or, length, arith, refl}
use Rattle.rc_multi.proofs.Imports.{IsTrue, Called, YieldsThen, AllWithin, FoldsTo, HoldsAt, false≢true, YieldsList, cases_from_all, cases_from_any, In, get_or_in, in_from_places}
use denote.Param.Members.{Mut}

module _ {X : Type 0} (P : X → Type 0) where
  all_told : (r : Bool) (xs : List X) → MatchBool r (AllWithin P xs 0 (length xs)) ((k : ℕ) × (k < length xs) × HoldsAt (λ x. P x → ⊥) xs k)
      → IsTrue r ↔ ((x : X) → In x xs → P x)
  all_told true xs each = (λ t x m. in_from_places P x xs (λ i l. each i x (omega arith) l) x m, λ all. refl)
  all_told false [] some = absurd (omega (arith, some.1))
  all_told false (x ∷ xs) some = (
    λ t. absurd (false≢true t),
    λ all. absurd (some.2 x (all (get_or (x ∷ xs) some.0 x) (get_or_in (x ∷ xs) some.0 x some.1))),
  )

  any_told : (r : Bool) (xs : List X) → MatchBool r ((k : ℕ) × (k < length xs) × HoldsAt P xs k) (AllWithin (λ x. P x → ⊥) xs 0 (length xs))
      → IsTrue r ↔ ((x : X) × In x xs × P x)
  any_told true [] some = absurd (omega (arith, some.1))
  any_told true (x ∷ xs) some = (λ t. (get_or (x ∷ xs) some.0 x, get_or_in (x ∷ xs) some.0 x some.1, some.2 x), λ w. refl)
  any_told false xs none = (
    λ t. absurd (false≢true t),
    λ w. absurd (in_from_places (λ x. P x → ⊥) w.0 xs (λ i l. none i w.0 (omega arith) l) w.0 w.1 w.2),
  )

module _ {S A B F : Type 0} {steps : S → Option A → S → Type 0} {v : A → B} {g : Mut F (A × Unit {0}) Bool} {s : S} {xs : List B} (P : B → Type 0) (u : S) (f : F) (r : Bool) where
  pub all_said : (ys : List A) × (o : Option A) × (j : F) × YieldsThen steps s ys o u × FoldsTo (λ p x q. Called g p (x, tt) true q) f ys j × MatchOption o (r ≡ true) (λ x. (r ≡ false) × ((h : F) × Called g j (x, tt) false h))
      → YieldsList steps v s xs → ((x : A) (b : Bool) (q : F) → Called g f (x, tt) b q → (q ≡ f) × (IsTrue b ↔ P (v x))) → IsTrue r ↔ ((x : B) → In x xs → P x)
  all_said ran gives says =
      all_told P r xs (cases_from_all u f r P (λ x. P x → ⊥) ran gives (λ x q k. let it = says x true q k in (it.0, it.1.0 refl)) (λ x q k p. false≢true ((says x false q k).1.1 p)))

  pub any_said : (ys : List A) × (o : Option A) × (j : F) × YieldsThen steps s ys o u × FoldsTo (λ p x q. Called g p (x, tt) false q) f ys j × MatchOption o (r ≡ false) (λ x. (r ≡ true) × ((h : F) × Called g j (x, tt) true h))
      → YieldsList steps v s xs → ((x : A) (b : Bool) (q : F) → Called g f (x, tt) b q → (q ≡ f) × (IsTrue b ↔ P (v x))) → IsTrue r ↔ ((x : B) × In x xs × P x)
  any_said ran gives says =
      any_told P r xs (cases_from_any u f r P (λ x. P x → ⊥) ran gives (λ x q k. (says x true q k).1.0 refl) (λ x q k. let it = says x false q k in (it.0, λ p. false≢true (it.1.1 p))))
