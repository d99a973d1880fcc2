-- What lists of tests let through, and what they refuse for.
use Rattle.std.proofs.Common.{◌≡◌, Bool, true, false, List, [], ◌∷◌, Result, Ok, Err, refl, subst}
use Rattle.rc_reader.specs.Judging.{judged}

module _ {R X : Type 0} where
  abbrev ok : X → Result X R
  ok x = Ok x

  same_ok : (x y : X) → ok x ≡ ok y → x ≡ y
  same_ok x y e = cc

  abbrev err : R → Result X R
  err rule = Err rule

  same_err : (x y : R) → err x ≡ err y → x ≡ y
  same_err x y e = cc

-- no test fails
abbrev pub AllPass : {R : Type 0} → List (R × Bool) → Type 0
AllPass [] = Unit {0}
AllPass (test ∷ tests) = (test.1 ≡ false) × AllPass tests

-- what is let through was there, and failed no test
pub passed : {R X : Type 0} (tests : List (R × Bool)) (x y : X) → judged tests x ≡ Ok y → AllPass tests × (x ≡ y)
passed [] x y e = (tt, same_ok x y e)
passed ((rule, true) ∷ tests) x y e = absurd cc
passed ((rule, false) ∷ tests) x y e = let others = passed tests x y e in ((refl, others.0), others.1)

-- a fact of each rule of the tests
abbrev pub EachRule : {R : Type 0} → (R → Type 0) → List (R × Bool) → Type 0
EachRule P [] = Unit {0}
EachRule P (test ∷ tests) = P test.0 × EachRule P tests

-- what is refused is refused for a rule of the tests
pub refused : {R X : Type 0} (P : R → Type 0) (tests : List (R × Bool)) (x : X) (rule : R) → EachRule P tests
    → judged tests x ≡ Err rule → P rule
refused P [] x rule each e = absurd cc
refused P ((first, true) ∷ tests) x rule each e = subst P (same_err first rule e) each.0
refused P ((first, false) ∷ tests) x rule each e = refused P tests x rule each.1 e
