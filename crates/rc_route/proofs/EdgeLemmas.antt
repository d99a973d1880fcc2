-- What was found of an edge by its number, and what its locks cost.
use Rattle.std.proofs.Common.{◌≡◌, ℕ, Bool, false, List, [], ◌∷◌, take, if◌then◌else◌, inl, inr, sym, ap, ◌∙◌, zero, suc}
use Rattle.rc_route.proofs.Imports.{In, is_within, union, Class, Spec, bound, edge_at, class_at, class_of, striping, lock_cost}

-- all stripes, where pattern and source have not all columns of the class
pub lock_all : (spec : Spec) (pattern : List ℕ) (e : ℕ) (class : Class) (from : ℕ) (source both : List ℕ) (found : Bool) → class_at spec (class_of spec e) ≡ class → from ≡ (edge_at spec e).from
    → source ≡ bound spec from → both ≡ union pattern source → found ≡ is_within class.cols both → found ≡ false → class.stripes ≡ lock_cost spec pattern e
lock_all spec pattern e class from source both found same of s b t f =
    let cols : both ≡ union pattern (bound spec (edge_at spec e).from) = b ∙ ap (union pattern) (s ∙ ap (bound spec) of) in
    let test : is_within (striping spec e) (union pattern (bound spec (edge_at spec e).from)) ≡ false =
    ap (λ z. is_within (striping spec e) z) (sym cols) ∙ ap (λ (k : Class). is_within k.cols both) same ∙ sym t ∙ f in
    sym (ap (λ z. if z then 1 else (class_at spec (class_of spec e)).stripes) test ∙ ap (λ (k : Class). k.stripes) same)

pub take_in : (xs : List ℕ) (i x : ℕ) → In x (take i xs) → In x xs
take_in xs zero x m = absurd m
take_in [] (suc i) x m = absurd m
take_in (y ∷ xs) (suc i) x (inl e) = inl e
take_in (y ∷ xs) (suc i) x (inr m) = inr (take_in xs i x m)
