-- What becomes of the fragments of an instance where several change at once.
use Rattle.std.specs.Prelude.{◌≡◌, ℕ, zero, suc, List, [], ◌∷◌}
use Rattle.rc_instance.specs.Imports.{FragmentRows, no_rows, EdgeShape}

-- a fragment with no row
abbrev pub IsEmptyFragment : List EdgeShape → FragmentRows → Type 0
IsEmptyFragment shapes f = f ≡ no_rows shapes

-- the list with the element at a number changed, if there is one
abbrev pub with_at : {A : Type 0} → (A → A) → ℕ → List A → List A
with_at f n [] = []
with_at f zero (x ∷ xs) = f x ∷ xs
with_at f (suc n) (x ∷ xs) = x ∷ with_at f n xs

-- the list with the element at each of these numbers changed, one after the other
abbrev pub each_at : {A : Type 0} → (A → A) → List ℕ → List A → List A
each_at f [] xs = xs
each_at f (n ∷ ns) xs = each_at f ns (with_at f n xs)
