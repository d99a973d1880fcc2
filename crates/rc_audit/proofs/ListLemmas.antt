-- A list, parted at one of its places.
use Rattle.std.proofs.Common.{◌≡◌, ℕ, ◌+◌, ◌<◌, List, [], ◌∷◌, ◌++◌, drop, take, get_or, length, sym, ap, ◌∙◌}
use Rattle.std.proofs.lemmas.List.{append_assoc, drop_more, take-append-drop, take_more}

pub parted : {A : Type 0} (xs : List A) (i : ℕ) (d : A) → i < length xs → xs ≡ take i xs ++ get_or xs i d ∷ drop (i + 1) xs
parted xs i d within = sym (take-append-drop i xs) ∙ ap (λ l. take i xs ++ l) (drop_more xs i d within)

-- the first so many and one more, behind others
pub one_more : {A : Type 0} (ys xs : List A) (i : ℕ) (x d : A) → i < length xs → x ≡ get_or xs i d
    → (ys ++ take i xs) ++ x ∷ [] ≡ ys ++ take (i + 1) xs
one_more ys xs i x d within is =
    append_assoc ys (take i xs) (x ∷ [])
    ∙ ap (λ z. ys ++ (take i xs ++ z ∷ [])) is
    ∙ ap (λ l. ys ++ l) (sym (take_more xs i d within))
