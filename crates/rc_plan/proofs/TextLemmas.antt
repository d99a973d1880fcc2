-- Lemmas of printed texts.
use Rattle.std.proofs.Common.{◌≡◌, ℕ, ◌+◌, ◌<◌, ◌≤◌, List, [], ◌∷◌, ◌++◌, Some, length, take, sym, ap, ◌∙◌, arith}
use Rattle.rc_plan.proofs.Imports.{slice_get, flat_map, take_more, append_assoc, append-nil, flat_map-append, get_or_from_slice_get, slice_get_within, slice_get_in, Within, in_range_bounds, Spec, all_columns}

-- a column of a set of the specification's
pub column_known : (spec : Spec) (cols : List ℕ) (place c : ℕ) → Within cols (all_columns spec) → slice_get cols place ≡ Some c → c < length spec.columns
column_known spec cols place c w e =
    let k : (0 ≤ c) × (c < 0 + length spec.columns) = in_range_bounds 0 (length spec.columns) c (w c (slice_get_in cols place c e)) in
    omega (arith, k.1)

-- what stands for one more element, behind a text and a word
pub text_more : {A : Type 0} (f : A → List ℕ) (text word : List ℕ) (xs : List A) (i : ℕ) (x : A) → slice_get xs i ≡ Some x
    → (text ++ (word ++ flat_map f (take i xs))) ++ f x ≡ text ++ (word ++ flat_map f (take (i + 1) xs))
text_more f text word xs i x e =
    append_assoc text (word ++ flat_map f (take i xs)) (f x)
    ∙ ap (λ l. text ++ l) (append_assoc word (flat_map f (take i xs)) (f x) ∙ ap (λ l. word ++ l) (sym more))
  where
    more : flat_map f (take (i + 1) xs) ≡ flat_map f (take i xs) ++ f x
    more =
        ap (flat_map f) (take_more xs i x (slice_get_within xs i x e) ∙ ap (λ y. take i xs ++ y ∷ []) (get_or_from_slice_get xs i x x e))
        ∙ flat_map-append f (take i xs) (x ∷ []) ∙ ap (λ l. flat_map f (take i xs) ++ l) (append-nil (f x))
