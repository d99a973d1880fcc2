-- Rows put into a set of rows.
use Rattle.std.proofs.Common.{◌≡◌, ℕ, List, [], ◌∷◌, map, refl, ap, Vec, Global}
use Rattle.rc_spec.specs.Imports.{Ordering, Less, Equal, Greater, nat_cmp, match_ordering, slice_cmp, insert_key, put}
use Rattle.rc_spec.specs.Plain.{row_cmp}

-- the order of the vectors is that of their lists
abbrev pub vec_cmp : Vec ℕ Global → Vec ℕ Global → Ordering
vec_cmp v w = slice_cmp nat_cmp v.items w.items

pub rows_in-insert : (key : Vec ℕ Global) (keys : List (Vec ℕ Global)) → map (λ row. row.items) (insert_key vec_cmp keys key) ≡ put row_cmp key.items (map (λ row. row.items) keys)
rows_in-insert key [] = refl
rows_in-insert key (k ∷ keys) = go (vec_cmp key k) (rows_in-insert key keys)
  where
    go : (o : Ordering) → map (λ row. row.items) (insert_key vec_cmp keys key) ≡ put row_cmp key.items (map (λ row. row.items) keys)
        → map (λ row. row.items) (match_ordering o (key ∷ (k ∷ keys)) (k ∷ keys) (k ∷ insert_key vec_cmp keys key))
        ≡ match_ordering o (key.items ∷ (k.items ∷ map (λ row. row.items) keys)) (k.items ∷ map (λ row. row.items) keys) (k.items ∷ put row_cmp key.items (map (λ row. row.items) keys))
    go Less h = refl
    go Equal h = refl
    go Greater h = ap (λ l. k.items ∷ l) h
