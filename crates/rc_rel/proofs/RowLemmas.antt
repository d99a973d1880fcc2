-- Rows put into a set of rows.
use Rattle.std.proofs.Common.{◌≡◌, ℕ, ◌+◌, ◌<◌, Bool, true, false, cond, List, [], ◌∷◌, ◌++◌, length, map, take, get_or, sym, ap, ◌∙◌}
use Rattle.rc_rel.proofs.Imports.{filter, map-append, append-nil, filter_more, put, gather, gather_more, number_lists_order, Pairs, pick, row_cmp, rows_of}

-- one more tuple, which matches or not
rows_cond : (outs : List ℕ) (front : List Pairs) (t : Pairs) (b : Bool) → rows_of outs (front ++ cond b (t ∷ []) []) ≡ cond b (put row_cmp (pick outs t) (rows_of outs front)) (rows_of outs front)
rows_cond outs front t true = ap (gather row_cmp) (map-append (pick outs) front (t ∷ [])) ∙ gather_more row_cmp number_lists_order (map (pick outs) front) (pick outs t)
rows_cond outs front t false = ap (rows_of outs) (append-nil front)

pub rows_more : (p : Pairs → Bool) (outs : List ℕ) (r : List Pairs) (i : ℕ) (d : Pairs) → i < length r
    → rows_of outs (filter p (take (i + 1) r)) ≡ cond (p (get_or r i d)) (put row_cmp (pick outs (get_or r i d)) (rows_of outs (filter p (take i r)))) (rows_of outs (filter p (take i r)))
rows_more p outs r i d h = ap (rows_of outs) (filter_more p r i d h) ∙ rows_cond outs (filter p (take i r)) (get_or r i d) (p (get_or r i d))

pub row_put : (p : Pairs → Bool) (outs : List ℕ) (r : List Pairs) (i : ℕ) (t : Pairs) (rows : List (List ℕ)) → i < length r → t ≡ get_or r i t → p t ≡ true
    → rows ≡ rows_of outs (filter p (take i r)) → put row_cmp (pick outs t) rows ≡ rows_of outs (filter p (take (i + 1) r))
row_put p outs r i t rows h e y so =
    ap (put row_cmp (pick outs t)) so ∙ sym (ap (λ b. cond b (put row_cmp (pick outs t) (rows_of outs (filter p (take i r)))) (rows_of outs (filter p (take i r)))) y)
    ∙ ap (λ x. cond (p x) (put row_cmp (pick outs x) (rows_of outs (filter p (take i r)))) (rows_of outs (filter p (take i r)))) e
    ∙ sym (rows_more p outs r i t h)

pub row_left : (p : Pairs → Bool) (outs : List ℕ) (r : List Pairs) (i : ℕ) (t : Pairs) (rows : List (List ℕ)) → i < length r → t ≡ get_or r i t → p t ≡ false
    → rows ≡ rows_of outs (filter p (take i r)) → rows ≡ rows_of outs (filter p (take (i + 1) r))
row_left p outs r i t rows h e y so =
    so ∙ sym (ap (λ b. cond b (put row_cmp (pick outs t) (rows_of outs (filter p (take i r)))) (rows_of outs (filter p (take i r)))) y)
    ∙ ap (λ x. cond (p x) (put row_cmp (pick outs x) (rows_of outs (filter p (take i r)))) (rows_of outs (filter p (take i r)))) e
    ∙ sym (rows_more p outs r i t h)
