-- Laws of rows whose values stand one behind the other.
use Rattle.std.proofs.Common.{◌≡◌, ℕ, zero, suc, ◌+◌, ◌-◌, ◌*◌, ◌<◌, ◌≤◌, List, [], ◌∷◌, ◌++◌, get_or, length, map, take, drop, refl, sym, ap, subst, ◌∙◌, arith}
use Rattle.std.proofs.lemmas.List.{take-append-le, take-append-drop, drop-append-le, length-append, length-drop, length-take-le, take_all}
use Rattle.std.proofs.lemmas.List.Elements.{All-cons, All-nil}
use Rattle.std.proofs.Math.ListN.{drop_of_length-le}
use Rattle.std.proofs.Math.Nat.{suc-mul}
use Rattle.std.proofs.Math.Seq.{drop-append_seam, drop-drop, take-append_seam}
use Rattle.std.specs.List.{All, flat_map}
use Rattle.rc_spec.specs.RowEnds.{even_ends}
use Rattle.rc_spec.specs.RowEndsLaws.{length-even_ends, start_even}
use Rattle.rc_spec.specs.RowLists.{AreEnds, rows_from, rows_of_width}

pub length-rows_from : (start : ℕ) (ends values : List ℕ) → length (rows_from start ends values) ≡ length ends
length-rows_from start [] values = refl
length-rows_from start (end ∷ ends) values = ap suc (length-rows_from end ends values)

-- the first row begins within the values
pub start_within : (start : ℕ) (ends : List ℕ) (count : ℕ) → AreEnds start ends count → start ≤ count
start_within start [] count h = omega (arith, h)
start_within start (end ∷ ends) count h =
    let first = h.0 in
    let rest = start_within end ends count h.1 in
    omega (arith, first, rest)

-- a row begins where the one before ends, and no later than it ends itself; it ends within the values
pub ends_rise : (start : ℕ) (ends : List ℕ) (count at : ℕ) → AreEnds start ends count → at < length ends → get_or (start ∷ ends) at 0 ≤ get_or ends at 0
ends_rise start [] count at h l = absurd (omega (arith, l))
ends_rise start (end ∷ ends) count zero h l = h.0
ends_rise start (end ∷ ends) count (suc at) h l = ends_rise end ends count at h.1 (omega (arith, l))

pub end_within : (start : ℕ) (ends : List ℕ) (count at : ℕ) → AreEnds start ends count → at < length ends → get_or ends at 0 ≤ count
end_within start [] count at h l = absurd (omega (arith, l))
end_within start (end ∷ ends) count zero h l = start_within end ends count h.1
end_within start (end ∷ ends) count (suc at) h l = end_within end ends count at h.1 (omega (arith, l))

-- the last row ends where the values do
pub last_end : (start : ℕ) (ends : List ℕ) (count : ℕ) → AreEnds start ends count → get_or (start ∷ ends) (length ends) 0 ≡ count
last_end start [] count h = h
last_end start (end ∷ ends) count h = last_end end ends count h.1

-- the row at a place
pub row_at : (start : ℕ) (ends values : List ℕ) (at : ℕ) → at < length ends
    → get_or (rows_from start ends values) at [] ≡ take (get_or ends at 0 - get_or (start ∷ ends) at 0) (drop (get_or (start ∷ ends) at 0) values)
row_at start [] values at l = absurd (omega (arith, l))
row_at start (end ∷ ends) values zero l = refl
row_at start (end ∷ ends) values (suc at) l = row_at end ends values at (omega (arith, l))

-- the rows one behind the other are the values
pub rows_joined : (start : ℕ) (ends values : List ℕ) → AreEnds start ends (length values) → flat_map (λ row. row) (rows_from start ends values) ≡ drop start values
rows_joined start [] values h = sym (drop_of_length-le values (omega (arith, h)))
rows_joined start (end ∷ ends) values h =
    let rise = h.0 in
    let place : start + (end - start) ≡ end = omega (arith, rise) in
    ap (λ l. take (end - start) (drop start values) ++ l)
    (rows_joined end ends values h.1 ∙ sym (drop-drop (end - start) start values ∙ ap (λ n. drop n values) place))
    ∙ take-append-drop (end - start) (drop start values)

-- ---- one more row

pub AreEnds-push : (start : ℕ) (ends : List ℕ) (count more : ℕ) → AreEnds start ends count → count ≤ more → AreEnds start (ends ++ more ∷ []) more
AreEnds-push start [] count more h l = (omega (arith, h, l), refl)
AreEnds-push start (end ∷ ends) count more h l = (h.0, AreEnds-push end ends count more h.1 l)

-- a row that ends within the values isn't changed by more
take_within : (start end : ℕ) (values more : List ℕ) → start ≤ end → end ≤ length values → take (end - start) (drop start (values ++ more)) ≡ take (end - start) (drop start values)
take_within start end values more rise within =
    let left = length-drop start values in
    ap (take (end - start)) (drop-append-le start values more (omega (arith, rise, within)))
    ∙ take-append-le (end - start) (drop start values) more (omega (arith, left, rise, within))

last_row : (start : ℕ) (values row : List ℕ) (end : ℕ) → start ≡ length values → end ≡ length values + length row → take (end - start) (drop start (values ++ row)) ≡ row
last_row start values row end e f =
    ap (λ n. take (end - start) (drop n (values ++ row))) e
    ∙ ap (take (end - start)) (drop-append-le (length values) values row (omega arith) ∙ ap (λ l. l ++ row) (drop_of_length-le values (omega arith)))
    ∙ take_all (end - start) row (omega (arith, e, f))

pub rows_from-push : (start : ℕ) (ends values row : List ℕ) (end : ℕ) → AreEnds start ends (length values) → end ≡ length values + length row
    → rows_from start (ends ++ end ∷ []) (values ++ row) ≡ rows_from start ends values ++ row ∷ []
rows_from-push start [] values row end h e = ap (λ r. r ∷ []) (last_row start values row end h e)
rows_from-push start (next ∷ ends) values row end h e =
    ap (λ r. r ∷ rows_from next (ends ++ end ∷ []) (values ++ row)) (take_within start next values row h.0 (start_within next ends (length values) h.1))
    ∙ ap (λ rs. take (next - start) (drop start values) ∷ rs) (rows_from-push next ends values row end h.1 e)

-- ---- rows of one width

pub AreEnds-even : (start width rows : ℕ) → AreEnds start (even_ends start width rows) (start + rows * width)
AreEnds-even start width zero = omega arith
AreEnds-even start width (suc rows) =
    let one = suc-mul rows width in
    (omega arith, subst (AreEnds (start + width) (even_ends (start + width) width rows)) (omega (arith, one)) (AreEnds-even (start + width) width rows))

pub rows_from-even : (start width rows : ℕ) (values : List ℕ) → rows_from start (even_ends start width rows) values ≡ rows_of_width width rows (drop start values)
rows_from-even start width zero values = refl
rows_from-even start width (suc rows) values =
    let behind : List (List ℕ) = rows_from (start + width) (even_ends (start + width) width rows) values in
    let wide : start + width - start ≡ width = omega arith in
    ap (λ n. take n (drop start values) ∷ behind) wide
    ∙ ap (λ rs. take width (drop start values) ∷ rs)
    (rows_from-even (start + width) width rows values ∙ ap (rows_of_width width rows) (sym (drop-drop width start values)))

pub last_even : (width rows count : ℕ) → AreEnds 0 (even_ends 0 width rows) count → rows * width ≡ count
last_even width rows count h =
    let here = start_even 0 width rows rows (omega arith) in
    let end = last_end 0 (even_ends 0 width rows) count h in
    let ends = ap (λ n. get_or (0 ∷ even_ends 0 width rows) n 0) (length-even_ends 0 width rows) in
    omega (arith, here, end, ends)

-- so many rows of one width have it
pub even_width : (start width rows : ℕ) (values : List ℕ) → start + rows * width ≤ length values
    → All (λ row. length row ≡ width) (rows_from start (even_ends start width rows) values)
even_width start width zero values within = All-nil (λ row. length row ≡ width)
even_width start width (suc rows) values within =
    let one = suc-mul rows width in
    let wide : start + width - start ≡ width = omega arith in
    let behind = length-drop start values in
    All-cons (λ row. length row ≡ width) (take (start + width - start) (drop start values)) (rows_from (start + width) (even_ends (start + width) width rows) values)
    (length-take-le (start + width - start) (drop start values) (omega (arith, one, behind, within)) ∙ wide)
    (even_width (start + width) width rows values (omega (arith, one, within)))

-- a row of the width before so many
pub rows_of_width-row : (rows : ℕ) (row values : List ℕ) → rows_of_width (length row) (suc rows) (row ++ values) ≡ row ∷ rows_of_width (length row) rows values
rows_of_width-row rows row values =
    ap (λ r. r ∷ rows_of_width (length row) rows (drop (length row) (row ++ values))) (take-append_seam row values)
    ∙ ap (λ l. row ∷ rows_of_width (length row) rows l) (drop-append_seam row values)

-- a row of one width for each element of a list, and their values one behind the other
pub length-flat_map_width : {X : Type 0} (f : X → List ℕ) (width : ℕ) → ((x : X) → length (f x) ≡ width) → (xs : List X) → length (flat_map f xs) ≡ length xs * width
length-flat_map_width f width wide [] = omega arith
length-flat_map_width f width wide (x ∷ xs) =
    let rest = length-flat_map_width f width wide xs in
    let first = wide x in
    let both = length-append (f x) (flat_map f xs) in
    let one = suc-mul (length xs) width in
    omega (arith, rest, first, both, one)

pub rows_of_width-flat_map : {X : Type 0} (f : X → List ℕ) (width : ℕ) → ((x : X) → length (f x) ≡ width) → (xs : List X)
    → rows_of_width width (length xs) (flat_map f xs) ≡ map f xs
rows_of_width-flat_map f width wide [] = refl
rows_of_width-flat_map f width wide (x ∷ xs) =
    subst (λ w. rows_of_width w (length (x ∷ xs)) (flat_map f (x ∷ xs)) ≡ f x ∷ rows_of_width w (length xs) (flat_map f xs)) (wide x)
    (rows_of_width-row (length xs) (f x) (flat_map f xs))
    ∙ ap (λ rs. f x ∷ rs) (rows_of_width-flat_map f width wide xs)
