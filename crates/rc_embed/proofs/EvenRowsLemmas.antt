-- Rows that have as many values each, one behind the other.
use Rattle.std.proofs.Common.{◌≡◌, ℕ, zero, suc, ◌+◌, ◌-◌, ◌*◌, ◌/◌, min, ◌<◌, ◌≤◌, ◌⊎◌, inl, inr, cond, List, [], ◌∷◌, ◌++◌, length, take, drop, sym, ap, subst, ◌∙◌, arith}
use Rattle.std.specs.List.{All, AllByRecursion}
use Rattle.std.proofs.lemmas.Bool.{le-leb, lt-leb}
use Rattle.std.proofs.lemmas.Bool.Decides.{leb_tells}
use Rattle.std.proofs.lemmas.List.{length-append, length-drop, length-take-le}
use Rattle.std.proofs.Math.Seq.{drop-append-add, take-append-add}
use Rattle.std.proofs.lemmas.List.Elements.{recursion_from_All}
use Rattle.std.proofs.Math.Nat.{div-mul-le_self, lt-div-mul-add, min-eq_left, min-eq_right, min-le_left, min-le_right, mul-le-mul_right, suc-mul}
use Rattle.rc_embed.specs.Replies.{AreCopied, count_fitting, joined}

abbrev AreEven : ℕ → List (List ℕ) → Type 0
AreEven width rows = AllByRecursion (λ (row : List ℕ). length row ≡ width) rows

pub length-joined : (width : ℕ) (rows : List (List ℕ)) → AreEven width rows → length (joined rows) ≡ length rows * width
length-joined width [] even = omega arith
length-joined width (row ∷ rows) even =
    let first = even.0 in
    let rest = length-joined width rows even.1 in
    omega (arith, first, rest, length-append row (joined rows), suc-mul (length rows) width)

drop-joined : (width n : ℕ) (rows : List (List ℕ)) → AreEven width rows → n ≤ length rows → drop (n * width) (joined rows) ≡ joined (drop n rows)
drop-joined width zero rows even within = let none : zero * width ≡ zero = omega arith in ap (λ k. drop k (joined rows)) none
drop-joined width (suc n) [] even within = absurd (omega arith)
drop-joined width (suc n) (row ∷ rows) even within =
    let first = even.0 in
    let place : suc n * width ≡ length row + n * width = omega (arith, first, suc-mul n width) in
    ap (λ k. drop k (row ++ joined rows)) place ∙ drop-append-add row (joined rows) (n * width) ∙ drop-joined width n rows even.1 (omega (arith, within))

take-joined : (width n : ℕ) (rows : List (List ℕ)) → AreEven width rows → n ≤ length rows → take (n * width) (joined rows) ≡ joined (take n rows)
take-joined width zero rows even within = let none : zero * width ≡ zero = omega arith in ap (λ k. take k (joined rows)) none
take-joined width (suc n) [] even within = absurd (omega arith)
take-joined width (suc n) (row ∷ rows) even within =
    let first = even.0 in
    let place : suc n * width ≡ length row + n * width = omega (arith, first, suc-mul n width) in
    ap (λ k. take k (row ++ joined rows)) place ∙ take-append-add row (joined rows) (n * width) ∙ ap (λ l. row ++ l) (take-joined width n rows even.1 (omega (arith, within)))

-- all rows fit, or no more than so many
fitting : (width room : ℕ) (rows : List (List ℕ)) (n : ℕ) → AreEven width rows → n ≤ length rows → n * width ≤ room → (n ≡ length rows) ⊎ (room < n * width + width)
    → n ≡ count_fitting room rows
fitting width room [] n even within fits last = omega (arith, within)
fitting width room (row ∷ rows) zero even within fits last = elim last [
  | inl all ↦ absurd (omega (arith, all))
  | inr full ↦
      let first = even.0 in
      let over : room < length row = omega (arith, first, full) in
      sym (ap (λ b. cond b (count_fitting (room - length row) rows + 1) 0) (lt-leb (length row) room over))
]
fitting width room (row ∷ rows) (suc n) even within fits last =
    let first = even.0 in
    let more = suc-mul n width in
    let here : length row ≤ room = omega (arith, first, more, fits) in
    let behind : n ≡ count_fitting (room - length row) rows =
    fitting width (room - length row) rows n even.1 (omega (arith, within)) (omega (arith, first, more, fits)) (elim last [
      | inl all ↦ inl (omega (arith, all))
      | inr full ↦ inr (omega (arith, first, more, full))
    ]) in
    omega (arith, behind) ∙ sym (ap (λ b. cond b (count_fitting (room - length row) rows + 1) 0) (le-leb (length row) room here))

-- how many rows behind a place are copied, over so many values
pub record IsPiece (width from : ℕ) (rows : List (List ℕ)) (room count : ℕ) : Type 0 where
  pub even : AreEven width rows
  pub within : from + count ≤ length rows
  pub fits : count * width ≤ room
  pub last : (count ≡ length rows - from) ⊎ (room < count * width + width)

even_drop : (width n : ℕ) (rows : List (List ℕ)) → AreEven width rows → AreEven width (drop n rows)
even_drop width zero rows even = even
even_drop width (suc n) [] even = tt
even_drop width (suc n) (row ∷ rows) even = even_drop width n rows even.1

even_take : (width n : ℕ) (rows : List (List ℕ)) → AreEven width rows → AreEven width (take n rows)
even_take width zero rows even = tt
even_take width (suc n) [] even = tt
even_take width (suc n) (row ∷ rows) even = (even.0, even_take width n rows even.1)

-- they lie within the values
pub piece_within : (width from : ℕ) (rows : List (List ℕ)) (room count : ℕ) → IsPiece width from rows room count
    → from * width + count * width ≤ length (joined rows)
piece_within width from rows room count is =
    let below : from ≤ length rows = omega (arith, is.within) in
    let start : from * width ≤ length rows * width = mul-le-mul_right width below in
    let left = length-drop from rows in
    let behind = ap length (drop-joined width from rows is.even below) in
    let rest = length-drop (from * width) (joined rows) in
    let size : count * width ≤ length (drop from rows) * width = mul-le-mul_right width (omega (arith, left, is.within)) in
    omega (arith, length-joined width rows is.even, start, behind, rest, length-joined width (drop from rows) (even_drop width from rows is.even), size)

pub piece_copied : (width from : ℕ) (rows : List (List ℕ)) (old new : List ℕ) (count : ℕ) → IsPiece width from rows (length old) count
    → new ≡ take (count * width) (drop (from * width) (joined rows)) ++ drop (count * width) old → AreCopied (drop from rows) old new count
piece_copied width from rows old new count is copied =
    let left = length-drop from rows in
    let even : AreEven width (drop from rows) = even_drop width from rows is.even in
    let within : count ≤ length (drop from rows) = omega (arith, left, is.within) in
    let taken : take (count * width) (drop (from * width) (joined rows)) ≡ joined (take count (drop from rows)) =
    ap (take (count * width)) (drop-joined width from rows is.even (omega (arith, is.within))) ∙ take-joined width count (drop from rows) even within in
    let size : count * width ≡ length (joined (take count (drop from rows))) =
    ap (λ n. n * width) (sym (length-take-le count (drop from rows) within)) ∙ sym (length-joined width (take count (drop from rows)) (even_take width count (drop from rows) even)) in
    record {
      fits = fitting width (length old) (drop from rows) count even within is.fits (elim is.last [ inl all ↦ inl (omega (arith, left, all)) | inr full ↦ inr full ]);
      values = copied ∙ ap (λ l. l ++ drop (count * width) old) taken ∙ ap (λ n. joined (take count (drop from rows)) ++ drop n old) size;
    }

-- as many as there are, or as there is room for
pub piece_of : (width from : ℕ) (rows : List (List ℕ)) (room count : ℕ) → 0 < width → All (λ row. length row ≡ width) rows → from < length rows
    → count ≡ min (length rows - from) (room / width) → IsPiece width from rows room count
piece_of width from rows room count some even below is =
    let left = min-le_left (length rows - from) (room / width) in
    let right = min-le_right (length rows - from) (room / width) in
    let whole : count * width ≤ room / width * width = mul-le-mul_right width (omega (arith, is, right)) in
    record {
      even = recursion_from_All (λ row. length row ≡ width) rows even;
      within = omega (arith, is, left, below);
      fits = omega (arith, whole, div-mul-le_self room width);
      last = elim (leb_tells (length rows - from) (room / width)) [
        | inl all ↦ inl (is ∙ min-eq_left all.1)
        | inr full ↦
            let most : count ≡ room / width = is ∙ min-eq_right (omega (arith, full.1)) in
            inr (subst (λ n. room < n * width + width) (sym most) (lt-div-mul-add some))
      ];
    }
