-- Rows are copied one behind the other.
use Rattle.std.proofs.Common.{◌≡◌, ℕ, ◌+◌, ◌-◌, ◌<◌, ◌≤◌, cond, List, [], ◌∷◌, ◌++◌, length, take, drop, get_or, sym, ap, ◌∙◌, arith}
use Rattle.rc_embed.proofs.Imports.{le-leb, flat_map-append, append-nil, append_assoc, drop-drop, drop_more, get_or-drop, length-append, length-drop, take_at, take_more, drop-append-add, count_fitting, joined}

-- the first row fits
count_more : (room : ℕ) (row : List ℕ) (rows : List (List ℕ)) → length row ≤ room
    → count_fitting room (row ∷ rows) ≡ count_fitting (room - length row) rows + 1
count_more room row rows fits =
    ap (λ b. cond b (count_fitting (room - length row) rows + 1) 0) (le-leb (length row) room fits)

-- so many rows are copied, up to the place where they end, and the others fit into what is left
pub record AreCopiedSo (rows : List (List ℕ)) (from : ℕ) (old : List ℕ) (at count filled : ℕ) (out : List ℕ) : Type 0 where
  pub place : at ≡ from + count
  pub within : filled ≤ length old
  pub so_far : filled ≡ length (joined (take count (drop from rows)))
  pub values : out ≡ joined (take count (drop from rows)) ++ drop filled old
  pub left : count_fitting (length old) (drop from rows) ≡ count + count_fitting (length old - filled) (drop at rows)

-- one row more, which is copied where the others end
module _ (rows : List (List ℕ)) (from at count filled end : ℕ) (row old out new : List ℕ)
    (place : at ≡ from + count) (below : at < length rows) (found : row ≡ get_or rows at [])
    (so_far : filled ≡ length (joined (take count (drop from rows)))) (within : filled ≤ length old)
    (values : out ≡ joined (take count (drop from rows)) ++ drop filled old)
    (ends : end ≡ filled + length row) (fits : end ≤ length out) (copied : new ≡ take filled out ++ (row ++ drop end out)) where
  abbrev before : List ℕ
  before = joined (take count (drop from rows))

  same_length : length out ≡ length old
  same_length =
      omega (arith, ap (λ (l : List ℕ). length l) values, length-append before (drop filled old), length-drop filled old, so_far, within)

  next_row : get_or (drop from rows) count [] ≡ row
  next_row = get_or-drop from rows count [] ∙ ap (λ k. get_or rows k []) (sym place) ∙ sym found

  joined_more : joined (take (count + 1) (drop from rows)) ≡ before ++ row
  joined_more =
      ap joined (take_more (drop from rows) count [] (omega (arith, length-drop from rows, place, below)))
      ∙ flat_map-append (λ (r : List ℕ). r) (take count (drop from rows)) (get_or (drop from rows) count [] ∷ [])
      ∙ ap (λ l. before ++ l) (append-nil (get_or (drop from rows) count []) ∙ next_row)

  next_place : at + 1 ≡ from + (count + 1)
  next_place = omega arith

  next_within : end ≤ length old
  next_within = omega (arith, same_length, fits)

  next_filled : end ≡ length (joined (take (count + 1) (drop from rows)))
  next_filled = omega (arith, ends, so_far, length-append before row, ap (λ (l : List ℕ). length l) joined_more)

  left_behind : drop end out ≡ drop end old
  left_behind =
      let at_end : end ≡ length before + length row = omega (arith, ends, so_far) in
      ap (drop end) values
      ∙ ap (λ n. drop n (before ++ drop filled old)) at_end
      ∙ drop-append-add before (drop filled old) (length row)
      ∙ drop-drop (length row) filled old
      ∙ ap (λ n. drop n old) (sym ends)

  next_values : new ≡ joined (take (count + 1) (drop from rows)) ++ drop end old
  next_values =
      copied
      ∙ ap (λ l. l ++ (row ++ drop end out)) (ap (take filled) values ∙ take_at before (drop filled old) filled (sym so_far))
      ∙ ap (λ l. before ++ (row ++ l)) left_behind
      ∙ sym (append_assoc before row (drop end old))
      ∙ ap (λ l. l ++ drop end old) (sym joined_more)

  next_left : count_fitting (length old) (drop from rows) ≡ count + count_fitting (length old - filled) (drop at rows)
      → count_fitting (length old) (drop from rows) ≡ count + 1 + count_fitting (length old - end) (drop (at + 1) rows)
  next_left left =
      let here : drop at rows ≡ row ∷ drop (at + 1) rows = drop_more rows at [] below ∙ ap (λ r. r ∷ drop (at + 1) rows) (sym found) in
      let more = count_more (length old - filled) row (drop (at + 1) rows) (omega (arith, next_within, ends)) in
      let room : length old - filled - length row ≡ length old - end = omega (arith, ends) in
      let behind : count_fitting (length old - filled) (drop at rows) ≡ count_fitting (length old - end) (drop (at + 1) rows) + 1 =
      ap (count_fitting (length old - filled)) here ∙ more ∙ ap (λ n. count_fitting n (drop (at + 1) rows) + 1) room in
      omega (arith, left, behind)

  pub one_row_more : count_fitting (length old) (drop from rows) ≡ count + count_fitting (length old - filled) (drop at rows)
      → AreCopiedSo rows from old (at + 1) (count + 1) end new
  one_row_more left = record { place = next_place; within = next_within; so_far = next_filled; values = next_values; left = next_left left }
