-- Column sets: rising lists of column numbers below 32.
use Rattle.std.specs.Prelude.{ℕ, ◌+◌, ◌^◌, ◌<◌, Bool, not, ◌==◌, List, [], ◌∷◌, ◌++◌, length}
use Rattle.rc_tuple.specs.Imports.{filter, list_any, list_all, range_with_len, bit_at, nat_cmp}
use Rattle.rc_tuple.specs.RisingSet.{In, IsRising, put, gather}

-- whether the column is in the list
abbrev pub has : List ℕ → ℕ → Bool
has xs c = list_any (λ x. x == c) xs

pub record IsColSet (xs : List ℕ) : Type 0 where
  pub rising : IsRising nat_cmp xs
  pub below : (c : ℕ) → In c xs → c < 32

-- each column of the first is one of the second
abbrev pub Within : List ℕ → List ℕ → Type 0
Within xs ys = (c : ℕ) → In c xs → In c ys

-- the test of it
abbrev pub is_within : List ℕ → List ℕ → Bool
is_within xs ys = list_all (has ys) xs

abbrev pub with_column : List ℕ → ℕ → List ℕ
with_column xs c = put nat_cmp c xs

abbrev pub union : List ℕ → List ℕ → List ℕ
union xs ys = gather nat_cmp (xs ++ ys)

abbrev pub inter : List ℕ → List ℕ → List ℕ
inter xs ys = filter (has ys) xs

abbrev pub minus : List ℕ → List ℕ → List ℕ
minus xs ys = filter (λ c. not (has ys c)) xs

-- whether the column's bit is set in the mask
abbrev pub has_bit : ℕ → ℕ → Bool
has_bit mask c = bit_at mask c == 1

-- the columns whose bits are set in the mask
unfoldable pub columns_of : ℕ → List ℕ
columns_of mask = filter (has_bit mask) (range_with_len 0 32)

-- the mask with the bits of the columns
abbrev pub mask_of : List ℕ → ℕ
mask_of [] = 0
mask_of (x ∷ xs) = 2 ^ x + mask_of xs

-- how many columns of the set are below the column
abbrev pub rank : List ℕ → ℕ → ℕ
rank xs c = length (filter (has xs) (range_with_len 0 c))
