-- A tuple in registers: a value for each column below a width, of which those of some columns count.
use Rattle.std.specs.Prelude.{ℕ, ◌==◌, ◌||◌, Bool, not, List, [], ◌∷◌, filter, get_or, map, set}
use Rattle.rc_bindings.specs.Imports.{list_all, range_with_len, has, Pairs}

-- the value in the register of a column
abbrev pub register : List ℕ → ℕ → ℕ
register values c = get_or values c 0

-- the tuple that the registers have at the columns
abbrev pub tuple_in : List ℕ → List ℕ → Pairs
tuple_in cols values = map (λ c. (c, register values c)) cols

-- the registers in which the pairs are written, each value in that of its column
abbrev pub all_written : Pairs → List ℕ → List ℕ
all_written [] values = values
all_written (p ∷ ps) values = all_written ps (set values p.0 p.1)

-- whether the registers have the pair's value, where its column counts
abbrev pub fits : List ℕ → List ℕ → ℕ × ℕ → Bool
fits cols values p = not (has cols p.0) || register values p.0 == p.1

-- whether they have the values of all pairs whose columns count
abbrev pub fits_all : List ℕ → List ℕ → Pairs → Bool
fits_all cols values ps = list_all (fits cols values) ps

-- the columns of a set that are below a number
abbrev pub columns_below : List ℕ → ℕ → List ℕ
columns_below cols n = filter (has cols) (range_with_len 0 n)

-- the values of a tuple, in column order
abbrev pub values_of : Pairs → List ℕ
values_of t = map (λ p. p.1) t
