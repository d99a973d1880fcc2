-- Where the rows of a list end.
use Rattle.std.specs.Prelude.{◌<◌, ◌+◌, ◌*◌, ◌^◌, ◌∷◌, ℕ, zero, suc, List, []}
use Rattle.rc_spec.specs.declared.row_ends.Ends.{Ends}
use Rattle.rc_spec.specs.declared.row_ends.Ends.TheVariants.{Even, Each}

-- the ends of so many rows of one width, of which the first begins at a place
abbrev pub even_ends : ℕ → ℕ → ℕ → List ℕ
even_ends start width zero = []
even_ends start width (suc rows) = (start + width) ∷ even_ends (start + width) width rows

abbrev pub ends_of : Ends → List ℕ
ends_of (Even rows width) = even_ends 0 width rows
ends_of (Each ends) = ends.items

-- the end of the last row is a number of the machine
abbrev pub AreInRange : Ends → Type 0
AreInRange (Even rows width) = rows * width < 2 ^ 64
AreInRange (Each ends) = Unit {0}
