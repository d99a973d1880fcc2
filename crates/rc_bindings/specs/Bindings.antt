-- Bindings: tuples over the same columns, in registers that lie one behind the other.
use Rattle.std.specs.Prelude.{◌≡◌, ◌⊎◌, ℕ, zero, suc, ◌<◌, ◌≤◌, ◌∷◌, ◌++◌, ◌^◌, List, [], take, drop, length}
use Rattle.rc_bindings.specs.Imports.{zip, Within, In, Pairs, project, IsSetBelow}
use Rattle.rc_bindings.specs.Registers.{tuple_in, values_of}

-- what is seen of one binding: its columns, which are below the width, and the tuple
pub record OneBinding : Type 0 where
  pub columns : List ℕ
  pub width : ℕ
  pub tuple : Pairs

abbrev pub seen_one : List ℕ → List ℕ → OneBinding
seen_one cols registers = record { columns = cols; width = length registers; tuple = tuple_in cols registers }

-- columns below the width of their registers, which are words of 64 bits
pub record IsBinding (cols registers : List ℕ) : Type 0 where
  pub columns : IsSetBelow (length registers) cols
  pub few : length registers ≤ 32
  pub words : (v : ℕ) → In v registers → v < 2 ^ 64

-- and of several
pub record BindingList : Type 0 where
  pub columns : List ℕ
  pub width : ℕ
  pub tuples : List Pairs

-- so many rows of a width, and nothing behind them
abbrev pub AreRows : ℕ → ℕ → List ℕ → Type 0
AreRows width zero registers = registers ≡ []
AreRows width (suc n) registers = (width ≤ length registers) × AreRows width n (drop width registers)

-- the tuples of the rows
abbrev pub tuples_in : List ℕ → ℕ → ℕ → List ℕ → List Pairs
tuples_in cols width zero registers = []
tuples_in cols width (suc n) registers = tuple_in cols (take width registers) ∷ tuples_in cols width n (drop width registers)

abbrev pub seen_list : List ℕ → ℕ → ℕ → List ℕ → BindingList
seen_list cols width count registers = record { columns = cols; width = width; tuples = tuples_in cols width count registers }

-- rows of a width, and columns below it
pub record AreBindings (cols : List ℕ) (width count : ℕ) (registers : List ℕ) : Type 0 where
  pub columns : IsSetBelow width cols
  pub some : 0 < width
  pub few : width ≤ 32
  pub rows : AreRows width count registers

-- no binding, over these columns
abbrev pub no_binding : List ℕ → ℕ → BindingList
no_binding cols width = record { columns = cols; width = width; tuples = [] }

-- the same columns and other tuples
abbrev pub with_tuples : BindingList → List Pairs → BindingList
with_tuples b ts = record { columns = b.columns; width = b.width; tuples = ts }

-- the list has so many more numbers at its end
pub record HasMore (n : ℕ) (old new : List ℕ) : Type 0 where
  pub more : List ℕ
  pub count : length more ≡ n
  pub beside : new ≡ old ++ more

-- ---- a row by its values

-- the pairs of a row that a call is given: the values of the key, and those of the extra columns
abbrev pub given : List ℕ → List ℕ → List ℕ → List ℕ → Pairs
given key key_values extra extra_values = zip key key_values ++ zip extra extra_values

-- the row has the pairs, and beside them none but the binding's
pub record IsRowWith (b ps row : Pairs) : Type 0 where
  pub has : (p : ℕ × ℕ) → In p ps → In p row
  pub only : (p : ℕ × ℕ) → In p row → In p b ⊎ In p ps

-- a row's values at the columns of the key, and then those at the extra ones
abbrev pub key_and_extra : List ℕ → List ℕ → Pairs → List ℕ
key_and_extra key extra row = values_of (project key row) ++ values_of (project extra row)

-- the row is given by these values: it has one for each of the columns, and its other pairs are the binding's
pub record IsGivenBy (b : Pairs) (key extra : List ℕ) (row : Pairs) : Type 0 where
  pub keys : length (values_of (project key row)) ≡ length key
  pub extras : length (values_of (project extra row)) ≡ length extra
  pub with : IsRowWith b (given key (values_of (project key row)) extra (values_of (project extra row))) row

-- the list is one for the merges of the binding with rows that are given by values of these columns
pub record TakesRows (b : OneBinding) (key extra : List ℕ) (list : BindingList) : Type 0 where
  pub width : b.width ≡ list.width
  pub old_within : Within b.columns list.columns
  pub key_within : Within key list.columns
  pub extra_within : Within extra list.columns
  pub parts : (c : ℕ) → In c list.columns → In c b.columns ⊎ In c (key ++ extra)
  pub apart : (c : ℕ) → In c key → In c extra → ⊥
