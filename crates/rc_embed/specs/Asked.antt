-- What a caller asks for: calls, each an operation by its number, with plain numbers as values.
use Rattle.std.specs.Prelude.{◌≡◌, ℕ, ◌<◌, List, [], ◌∷◌, length, map, Option}
use Rattle.rc_embed.specs.Imports.{range_with_len, slice_get, Call, Spec, call_of, written_columns_at}

-- a call that is asked for, or what is declared of an operation: its number, how many values there are, and they
pub record AskedCall : Type 0 where
  pub op : ℕ
  pub count : ℕ
  pub values : List ℕ

-- that with these values
abbrev pub asked_with : ℕ → List ℕ → AskedCall
asked_with op values = record { op = op; count = length values; values = values }

-- a call that is asked for alone
abbrev pub one_call : ℕ → List ℕ → List AskedCall
one_call op values = asked_with op values ∷ []

-- the calls that they are by a specification
abbrev pub calls_by : Spec → List AskedCall → List Call
calls_by spec asked = map (λ call. call_of spec call.op call.values) asked

-- the operation is one of the specification's, and there is a value for each of its columns
pub record TakesValues (spec : Spec) (op : ℕ) (values : List ℕ) : Type 0 where
  pub known : op < length spec.ops
  pub count : length values ≡ length (written_columns_at spec op)

-- the columns of each operation's values, by its number, a range column twice
abbrev pub columns_of_all : Spec → List (List ℕ)
columns_of_all spec = map (written_columns_at spec) (range_with_len 0 (length spec.ops))

-- those of the operation with this number, where there is one
abbrev pub known_columns : Spec → ℕ → Option (List ℕ)
known_columns spec op = slice_get (columns_of_all spec) op
