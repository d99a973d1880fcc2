-- The columns to which calls give values, and the call that values make.
use Rattle.std.specs.Prelude.{ℕ, ◌≤◌, List, [], ◌∷◌, ◌++◌, length, take, drop}
use Rattle.rc_work.specs.Imports.{flat_map, slice_get, option_map_or, In, AreDistinct, tuple_of, value_columns, IsOpAmong, range_columns, Call, Op, Range, Spec}

-- those of the tuple that a call of the operation with this number gives
abbrev pub columns_at : Spec → ℕ → List ℕ
columns_at spec number = option_map_or (λ op. value_columns spec op.pattern op.kind) (slice_get spec.ops number) []

-- those for which it gives bounds
abbrev pub ranges_at : Spec → ℕ → List ℕ
ranges_at spec number = option_map_or (λ op. range_columns op.kind) (slice_get spec.ops number) []

-- each column twice
abbrev pub twice : List ℕ → List ℕ
twice cols = flat_map (λ c. c ∷ c ∷ []) cols

-- the columns of the values that a call is written with: those of its tuple, and then each range column twice, for its bounds
abbrev pub written_columns : Spec → Op → List ℕ
written_columns spec op = value_columns spec op.pattern op.kind ++ twice (range_columns op.kind)

-- so of a call of the operation with this number, in the order in which it gives their values
abbrev pub written_columns_at : Spec → ℕ → List ℕ
written_columns_at spec number = option_map_or (written_columns spec) (slice_get spec.ops number) []

-- the ranges of some columns, with a lower and an upper bound for each
abbrev pub ranges_of : List ℕ → List ℕ → List Range
ranges_of (c ∷ cols) (lo ∷ hi ∷ bounds) = record { col = c; lo = lo; hi = hi } ∷ ranges_of cols bounds
ranges_of cols bounds = []

-- the call that an operation's number and the values make
abbrev pub call_of : Spec → ℕ → List ℕ → Call
call_of spec op values = record {
  op = op;
  args = tuple_of (columns_at spec op) (take (length (columns_at spec op)) values);
  ranges = ranges_of (ranges_at spec op) (drop (length (columns_at spec op)) values);
}

-- no operation's pattern and ranges name a column twice
abbrev pub HasDistinctColumns : Spec → Type 0
HasDistinctColumns spec = (op : Op) → In op spec.ops → AreDistinct (op.pattern ++ range_columns op.kind)

-- the columns of each operation are the specification's, of which there are at most 32, and it names none twice
pub record HasKnownColumns (spec : Spec) : Type 0 where
  pub few : length spec.columns ≤ 32
  pub among : (op : Op) → In op spec.ops → IsOpAmong (length spec.columns) op
  pub distinct : HasDistinctColumns spec
