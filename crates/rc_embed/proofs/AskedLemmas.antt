-- The columns of operations.
use Rattle.std.proofs.Common.{◌≡◌, ℕ, ◌<◌, ◌≤◌, List, [], length, Some, None, ap, ◌∙◌, arith}
use Rattle.rc_embed.proofs.Imports.{length-map-range_with_len, get_or-map-range_with_len, slice_get-get_or, slice_get_past, Spec, written_columns_at, columns_of_all, known_columns}

-- each operation's columns are found by its number
pub columns_there : (spec : Spec) (op : ℕ) → op < length spec.ops → known_columns spec op ≡ Some (written_columns_at spec op)
columns_there spec op known =
    slice_get-get_or (columns_of_all spec) op [] (let count = length-map-range_with_len (written_columns_at spec) 0 (length spec.ops) in omega arith)
    ∙ ap (λ (cols : List ℕ). Some cols) (get_or-map-range_with_len (written_columns_at spec) 0 (length spec.ops) op op [] known (omega arith))

-- and there are no others
pub columns_past : (spec : Spec) (op : ℕ) → length spec.ops ≤ op → known_columns spec op ≡ None
columns_past spec op past =
    slice_get_past (columns_of_all spec) op (let count = length-map-range_with_len (written_columns_at spec) 0 (length spec.ops) in omega arith)
