-- The parts of the values of a call.
use Rattle.std.proofs.Common.{◌≡◌, ℕ, ◌*◌, ◌-◌, ◌<◌, ◌≤◌, List, [], length, take, drop, refl, sym, ap, ◌∙◌, arith}
use Rattle.rc_work.proofs.Imports.{option_map_or, take_at, take_rest, slice_get-get_or, Pairs, Call, Op, Range, Spec, no_op, op_at, range_columns, columns_at, ranges_at, twice, written_columns_at, length-written_columns_at, written_columns_at-parts}

-- the range columns of the operation that was found
pub ranges_found : (spec : Spec) (op : ℕ) (found : Op) (ranges : List ℕ) → op < length spec.ops → found ≡ op_at spec op → ranges ≡ range_columns found.kind
    → ranges ≡ ranges_at spec op
ranges_found spec op found ranges known is are =
    are ∙ ap (λ (o : Op). range_columns o.kind) is
    ∙ sym (ap (λ o. option_map_or (λ (x : Op). range_columns x.kind) o []) (slice_get-get_or spec.ops op no_op known))

module _ (spec : Spec) (op : ℕ) (cols ranges : List ℕ) (written : cols ≡ written_columns_at spec op) (are : ranges ≡ ranges_at spec op) where
  pub ranges_within : 2 * length ranges ≤ length cols
  ranges_within =
      omega (arith, ap (λ (l : List ℕ). length l) written, ap (λ (l : List ℕ). length l) are, length-written_columns_at spec op)

  pub count_given : length cols - 2 * length ranges ≡ length (columns_at spec op)
  count_given =
      omega (arith, ap (λ (l : List ℕ). length l) written, ap (λ (l : List ℕ). length l) are, length-written_columns_at spec op)

  pub columns_given : take (length cols - 2 * length ranges) cols ≡ columns_at spec op
  columns_given =
      ap (λ n. take n cols) count_given
      ∙ ap (take (length (columns_at spec op))) (written ∙ written_columns_at-parts spec op)
      ∙ take_at (columns_at spec op) (twice (ranges_at spec op)) (length (columns_at spec op)) refl

  pub bounds_left : (values : List ℕ) → take (length values - (length cols - 2 * length ranges)) (drop (length cols - 2 * length ranges) values)
      ≡ drop (length (columns_at spec op)) values
  bounds_left values = take_rest values (length cols - 2 * length ranges) ∙ ap (λ n. drop n values) count_given

pub same_call : (op : ℕ) (a b : Pairs) (r s : List Range) → a ≡ b → r ≡ s
    → (let x : Call = record { op = op; args = a; ranges = r } in let y : Call = record { op = op; args = b; ranges = s } in x ≡ y)
same_call op a b r s e f = λ i. record { op = op; args = e i; ranges = f i }
