-- Laws of the columns to which calls give values.
use Rattle.std.proofs.Common.{◌≡◌, ℕ, ◌+◌, ◌*◌, ◌<◌, ◌≤◌, List, [], ◌∷◌, ◌++◌, Option, Some, None, length, inl, inr, refl, ap, arith}
use Rattle.rc_work.specs.Imports.{slice_get, option_map_or, nat_cmp, In, IsRising, AreDistinct, distinct_left, in_append, nat_order, not_below_itself, slice_get_in, in_range_bounds, rising_range, value_columns, AreBelow, IsInRange, IsWellNamed, range_columns, Op, OpKind, Query, Insert, Remove, Update, Spec}
use Rattle.std.proofs.lemmas.List.{length-append}
use Rattle.std.proofs.lemmas.List.FromFn.{length-range_with_len}
use Rattle.rc_work.specs.CallColumns.{HasDistinctColumns, HasKnownColumns, columns_at, ranges_at, twice, written_columns, written_columns_at}
use Rattle.rc_work.specs.DistinctLaws.{length-distinct-le}

abbrev columns_by : Spec → Option Op → List ℕ
columns_by spec found = option_map_or (λ op. value_columns spec op.pattern op.kind) found []

distinct_rising : (xs : List ℕ) → IsRising nat_cmp xs → AreDistinct xs
distinct_rising [] r = tt
distinct_rising (x ∷ xs) r = ((λ m. not_below_itself nat_cmp nat_order x x (r.0 x m) (r.0 x m)), distinct_rising xs r.1)

below_by : (spec : Spec) (pattern : List ℕ) (kind : OpKind) → AreBelow (length spec.columns) pattern → AreBelow (length spec.columns) (value_columns spec pattern kind)
below_by spec pattern (Query outs ranges) below c m = below c m
below_by spec pattern Insert below c m = omega (arith, (in_range_bounds 0 (length spec.columns) c m).1)
below_by spec pattern Remove below c m = below c m
below_by spec pattern Update below c m = omega (arith, (in_range_bounds 0 (length spec.columns) c m).1)

distinct_by : (spec : Spec) (pattern : List ℕ) (kind : OpKind) → AreDistinct (pattern ++ range_columns kind)
    → AreDistinct (value_columns spec pattern kind)
distinct_by spec pattern (Query outs ranges) distinct = distinct_left pattern ranges distinct
distinct_by spec pattern Insert distinct = distinct_rising (value_columns spec pattern Insert) (rising_range 0 (length spec.columns))
distinct_by spec pattern Remove distinct = distinct_left pattern [] distinct
distinct_by spec pattern Update distinct = distinct_rising (value_columns spec pattern Update) (rising_range 0 (length spec.columns))

below_at : (spec : Spec) (n : ℕ) (found : Option Op) → HasKnownColumns spec → slice_get spec.ops n ≡ found → (c : ℕ) → In c (columns_by spec found) → c < 32
below_at spec n None known is c m = absurd m
below_at spec n (Some op) known is c m =
    omega (arith, known.few, below_by spec op.pattern op.kind (known.among op (slice_get_in spec.ops n op is)).pattern c m)

-- an operation's columns are numbers of a column set
pub columns_at-below : (spec : Spec) (n : ℕ) → HasKnownColumns spec → (c : ℕ) → In c (columns_at spec n) → c < 32
columns_at-below spec n known = below_at spec n (slice_get spec.ops n) known refl

distinct_at : (spec : Spec) (n : ℕ) (found : Option Op) → HasDistinctColumns spec → slice_get spec.ops n ≡ found → AreDistinct (columns_by spec found)
distinct_at spec n None distinct is = tt
distinct_at spec n (Some op) distinct is = distinct_by spec op.pattern op.kind (distinct op (slice_get_in spec.ops n op is))

-- and no column stands twice
pub columns_at-distinct : (spec : Spec) (n : ℕ) → HasDistinctColumns spec → AreDistinct (columns_at spec n)
columns_at-distinct spec n distinct = distinct_at spec n (slice_get spec.ops n) distinct refl

-- the operations of a text have such columns
pub HasKnownColumns-named : (spec : Spec) → IsInRange spec → IsWellNamed spec → HasKnownColumns spec
HasKnownColumns-named spec range named = record { few = range.columns; among = range.known_ops; distinct = named.patterns }

-- ---- what a call is written with

pub length-twice : (cols : List ℕ) → length (twice cols) ≡ 2 * length cols
length-twice [] = refl
length-twice (c ∷ cols) = omega (arith, length-twice cols)

-- the columns of a call's tuple, and then its range columns, each twice
pub written_columns_at-parts : (spec : Spec) (n : ℕ) → written_columns_at spec n ≡ columns_at spec n ++ twice (ranges_at spec n)
written_columns_at-parts spec n = by (slice_get spec.ops n)
  where
    by : (found : Option Op) → option_map_or (written_columns spec) found []
        ≡ columns_by spec found ++ twice (option_map_or (λ op. range_columns op.kind) found [])
    by None = refl
    by (Some op) = refl

pub length-written_columns_at : (spec : Spec) (n : ℕ)
    → length (written_columns_at spec n) ≡ length (columns_at spec n) + 2 * length (ranges_at spec n)
length-written_columns_at spec n =
    omega (
      arith,
      ap (λ (cols : List ℕ). length cols) (written_columns_at-parts spec n),
      length-append (columns_at spec n) (twice (ranges_at spec n)),
      length-twice (ranges_at spec n),
    )

few_by : (columns : ℕ) (pattern ranges : List ℕ) → columns ≤ 32 → AreBelow columns pattern → AreBelow columns ranges
    → AreDistinct (pattern ++ ranges) → length pattern + length ranges ≤ 32
few_by columns pattern ranges few below ranges_below distinct =
    omega (
      arith,
      length-append pattern ranges,
      length-distinct-le 32 (pattern ++ ranges) distinct (λ c m.
          elim (in_append c pattern ranges m) [
            | inl h ↦ omega (arith, few, below c h)
            | inr h ↦ omega (arith, few, ranges_below c h)
          ]),
    )

written_few : (spec : Spec) (pattern : List ℕ) (kind : OpKind) → length spec.columns ≤ 32 → AreBelow (length spec.columns) pattern
    → AreBelow (length spec.columns) (range_columns kind) → AreDistinct (pattern ++ range_columns kind)
    → length (value_columns spec pattern kind) + 2 * length (range_columns kind) ≤ 64
written_few spec pattern (Query outs ranges) few below ranges_below distinct =
    omega (arith, few_by (length spec.columns) pattern ranges few below ranges_below distinct)
written_few spec pattern Insert few below ranges_below distinct = omega (arith, few, length-range_with_len 0 (length spec.columns))
written_few spec pattern Remove few below ranges_below distinct =
    omega (arith, few_by (length spec.columns) pattern [] few below ranges_below distinct)
written_few spec pattern Update few below ranges_below distinct = omega (arith, few, length-range_with_len 0 (length spec.columns))

written_few_at : (spec : Spec) (n : ℕ) (found : Option Op) → HasKnownColumns spec → slice_get spec.ops n ≡ found
    → length (columns_by spec found) + 2 * length (option_map_or (λ (op : Op). range_columns op.kind) found []) ≤ 64
written_few_at spec n None known is = omega arith
written_few_at spec n (Some op) known is =
    let m = slice_get_in spec.ops n op is in
    written_few spec op.pattern op.kind known.few (known.among op m).pattern (known.among op m).ranges (known.distinct op m)

-- at most 64 values, since at most 32 columns are a query's pattern and ranges
pub written_columns_at-few : (spec : Spec) (n : ℕ) → HasKnownColumns spec → length (written_columns_at spec n) ≤ 64
written_columns_at-few spec n known =
    omega (arith, length-written_columns_at spec n, written_few_at spec n (slice_get spec.ops n) known refl)
