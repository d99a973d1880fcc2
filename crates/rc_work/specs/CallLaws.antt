-- Laws of the calls that values make.
use Rattle.std.proofs.Common.{◌≡◌, ℕ, zero, suc, ◌*◌, ◌<◌, ◌^◌, List, [], ◌∷◌, ◌++◌, length, take, drop, map, Some, inl, inr, refl, sym, ap, ◌∙◌, subst, arith}
use Rattle.rc_work.specs.Imports.{slice_get, zip, option_map_or, nat_cmp, In, gather, append_in_left, append_in_right, in_gather, Pairs, pair_cmp, pair_order, cols_of-tuple_of, IsTuple-tuple_of, value_columns, Fits, IsInRange, IsWellNamed, AreBounded, IsBounded, range_column, range_columns, Op, Spec}
use Rattle.std.proofs.lemmas.List.{length-take-le, length-drop, take-append-drop}
use Rattle.std.proofs.lemmas.List.Elements.{All-nil, All-cons}
use Rattle.rc_work.specs.CallColumns.{HasDistinctColumns, columns_at, ranges_at, twice, written_columns_at, ranges_of, call_of}
use Rattle.rc_work.specs.CallColumnsLaws.{HasKnownColumns-named, columns_at-below, columns_at-distinct, length-written_columns_at, written_columns_at-parts}
use Rattle.rc_work.specs.Fitting.{IsOfWords}
use Rattle.rc_work.specs.Printed.{bounds_given}

-- ---- the ranges

pub columns-ranges_of : (cols bounds : List ℕ) → length bounds ≡ 2 * length cols → map range_column (ranges_of cols bounds) ≡ cols
columns-ranges_of [] bounds count = refl
columns-ranges_of (c ∷ cols) [] count = absurd (omega arith)
columns-ranges_of (c ∷ cols) (lo ∷ []) count = absurd (omega arith)
columns-ranges_of (c ∷ cols) (lo ∷ hi ∷ bounds) count = ap (λ l. c ∷ l) (columns-ranges_of cols bounds (omega arith))

pub AreBounded-ranges_of : (cols bounds : List ℕ) → ((v : ℕ) → In v bounds → v < 2 ^ 64) → AreBounded (ranges_of cols bounds)
AreBounded-ranges_of [] bounds small = All-nil IsBounded
AreBounded-ranges_of (c ∷ cols) [] small = All-nil IsBounded
AreBounded-ranges_of (c ∷ cols) (lo ∷ []) small = All-nil IsBounded
AreBounded-ranges_of (c ∷ cols) (lo ∷ hi ∷ bounds) small =
    All-cons IsBounded (record { col = c; lo = lo; hi = hi }) (ranges_of cols bounds) (small lo (inl refl), small hi (inr (inl refl)))
    (AreBounded-ranges_of cols bounds (λ v m. small v (inr (inr m))))

-- what is given for the ranges are their bounds
pub bounds_given-ranges_of : (cols bounds : List ℕ) → length bounds ≡ 2 * length cols
    → bounds_given (ranges_of cols bounds) ≡ zip (twice cols) bounds
bounds_given-ranges_of [] bounds count = refl
bounds_given-ranges_of (c ∷ cols) [] count = absurd (omega arith)
bounds_given-ranges_of (c ∷ cols) (lo ∷ []) count = absurd (omega arith)
bounds_given-ranges_of (c ∷ cols) (lo ∷ hi ∷ bounds) count =
    ap (λ (l : Pairs). (c, lo) ∷ (c, hi) ∷ l) (bounds_given-ranges_of cols bounds (omega arith))

-- ---- the parts of the values

module _ (spec : Spec) (op : ℕ) (values : List ℕ) (count : length values ≡ length (written_columns_at spec op)) where
  pub length-tuple_values : length (take (length (columns_at spec op)) values) ≡ length (columns_at spec op)
  length-tuple_values =
      length-take-le (length (columns_at spec op)) values (let parts = length-written_columns_at spec op in omega arith)

  pub length-bounds : length (drop (length (columns_at spec op)) values) ≡ 2 * length (ranges_at spec op)
  length-bounds =
      let parts = length-written_columns_at spec op in
      let left = length-drop (length (columns_at spec op)) values in
      omega arith

-- ---- the call fits

known_place : {A : Type 0} (xs : List A) (i : ℕ) → i < length xs → (x : A) × (slice_get xs i ≡ Some x)
known_place [] i below = absurd (omega arith)
known_place (x ∷ xs) zero below = (x, refl)
known_place (x ∷ xs) (suc i) below = known_place xs i (omega arith)

-- where there are as many values as the operation's calls have, and each is of 64 bits
pub Fits-call_over : (spec : Spec) (op : ℕ) (values : List ℕ) → op < length spec.ops → HasDistinctColumns spec
    → length values ≡ length (written_columns_at spec op) → IsOfWords (call_of spec op values) → Fits spec (call_of spec op values)
Fits-call_over spec op values known distinct count words =
    let at = known_place spec.ops op known in (
      at.0,
      record {
        known = at.1;
        tuple = words.tuple;
        columns =
            cols_of-tuple_of (columns_at spec op) (take (length (columns_at spec op)) values) (columns_at-distinct spec op distinct)
            (length-tuple_values spec op values count)
            ∙ ap (λ found. gather nat_cmp (option_map_or (λ (o : Op). value_columns spec o.pattern o.kind) found [])) at.1;
        ranges =
            columns-ranges_of (ranges_at spec op) (drop (length (columns_at spec op)) values) (length-bounds spec op values count)
            ∙ ap (λ found. option_map_or (λ (o : Op). range_columns o.kind) found []) at.1;
        bounds = words.bounds;
      },
    )

in_parts : (n : ℕ) (values : List ℕ) (v : ℕ) → In v (take n values ++ drop n values) → In v values
in_parts n values v m = subst (λ (l : List ℕ). In v l) (take-append-drop n values) m

-- what values of 64 bits make is of such numbers
pub IsOfWords-call_of : (spec : Spec) (op : ℕ) (values : List ℕ) → IsWellNamed spec → IsInRange spec
    → ((v : ℕ) → In v values → v < 2 ^ 64) → IsOfWords (call_of spec op values)
IsOfWords-call_of spec op values named range small =
    let n = length (columns_at spec op) in
    record {
      tuple =
          IsTuple-tuple_of (columns_at spec op) (take n values) (columns_at-distinct spec op named.patterns) (columns_at-below spec op (HasKnownColumns-named spec range named))
          (λ v m. small v (in_parts n values v (append_in_left v (take n values) (drop n values) m)));
      bounds =
          AreBounded-ranges_of (ranges_at spec op) (drop n values)
          (λ v m. small v (in_parts n values v (append_in_right v (take n values) (drop n values) m)));
    }

-- ---- the columns with their values

zip-nothing : (cols : List ℕ) → (let none : List ℕ = [] in zip cols none ≡ [])
zip-nothing [] = refl
zip-nothing (c ∷ cols) = refl

zip-parts : (xs ys values : List ℕ) → zip (xs ++ ys) values ≡ zip xs (take (length xs) values) ++ zip ys (drop (length xs) values)
zip-parts [] ys values = refl
zip-parts (x ∷ xs) ys [] = sym (zip-nothing ys)
zip-parts (x ∷ xs) ys (v ∷ values) = ap (λ (l : Pairs). (x, v) ∷ l) (zip-parts xs ys values)

written_pairs : (spec : Spec) (op : ℕ) (values : List ℕ) → zip (written_columns_at spec op) values
    ≡ zip (columns_at spec op) (take (length (columns_at spec op)) values) ++ zip (twice (ranges_at spec op)) (drop (length (columns_at spec op)) values)
written_pairs spec op values =
    ap (λ cols. zip cols values) (written_columns_at-parts spec op) ∙ zip-parts (columns_at spec op) (twice (ranges_at spec op)) values

-- each pair of the tuple is a column with the value that is written for it
pub args_written : (spec : Spec) (op : ℕ) (values : List ℕ) (p : ℕ × ℕ) → In p (call_of spec op values).args
    → In p (zip (written_columns_at spec op) values)
args_written spec op values p m =
    let n = length (columns_at spec op) in
    let tuple = zip (columns_at spec op) (take n values) in
    subst (λ (l : Pairs). In p l) (sym (written_pairs spec op values))
    (append_in_left p tuple (zip (twice (ranges_at spec op)) (drop n values)) (in_gather pair_cmp pair_order p tuple m))

-- and so is each of the bounds
pub bounds_written : (spec : Spec) (op : ℕ) (values : List ℕ) (p : ℕ × ℕ) → length values ≡ length (written_columns_at spec op)
    → In p (bounds_given (call_of spec op values).ranges) → In p (zip (written_columns_at spec op) values)
bounds_written spec op values p count m =
    let n = length (columns_at spec op) in
    let given = bounds_given-ranges_of (ranges_at spec op) (drop n values) (length-bounds spec op values count) in
    subst (λ (l : Pairs). In p l) (sym (written_pairs spec op values))
    (append_in_right p (zip (columns_at spec op) (take n values)) (zip (twice (ranges_at spec op)) (drop n values))
    (subst (λ (l : Pairs). In p l) given m))
