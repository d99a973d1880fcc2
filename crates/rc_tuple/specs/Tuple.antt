-- Tuples: pairs of a column and its value, rising by the columns.
use Rattle.std.specs.Prelude.{ℕ, ◌<◌, ◌^◌, Bool, Option, Some, None, List, [], ◌∷◌, ◌++◌, ◌||◌, ◌&&◌, ◌==◌, filter, map, not, if◌then◌else◌, unwrap_or}
use Rattle.rc_tuple.specs.Imports.{list_all, list_any, zip, Ordering, ordering_then, nat_cmp, is_eq, slice_cmp}
use Rattle.rc_tuple.specs.RisingSet.{In, IsRising, gather}
use Rattle.rc_tuple.specs.ColSet.{has}

-- a tuple's pairs, each a column and its value
abbrev pub Pairs : Type 0
Pairs = List (ℕ × ℕ)

abbrev pub cols_of : Pairs → List ℕ
cols_of t = map (λ p. p.0) t

-- one value of 64 bits for each column of a column set
pub record IsTuple (t : Pairs) : Type 0 where
  pub rising : IsRising nat_cmp (cols_of t)
  pub columns : (p : ℕ × ℕ) → In p t → p.0 < 32
  pub values : (p : ℕ × ℕ) → In p t → p.1 < 2 ^ 64

-- the value at the column, if it is one of the tuple's
abbrev pub get : Pairs → ℕ → Option ℕ
get [] c = None
get (p ∷ t) c = if p.0 == c then Some p.1 else get t c

-- the value at the column, or 0 where it is none of the tuple's
abbrev pub value : Pairs → ℕ → ℕ
value t c = unwrap_or (get t c) 0

-- the projection on some columns
abbrev pub project : List ℕ → Pairs → Pairs
project xs t = filter (λ p. has xs p.0) t

-- the values at the columns, in the order of the list
abbrev pub pick : List ℕ → Pairs → List ℕ
pick cols t = map (value t) cols

-- the two give no column two values
abbrev pub agrees : Pairs → Pairs → Bool
agrees t u = list_all (λ p. list_all (λ q. not (p.0 == q.0) || p.1 == q.1) u) t

-- by columns, then by values; so at equal columns by the values in column order
abbrev pub pair_cmp : ℕ × ℕ → ℕ × ℕ → Ordering
pair_cmp p q = ordering_then (nat_cmp p.0 q.0) (nat_cmp p.1 q.1)

abbrev pub tuple_cmp : Pairs → Pairs → Ordering
tuple_cmp t u = slice_cmp pair_cmp t u

abbrev pub tuple_eq : Pairs → Pairs → Bool
tuple_eq t u = is_eq (tuple_cmp t u)

-- the two have the same projection on the columns
abbrev pub agree_on : List ℕ → Pairs → Pairs → Bool
agree_on xs t u = tuple_eq (project xs t) (project xs u)

-- whether a tuple agrees with the pattern on every column of the pattern
abbrev pub matches : Pairs → Pairs → Bool
matches pattern t = tuple_eq (project (cols_of pattern) t) pattern

-- whether the pair is one of the tuple's
abbrev pub has_pair : Pairs → ℕ × ℕ → Bool
has_pair t p = list_any (λ q. q.0 == p.0 && q.1 == p.1) t

-- whether a pair at one of the columns has the value of its counterpart
abbrev pub same_at : List ℕ → (ℕ × ℕ) × (ℕ × ℕ) → Bool
same_at xs w = not (has xs w.0.0) || w.0.1 == w.1.1

-- two tuples that agree, as one
abbrev pub merge : Pairs → Pairs → Pairs
merge t u = gather pair_cmp (t ++ u)

-- the merge, where the two agree
abbrev pub merged : Pairs → Pairs → Option Pairs
merged t u = if agrees t u then Some (merge t u) else None

-- the merges of a tuple with those that agree with it
abbrev pub merges_of : Pairs → List Pairs → List Pairs
merges_of t us = map (merge t) (filter (agrees t) us)

-- the tuple that gives each of the columns the value beside it
abbrev pub tuple_of : List ℕ → List ℕ → Pairs
tuple_of cols vals = gather pair_cmp (zip cols vals)
