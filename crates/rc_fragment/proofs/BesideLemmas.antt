-- The value beside a column is that at the column's rank.
use Rattle.std.specs.Prelude.{◌≡◌, ℕ, zero, suc, ◌+◌, ◌<◌, ◌==◌, true, false, cond, unwrap_or, Some, List, [], ◌∷◌, ◌++◌, map, length}
use Rattle.rc_fragment.proofs.Imports.{slice_get, zip, nat_cmp, eq-eqb, false≢true, ne_eqb, length-map, take_all, take_more, slice_get_within, In, IsRising, has_in, slice_get_in, IsColSet, Within, has, rank, union, in_union, minus_in, rank_all, rank_more, slice_get-rank, Pairs, cols_of, get, value, value-project, Values, extra_columns, values_at, zip_from_values, zip_pairs, EdgeShape}
use Rattle.std.proofs.Common.{sym, ap, ◌∙◌, inl, inr, arith, take, get_or}
use Rattle.rc_fragment.proofs.NoteLemmas.{less_lt}

at_place : (cols : List ℕ) (values : Values) (i c : ℕ) → IsRising nat_cmp cols → length values ≡ length cols → slice_get cols i ≡ Some c → get_or values i 0 ≡ value (zip cols values) c
at_place [] values i c r l e = absurd (cc)
at_place (x ∷ cols) [] i c r l e = absurd (omega arith)
at_place (x ∷ cols) (v ∷ values) zero c r l e =
    let q : x ≡ c = cc in
    sym (ap (λ b. unwrap_or (cond b (Some v) (get (zip cols values) c)) 0) (eq-eqb x c q))
at_place (x ∷ cols) (v ∷ values) (suc i) c r l e =
    let m : In c cols = slice_get_in cols i c e in
    let b : x < c = less_lt x c (r.0 c m) in
    let n : (x == c) ≡ false = ne_eqb x c (λ q. let d : x ≡ c = q in omega arith) in
    at_place cols values i c r.1 (omega arith) e ∙ sym (ap (λ b. unwrap_or (cond b (Some v) (get (zip cols values) c)) 0) n)

pub rank_less : (cols : List ℕ) (c : ℕ) → IsColSet cols → In c cols → rank cols c < length cols
rank_less cols c set m = slice_get_within cols (rank cols c) c (slice_get-rank cols c set (has_in cols c m))

pub at_rank : (cols : List ℕ) (values : Values) (c : ℕ) → IsColSet cols → In c cols → length values ≡ length cols → get_or values (rank cols c) 0 ≡ value (zip cols values) c
at_rank cols values c set m l = at_place cols values (rank cols c) c set.rising l (slice_get-rank cols c set (has_in cols c m))

-- what stands beside a column in a part of a tuple stands beside it in the tuple
pub in_part : (columns cols : List ℕ) (values : Values) (t : Pairs) (c : ℕ) → IsRising nat_cmp columns → IsRising nat_cmp cols → Within cols columns → cols_of t ≡ columns → values_at cols t ≡ values → In c cols
    → value (zip cols values) c ≡ value t c
in_part columns cols values t c r s w over is m = ap (λ z. value z c) (sym (zip_from_values columns cols values t r s w over is)) ∙ value-project cols t c m

-- a column of the target that neither source nor key has is an extra one
pub in_extra : (shape : EdgeShape) (c : ℕ) → In c shape.target → has shape.source c ≡ false → has shape.key c ≡ false → In c (extra_columns shape)
in_extra shape c m s k =
    minus_in shape.target (union shape.source shape.key) c m (λ n. elim (in_union shape.source shape.key c n) [
      | inl a ↦ false≢true (sym s ∙ has_in shape.source c a)
      | inr b ↦ false≢true (sym k ∙ has_in shape.key c b)
    ])

-- ---- the values of a tuple, column by column

abbrev pub seconds : Pairs → Values
seconds t = map (λ p. p.1) t

-- the values at the columns below one
abbrev pub values_below : List ℕ → Pairs → ℕ → Values
values_below cols t c = take (rank cols c) (seconds t)

module _ (cols : List ℕ) (t : Pairs) (set : IsColSet cols) (over : cols_of t ≡ cols) where
  wide : length (seconds t) ≡ length cols
  wide = length-map t (λ p. p.1) ∙ sym (length-map t (λ p. p.0)) ∙ ap length over

  whole : zip cols (seconds t) ≡ t
  whole = ap (λ z. zip z (seconds t)) (sym over) ∙ zip_pairs t

  pub below_with : (c : ℕ) → has cols c ≡ true → In c cols → values_below cols t c ++ value t c ∷ [] ≡ values_below cols t (c + 1)
  below_with c h m =
      let l : rank cols c < length cols = rank_less cols c set m in
      let at : get_or (seconds t) (rank cols c) 0 ≡ value t c = at_rank cols (seconds t) c set m wide ∙ ap (λ z. value z c) whole in
      let n : rank cols (c + 1) ≡ rank cols c + 1 = rank_more cols c ∙ ap (λ b. rank cols c + cond b 1 0) h in
      ap (λ v. values_below cols t c ++ v ∷ []) (sym at) ∙ sym (take_more (seconds t) (rank cols c) 0 (omega (arith, l, wide))) ∙ ap (λ n. take n (seconds t)) (sym n)

  pub below_without : (c : ℕ) → has cols c ≡ false → values_below cols t c ≡ values_below cols t (c + 1)
  below_without c h =
      let n : rank cols (c + 1) ≡ rank cols c = rank_more cols c ∙ ap (λ b. rank cols c + cond b 1 0) h ∙ omega arith in
      ap (λ n. take n (seconds t)) (sym n)

  all : values_below cols t 32 ≡ seconds t
  all = take_all (rank cols 32) (seconds t) (omega (arith, rank_all cols set, wide))

  pub below_all : (values : Values) → values ≡ values_below cols t 32 → zip cols values ≡ t
  below_all values is = ap (zip cols) (is ∙ all) ∙ whole

  pub length_all : (values : Values) → values ≡ values_below cols t 32 → length values ≡ length cols
  length_all values is = ap length (is ∙ all) ∙ wide
