-- Laws of column sets, and what a mask says of the set that it stands for.
use Rattle.std.proofs.Common.{◌≡◌, ℕ, zero, suc, ◌+◌, ◌-◌, ◌++◌, length, Some, None, ◌*◌, ◌/◌, ◌%◌, ◌^◌, ◌<◌, ◌≤◌, Bool, true, false, cond, ◌&&◌, ◌||◌, not, min, max, eqb, leb, ltb, List, [], ◌∷◌, refl, sym, ap, ◌∙◌, ◌⊎◌, inl, inr, lit<, lit≤, subst, arith}
use Rattle.rc_tuple.specs.Imports.{slice_get, filter, range_with_len, Less, nat_cmp, bit_at, bit_not, w32}
use Rattle.std.specs.Prelude.{bit_and, bit_or, count_ones, ◌==◌}
use Rattle.std.proofs.lemmas.Nat.Bits.{bit_at_or, bit_at_and, bit_at_not, bit_at-lt, bit_at_ones, bit_at_ones_above, bit_at_set_same, bit_at_set_other, shr_and_one, same_from_bits_below, bit_at-zero}
use Rattle.std.proofs.lemmas.Map.Views.{any-filter_same}
use Rattle.std.proofs.lemmas.Bool.{eqb-true, lt-ltb, le-ltb, ltb-true, or_cases, or_left, or_right, cond-true, eqb-false, eq-eqb, ne_eqb, cases_eq, cases_Bool, false≢true}
use Rattle.std.proofs.lemmas.Bool.Decides.{nat_tests}
use Rattle.std.proofs.lemmas.Nat.{mod-pow-add, and_le_l}
use Rattle.std.proofs.lemmas.List.{map-id, length-append}
use Rattle.std.proofs.lemmas.List.Elements.{filter-append}
use Rattle.std.proofs.lemmas.List.FromFn.{filter_of_map_range_with_len_more}
use Rattle.std.proofs.lemmas.Option.{slice_get_past, slice_get_within}
use Rattle.std.proofs.Math.Nat.{div-div-eq-div-mul, pow-suc, mod-one, mod-eq_of_lt, div-one}
use lib.Count.{ones_step, ones-le}
use Rattle.rc_tuple.specs.RisingSet.{In, IsRising, put, gather}
use Rattle.rc_tuple.specs.RisingSetLaws.{same_rising, same_gather, gather_more, gather-rising, nat_order, in_put, put_new, put_old, rising_put, rising_gather, in_gather, gather_in, in_filter, filter_in, rising_filter, in_append, append_in_left, append_in_right, in_has, has_in, same_bool, list_all_in, in_list_all}
use Rattle.rc_tuple.specs.ColSet.{has, IsColSet, Within, is_within, with_column, union, inter, minus, has_bit, columns_of, mask_of, rank}

-- ---- members

pub in_union : (xs ys : List ℕ) (c : ℕ) → In c (union xs ys) → In c xs ⊎ In c ys
in_union xs ys c h = in_append c xs ys (in_gather nat_cmp nat_order c (xs ++ ys) h)

pub union_left : (xs ys : List ℕ) → Within xs (union xs ys)
union_left xs ys c h = gather_in nat_cmp nat_order c (xs ++ ys) (append_in_left c xs ys h)

pub union_right : (xs ys : List ℕ) → Within ys (union xs ys)
union_right xs ys c h = gather_in nat_cmp nat_order c (xs ++ ys) (append_in_right c xs ys h)

pub union_within : (xs ys zs : List ℕ) → Within xs zs → Within ys zs → Within (union xs ys) zs
union_within xs ys zs f g c h = elim (in_union xs ys c h) [ inl q ↦ f c q | inr q ↦ g c q ]

-- a union with what was gathered
pub gather-union : (xs ys : List ℕ) → gather nat_cmp (xs ++ ys) ≡ union (gather nat_cmp xs) ys
gather-union xs ys =
    same_gather nat_cmp nat_order (xs ++ ys) (gather nat_cmp xs ++ ys)
    (λ z m. elim (in_append z xs ys m) [
      | inl a ↦ append_in_left z (gather nat_cmp xs) ys (gather_in nat_cmp nat_order z xs a)
      | inr b ↦ append_in_right z (gather nat_cmp xs) ys b
    ])
    (λ z m. elim (in_append z (gather nat_cmp xs) ys m) [
      | inl a ↦ append_in_left z xs ys (in_gather nat_cmp nat_order z xs a)
      | inr b ↦ append_in_right z xs ys b
    ])

pub in_inter : (xs ys : List ℕ) (c : ℕ) → In c (inter xs ys) → In c xs × In c ys
in_inter xs ys c h = let q : In c xs × (has ys c ≡ true) = in_filter (has ys) c xs h in (q.0, in_has ys c q.1)

pub inter_in : (xs ys : List ℕ) (c : ℕ) → In c xs → In c ys → In c (inter xs ys)
inter_in xs ys c h k = filter_in (has ys) c xs h (has_in ys c k)

not_true : (b : Bool) → not b ≡ true → b ≡ true → ⊥
not_true true e h = absurd (false≢true e)
not_true false e h = absurd (false≢true h)

pub in_minus : (xs ys : List ℕ) (c : ℕ) → In c (minus xs ys) → In c xs × (In c ys → ⊥)
in_minus xs ys c h =
    let q : In c xs × (not (has ys c) ≡ true) = in_filter (λ k. not (has ys k)) c xs h in
    (q.0, λ k. not_true (has ys c) q.1 (has_in ys c k))

pub minus_in : (xs ys : List ℕ) (c : ℕ) → In c xs → (In c ys → ⊥) → In c (minus xs ys)
minus_in xs ys c h k =
    filter_in (λ x. not (has ys x)) c xs h
    (elim (cases_Bool (has ys c)) [ inl e ↦ absurd (k (in_has ys c e)) | inr e ↦ ap not e ])

pub within_from_test : (xs ys : List ℕ) → is_within xs ys ≡ true → Within xs ys
within_from_test xs ys h c m = in_has ys c (list_all_in (has ys) xs h c m)

pub test_from_within : (xs ys : List ℕ) → Within xs ys → is_within xs ys ≡ true
test_from_within xs ys w = in_list_all (has ys) xs (λ c m. has_in ys c (w c m))

-- the empty set has no column
pub within_none : (xs : List ℕ) → is_within xs [] ≡ (eqb (length xs) 0)
within_none [] = refl
within_none (x ∷ xs) = ne_zero (length xs)
  where
    ne_zero : (n : ℕ) → false ≡ eqb (suc n) 0
    ne_zero n = grind (arith, nat_tests)

-- ---- the set operations give column sets

pub IsColSet-none : IsColSet []
IsColSet-none = record { rising = tt; below = λ c h. absurd h }

pub IsColSet-filter : (p : ℕ → Bool) (xs : List ℕ) → IsColSet xs → IsColSet (filter p xs)
IsColSet-filter p xs s = record {
  rising = rising_filter nat_cmp p xs s.rising;
  below = λ k h. s.below k (in_filter p k xs h).0;
}

-- two sets that have the same columns are one
pub same_sets : (xs ys : List ℕ) → IsRising nat_cmp xs → IsRising nat_cmp ys → ((c : ℕ) → has xs c ≡ has ys c) → xs ≡ ys
same_sets xs ys r s h =
    same_rising nat_cmp nat_order xs ys r s
    (λ c m. in_has ys c (sym (h c) ∙ has_in xs c m))
    (λ c m. in_has xs c (h c ∙ has_in ys c m))

-- the set of a list has what the list has
pub has-gather : (xs : List ℕ) (c : ℕ) → has (gather nat_cmp xs) c ≡ has xs c
has-gather xs c =
    same_bool _ _
    (λ h. has_in xs c (in_gather nat_cmp nat_order c xs (in_has (gather nat_cmp xs) c h)))
    (λ h. has_in (gather nat_cmp xs) c (gather_in nat_cmp nat_order c xs (in_has xs c h)))

pub has-union : (xs ys : List ℕ) (c : ℕ) → has (union xs ys) c ≡ (has xs c || has ys c)
has-union xs ys c =
    same_bool _ _
    (λ h. elim (in_union xs ys c (in_has (union xs ys) c h)) [ inl m ↦ or_left (has xs c) (has ys c) (has_in xs c m) | inr m ↦ or_right (has xs c) (has ys c) (has_in ys c m) ])
    (λ h. has_in (union xs ys) c (elim (or_cases (has xs c) (has ys c) h) [ inl e ↦ union_left xs ys c (in_has xs c e) | inr e ↦ union_right xs ys c (in_has ys c e) ]))

pub has-filter : (p : ℕ → Bool) (xs : List ℕ) (c : ℕ) → has (filter p xs) c ≡ (p c && has xs c)
has-filter p xs c = any-filter_same (λ x. eqb x c) p (p c) (λ k h. ap p (eqb-true k c h)) xs

pub has-with_column : (xs : List ℕ) (c k : ℕ) → has (with_column xs c) k ≡ (has xs k || eqb k c)
has-with_column xs c k =
    same_bool _ _
    (λ h. elim (in_put nat_cmp nat_order k c xs (in_has (with_column xs c) k h)) [ inl e ↦ or_right (has xs k) (eqb k c) (eq-eqb k c e) | inr m ↦ or_left (has xs k) (eqb k c) (has_in xs k m) ])
    (λ h. has_in (with_column xs c) k (elim (or_cases (has xs k) (eqb k c) h) [
      | inl e ↦ put_old nat_cmp nat_order k c xs (in_has xs k e)
      | inr e ↦ subst (λ n. In n (put nat_cmp c xs)) (sym (eqb-true k c e)) (put_new nat_cmp nat_order c xs)
    ]))

-- ---- a range of numbers

range_zero : (a c : ℕ) → false ≡ (leb a c && ltb c (a + 0))
range_zero a c = grind (arith, nat_tests)

range_suc : (a n c : ℕ) (r : Bool) → r ≡ (leb (a + 1) c && ltb c (a + 1 + n)) → (eqb a c || r) ≡ (leb a c && ltb c (a + suc n))
range_suc a n c r h = grind (arith, nat_tests)

pub has-range : (a n c : ℕ) → has (range_with_len a n) c ≡ (leb a c && ltb c (a + n))
has-range a zero c = range_zero a c
has-range a (suc n) c = range_suc a n c _ (has-range (a + 1) n c)

below_all : (c : ℕ) → (leb 0 c && ltb c (0 + 32)) ≡ ltb c 32
below_all c = grind (arith, nat_tests)

nat_less : (a b : ℕ) → a < b → nat_cmp a b ≡ Less
nat_less a b h = grind (arith, nat_tests)

bounds_of : (a n c : ℕ) → (leb a c && ltb c (a + n)) ≡ true → (a ≤ c) × (c < a + n)
bounds_of a n c h = (grind (arith, nat_tests), grind (arith, nat_tests))

pub in_range_bounds : (a n c : ℕ) → In c (range_with_len a n) → (a ≤ c) × (c < a + n)
in_range_bounds a n c m = bounds_of a n c (sym (has-range a n c) ∙ has_in (range_with_len a n) c m)

pub rising_range : (a n : ℕ) → IsRising nat_cmp (range_with_len a n)
rising_range a zero = tt
rising_range a (suc n) = ((λ c m. nat_less a c (let b : a + 1 ≤ c = (in_range_bounds (a + 1) n c m).0 in omega arith)), rising_range (a + 1) n)

-- ---- what the mask says

pub has-columns_of : (m c : ℕ) → has (columns_of m) c ≡ (has_bit m c && ltb c 32)
unfolding columns_of
has-columns_of m c = has-filter (has_bit m) (range_with_len 0 32) c ∙ ap (λ b. has_bit m c && b) (has-range 0 32 c ∙ below_all c)

and_true : (b : Bool) → (b && true) ≡ b
and_true true = refl
and_true false = refl

pub has-columns_of_below : (m c : ℕ) → c < 32 → has (columns_of m) c ≡ has_bit m c
has-columns_of_below m c h = has-columns_of m c ∙ ap (λ b. has_bit m c && b) (lt-ltb c 32 h) ∙ and_true (has_bit m c)

pub IsColSet-columns_of : (m : ℕ) → IsColSet (columns_of m)
unfolding columns_of
IsColSet-columns_of m = record {
  rising = rising_filter nat_cmp (has_bit m) (range_with_len 0 32) (rising_range 0 32);
  below = λ c h. (in_range_bounds 0 32 c (in_filter (has_bit m) c (range_with_len 0 32) h).0).1;
}

-- the fact for a value that is seen as the set of a mask
pub IsColSet-from_mask : (m : ℕ) (xs : List ℕ) → columns_of m ≡ xs → IsColSet xs
IsColSet-from_mask m xs e = subst IsColSet e (IsColSet-columns_of m)

or_bits : (x y : ℕ) → x < 2 → y < 2 → eqb (max x y) 1 ≡ (eqb x 1 || eqb y 1)
or_bits x y h k = grind (arith, nat_tests)

and_bits : (x y : ℕ) → x < 2 → y < 2 → eqb (min x y) 1 ≡ (eqb x 1 && eqb y 1)
and_bits x y h k = grind (arith, nat_tests)

minus_bits : (x y : ℕ) → x < 2 → y < 2 → eqb (min x (1 - y)) 1 ≡ (eqb x 1 && not (eqb y 1))
minus_bits x y h k = grind (arith, nat_tests)

has_bit-or : (a b k : ℕ) → has_bit (bit_or a b) k ≡ (has_bit a k || has_bit b k)
has_bit-or a b k = ap (λ n. eqb n 1) (bit_at_or a b k) ∙ or_bits (bit_at a k) (bit_at b k) (bit_at-lt a k) (bit_at-lt b k)

has_bit-and : (a b k : ℕ) → has_bit (bit_and a b) k ≡ (has_bit a k && has_bit b k)
has_bit-and a b k = ap (λ n. eqb n 1) (bit_at_and a b k) ∙ and_bits (bit_at a k) (bit_at b k) (bit_at-lt a k) (bit_at-lt b k)

has_bit-minus : (a b k : ℕ) → b < 2 ^ 32 → k < 32 → has_bit (bit_and a (bit_not w32 b)) k ≡ (has_bit a k && not (has_bit b k))
has_bit-minus a b k h lt =
    ap (λ n. eqb n 1) (bit_at_and a (bit_not w32 b) k ∙ ap (λ n. min (bit_at a k) n) (bit_at_not w32 b k h lt))
    ∙ minus_bits (bit_at a k) (bit_at b k) (bit_at-lt a k) (bit_at-lt b k)

or_true : (b : Bool) → (b || true) ≡ true
or_true true = refl
or_true false = refl

or_false : (b : Bool) → (b || false) ≡ b
or_false true = refl
or_false false = refl

has_bit-with : (m c k : ℕ) → c < 32 → (k ≡ c) ⊎ (k ≡ c → ⊥) → has_bit (bit_or m (1 * 2 ^ c % 2 ^ 32)) k ≡ (has_bit m k || eqb k c)
has_bit-with m c k lt (inl e) = rw e (ap (λ n. eqb n 1) (bit_at_set_same w32 m c lt) ∙ sym (ap (λ b. has_bit m c || b) (eq-eqb c c refl) ∙ or_true (has_bit m c)))
has_bit-with m c k lt (inr ne) = ap (λ n. eqb n 1) (bit_at_set_other w32 m c lt k ne) ∙ sym (ap (λ b. has_bit m k || b) (ne_eqb k c ne) ∙ or_false (has_bit m k))

-- what two sets of masks have together, from what their bits say
or_within : (a b l : Bool) → ((a || b) && l) ≡ ((a && l) || (b && l))
or_within true true true = refl
or_within true true false = refl
or_within true false true = refl
or_within true false false = refl
or_within false true true = refl
or_within false true false = refl
or_within false false true = refl
or_within false false false = refl

and_within : (a b l : Bool) → ((a && b) && l) ≡ ((b && l) && (a && l))
and_within true true true = refl
and_within true true false = refl
and_within true false true = refl
and_within true false false = refl
and_within false true true = refl
and_within false true false = refl
and_within false false true = refl
and_within false false false = refl

pub columns_of-zero : columns_of 0 ≡ []
unfolding columns_of
columns_of-zero = refl

pub columns_of-or : (a b : ℕ) → columns_of (bit_or a b) ≡ union (columns_of a) (columns_of b)
columns_of-or a b =
    same_sets (columns_of (bit_or a b)) (union (columns_of a) (columns_of b)) (IsColSet-columns_of (bit_or a b)).rising (rising_gather nat_cmp nat_order (columns_of a ++ columns_of b))
    (λ c. has-columns_of (bit_or a b) c ∙ ap (λ t. t && ltb c 32) (has_bit-or a b c) ∙ or_within (has_bit a c) (has_bit b c) (ltb c 32)
    ∙ sym (has-union (columns_of a) (columns_of b) c ∙ ap (λ t. t || has (columns_of b) c) (has-columns_of a c) ∙ ap (λ t. (has_bit a c && ltb c 32) || t) (has-columns_of b c)))

pub columns_of-and : (a b : ℕ) → columns_of (bit_and a b) ≡ inter (columns_of a) (columns_of b)
columns_of-and a b =
    same_sets (columns_of (bit_and a b)) (inter (columns_of a) (columns_of b)) (IsColSet-columns_of (bit_and a b)).rising
    (rising_filter nat_cmp (has (columns_of b)) (columns_of a) (IsColSet-columns_of a).rising)
    (λ c. has-columns_of (bit_and a b) c ∙ ap (λ t. t && ltb c 32) (has_bit-and a b c) ∙ and_within (has_bit a c) (has_bit b c) (ltb c 32)
    ∙ sym (has-filter (has (columns_of b)) (columns_of a) c ∙ ap (λ t. t && has (columns_of a) c) (has-columns_of b c) ∙ ap (λ t. (has_bit b c && ltb c 32) && t) (has-columns_of a c)))

minus_below : (a b : Bool) → (a && not b) ≡ (not b && a)
minus_below true true = refl
minus_below true false = refl
minus_below false true = refl
minus_below false false = refl

has_minus : (a b c : ℕ) → b < 2 ^ 32 → (c < 32) ⊎ (32 ≤ c) → has (columns_of (bit_and a (bit_not w32 b))) c ≡ has (minus (columns_of a) (columns_of b)) c
has_minus a b c h (inl lt) =
    has-columns_of_below (bit_and a (bit_not w32 b)) c lt ∙ has_bit-minus a b c h lt ∙ minus_below (has_bit a c) (has_bit b c)
    ∙ sym (has-filter (λ k. not (has (columns_of b) k)) (columns_of a) c ∙ ap (λ t. not t && has (columns_of a) c) (has-columns_of_below b c lt) ∙ ap (λ t. not (has_bit b c) && t) (has-columns_of_below a c lt))
has_minus a b c h (inr ge) =
    no_column (bit_and a (bit_not w32 b)) c ge
    ∙ sym (has-filter (λ k. not (has (columns_of b) k)) (columns_of a) c ∙ ap (λ t. not (has (columns_of b) c) && t) (no_column a c ge) ∙ and_false (not (has (columns_of b) c)))
  where
    and_false : (b : Bool) → (b && false) ≡ false
    and_false true = refl
    and_false false = refl

    no_column : (m c : ℕ) → 32 ≤ c → has (columns_of m) c ≡ false
    no_column m c ge = has-columns_of m c ∙ ap (λ t. has_bit m c && t) (le-ltb c 32 ge) ∙ and_false (has_bit m c)

cases_below : (c n : ℕ) → (c < n) ⊎ (n ≤ c)
cases_below c n = elim (cases_Bool (ltb c n)) [ inl e ↦ inl (ltb-true c n e) | inr e ↦ inr (grind (arith, nat_tests)) ]

pub columns_of-minus : (a b : ℕ) → b < 2 ^ 32 → columns_of (bit_and a (bit_not w32 b)) ≡ minus (columns_of a) (columns_of b)
columns_of-minus a b h =
    same_sets (columns_of (bit_and a (bit_not w32 b))) (minus (columns_of a) (columns_of b)) (IsColSet-columns_of (bit_and a (bit_not w32 b))).rising
    (rising_filter nat_cmp (λ k. not (has (columns_of b) k)) (columns_of a) (IsColSet-columns_of a).rising)
    (λ c. has_minus a b c h (cases_below c 32))

with_within : (a e l : Bool) → (e ≡ true → l ≡ true) → ((a || e) && l) ≡ ((a && l) || e)
with_within a true l h = ap (λ t. (a || true) && t) (h refl) ∙ ap (λ t. t && true) (or_true a) ∙ sym (or_true (a && l))
with_within a false l h = ap (λ t. t && l) (or_false a) ∙ sym (or_false (a && l))

pub columns_of-with : (m c : ℕ) → c < 32 → columns_of (bit_or m (1 * 2 ^ c % 2 ^ 32)) ≡ with_column (columns_of m) c
columns_of-with m c lt =
    same_sets (columns_of (bit_or m (1 * 2 ^ c % 2 ^ 32))) (with_column (columns_of m) c) (IsColSet-columns_of (bit_or m (1 * 2 ^ c % 2 ^ 32))).rising
    (rising_put nat_cmp nat_order c (columns_of m) (IsColSet-columns_of m).rising)
    (λ k. has-columns_of (bit_or m (1 * 2 ^ c % 2 ^ 32)) k ∙ ap (λ t. t && ltb k 32) (has_bit-with m c k lt (cases_eq k c))
    ∙ with_within (has_bit m k) (eqb k c) (ltb k 32) (λ e. lt-ltb k 32 (subst (λ n. n < 32) (sym (eqb-true k c e)) lt))
    ∙ sym (has-with_column (columns_of m) c k ∙ ap (λ t. t || eqb k c) (has-columns_of m k)))

-- the test in the code
pub has-columns_of_shifted : (m k : ℕ) → k < 32 → eqb (bit_and (m / 2 ^ k) 1) 1 ≡ has (columns_of m) k
has-columns_of_shifted m k h = ap (λ n. eqb n 1) (shr_and_one m k) ∙ sym (has-columns_of_below m k h)

pub has_above : (m k : ℕ) → 32 ≤ k → has (columns_of m) k ≡ false
has_above m k h = has-columns_of m k ∙ ap (λ t. has_bit m k && t) (le-ltb k 32 h) ∙ none (has_bit m k)
  where
    none : (b : Bool) → (b && false) ≡ false
    none true = refl
    none false = refl

-- ---- one set within another, by their masks

no_rest : (x y : Bool) → x ≡ true → (x && not y) ≡ false → y ≡ true
no_rest true true h e = refl
no_rest true false h e = sym e
no_rest false y h e = cc

none_beyond : (x y : Bool) → (x ≡ true → y ≡ true) → (x && not y) ≡ false
none_beyond true y h = ap not (h refl)
none_beyond false y h = refl

no_bit : (n : ℕ) → n < 2 → eqb n 1 ≡ false → n ≡ 0
no_bit n lt h = let ne : n ≡ 1 → ⊥ = eqb-false n 1 h in omega arith

below_left : (a m : ℕ) → a < 2 ^ 32 → bit_and a m ≤ a → bit_and a m < 2 ^ 32
below_left a m lt le = omega arith

pub within_from_zero : (a b : ℕ) → b < 2 ^ 32 → bit_and a (bit_not w32 b) ≡ 0 → Within (columns_of a) (columns_of b)
within_from_zero a b lt e k m =
    let small : k < 32 = (IsColSet-columns_of a).below k m in
    in_has (columns_of b) k (has-columns_of_below b k small ∙ no_rest (has_bit a k) (has_bit b k)
    (sym (has-columns_of_below a k small) ∙ has_in (columns_of a) k m)
    (sym (has_bit-minus a b k lt small) ∙ ap (λ n. has_bit n k) e ∙ ap (λ n. eqb n 1) (bit_at-zero k)))

pub zero_from_within : (a b : ℕ) → a < 2 ^ 32 → b < 2 ^ 32 → Within (columns_of a) (columns_of b) → bit_and a (bit_not w32 b) ≡ 0
zero_from_within a b al bl w = same_from_bits_below 32 _ 0 (below_left a (bit_not w32 b) al (and_le_l a (bit_not w32 b))) (lit< tt) (λ i h.
    no_bit (bit_at (bit_and a (bit_not w32 b)) i) (bit_at-lt (bit_and a (bit_not w32 b)) i)
    (has_bit-minus a b i bl h ∙ none_beyond (has_bit a i) (has_bit b i) (λ t. sym (has-columns_of_below b i h) ∙ has_in (columns_of b) i (w i (in_has (columns_of a) i (has-columns_of_below a i h ∙ t)))))
    ∙ sym (bit_at-zero i))

-- the test of the code is the test of the lists
pub within-masks : (a b : ℕ) → a < 2 ^ 32 → b < 2 ^ 32 → eqb (bit_and a (bit_not w32 b)) 0 ≡ is_within (columns_of a) (columns_of b)
within-masks a b al bl =
    same_bool _ _
    (λ h. test_from_within (columns_of a) (columns_of b) (within_from_zero a b bl (eqb-true _ 0 h)))
    (λ h. eq-eqb _ 0 (zero_from_within a b al bl (within_from_test (columns_of a) (columns_of b) h)))

-- ---- the mask of a set

bit_cond : (b : ℕ) (x y : ℕ) → b < 2 → y + b * x ≡ cond (eqb b 1) (x + y) y
bit_cond zero x y h = omega arith
bit_cond (suc zero) x y h = omega arith
bit_cond (suc (suc b)) x y h = absurd (omega arith)

mask_cond : (b : Bool) (x : ℕ) (xs : List ℕ) → mask_of (cond b (x ∷ xs) xs) ≡ cond b (2 ^ x + mask_of xs) (mask_of xs)
mask_cond true x xs = refl
mask_cond false x xs = refl

double : (r b p : ℕ) → r * (p * 2) + b * p ≡ (r * 2 + b) * p
double r b p = omega arith

next_digit : (m a n : ℕ) → m / 2 ^ a % 2 ^ suc n ≡ (m / 2 ^ suc a % 2 ^ n) * 2 + m / 2 ^ a % 2
next_digit m a n =
    let e : suc n ≡ n + 1 = omega arith in
    rw (e, mod-pow-add (m / 2 ^ a) n 1, div-div-eq-div-mul m (2 ^ a) 2, ← pow-suc 2 a) refl

mask_digits : (m a n : ℕ) → (m / 2 ^ suc a % 2 ^ n) * 2 ^ suc a + (m / 2 ^ a % 2) * 2 ^ a ≡ (m / 2 ^ a % 2 ^ suc n) * 2 ^ a
mask_digits m a n = rw (next_digit m a n, pow-suc 2 a) (double (m / (2 ^ a * 2) % 2 ^ n) (m / 2 ^ a % 2) (2 ^ a))

none_left : (q p : ℕ) → 0 ≡ (q % 1) * p
none_left q p = rw (mod-one q) (omega arith)

mask_of-range : (m a n : ℕ) → mask_of (filter (has_bit m) (range_with_len a n)) ≡ (m / 2 ^ a % 2 ^ n) * 2 ^ a
mask_of-range m a zero = none_left (m / 2 ^ a) (2 ^ a)
mask_of-range m a (suc n) =
    let e : a + 1 ≡ suc a = omega arith in
    mask_cond (has_bit m a) a (filter (has_bit m) (range_with_len (a + 1) n))
    ∙ ap (λ x. cond (has_bit m a) (2 ^ a + x) x) (mask_of-range m (a + 1) n ∙ ap (λ k. (m / 2 ^ k % 2 ^ n) * 2 ^ k) e)
    ∙ sym (bit_cond (m / 2 ^ a % 2) (2 ^ a) ((m / 2 ^ suc a % 2 ^ n) * 2 ^ suc a) (omega arith))
    ∙ mask_digits m a n

whole : (m : ℕ) → m < 2 ^ 32 → (m / 1 % 2 ^ 32) * 1 ≡ m
whole m h = rw (div-one m, mod-eq_of_lt h) (omega arith)

-- the mask of the columns of a mask
pub mask_of-columns_of : (m : ℕ) → m < 2 ^ 32 → mask_of (columns_of m) ≡ m
unfolding columns_of
mask_of-columns_of m h = mask_of-range m 0 32 ∙ whole m h

-- ---- counting up the columns

filter_range_more : (p : ℕ → Bool) (n : ℕ) → filter p (range_with_len 0 (n + 1)) ≡ filter p (range_with_len 0 n) ++ cond (p n) (n ∷ []) []
filter_range_more p n =
    ap (filter p) (sym (map-id (range_with_len 0 (n + 1))))
    ∙ filter_of_map_range_with_len_more p (λ x. x) 0 n n (omega arith)
    ∙ ap (λ l. filter p l ++ cond (p n) (n ∷ []) []) (map-id (range_with_len 0 n))

length_cond : (b : Bool) (n : ℕ) (xs : List ℕ) → length (xs ++ cond b (n ∷ []) []) ≡ length xs + cond b 1 0
length_cond true n xs = length-append xs (n ∷ [])
length_cond false n xs = length-append xs []

pub rank_more : (xs : List ℕ) (c : ℕ) → rank xs (c + 1) ≡ rank xs c + cond (has xs c) 1 0
rank_more xs c = ap length (filter_range_more (has xs) c) ∙ length_cond (has xs c) c (filter (has xs) (range_with_len 0 c))

-- a set is the columns below 32 that it has
pub columns_that_it_has : (xs : List ℕ) → IsColSet xs → filter (has xs) (range_with_len 0 32) ≡ xs
columns_that_it_has xs set =
    same_rising nat_cmp nat_order (filter (has xs) (range_with_len 0 32)) xs (rising_filter nat_cmp (has xs) (range_with_len 0 32) (rising_range 0 32)) set.rising
    (λ c m. in_has xs c (in_filter (has xs) c (range_with_len 0 32) m).1)
    (λ c m. filter_in (has xs) c (range_with_len 0 32) (in_has (range_with_len 0 32) c (has-range 0 32 c ∙ below_all c ∙ lt-ltb c 32 (set.below c m))) (has_in xs c m))

-- ---- how many columns a mask has

length_first : (b x : ℕ) (xs : List ℕ) → b < 2 → length (cond (b == 1) (x ∷ xs) xs) ≡ b + length xs
length_first zero x xs h = omega arith
length_first (suc zero) x xs h = omega arith
length_first (suc (suc b)) x xs h = absurd (omega arith)

-- the bits of a number from the s-th on are counted one after another
ones_from : (m k s : ℕ) → m / 2 ^ s < 2 ^ k → count_ones (m / 2 ^ s) ≡ length (filter (has_bit m) (range_with_len s k))
ones_from m zero s h = omega (arith, ones-le 0 (m / 2 ^ s) (omega arith))
ones_from m (suc k) s h =
    let half : m / 2 ^ s / 2 ≡ m / 2 ^ (s + 1) = div-div-eq-div-mul m (2 ^ s) 2 ∙ ap (λ n. m / n) (sym (pow-suc 2 s) ∙ ap (λ n. 2 ^ n) (omega arith)) in
    let rest : count_ones (m / 2 ^ (s + 1)) ≡ length (filter (has_bit m) (range_with_len (s + 1) k)) =
    ones_from m k (s + 1) (omega (arith, half, pow-suc 2 k)) in
    ones_step (m / 2 ^ s) ∙ ap (λ n. bit_at m s + n) (ap count_ones half ∙ rest) ∙ sym (length_first (bit_at m s) s (filter (has_bit m) (range_with_len (s + 1) k)) (omega arith))

pub count_ones-columns_of : (m : ℕ) → m < 2 ^ 32 → count_ones m ≡ length (columns_of m)
unfolding columns_of
count_ones-columns_of m h = ap count_ones (sym (div-one m)) ∙ ones_from m 32 0 (omega (arith, div-one m))

-- a number of which one bit is set is a power of two
pub one_bit : (n : ℕ) → n < 2 ^ 32 → count_ones n ≡ 1 → (k : ℕ) × (n ≡ 2 ^ k)
one_bit n below one = go (columns_of n) (sym (count_ones-columns_of n below) ∙ one) (mask_of-columns_of n below)
  where
    go : (xs : List ℕ) → length xs ≡ 1 → mask_of xs ≡ n → (k : ℕ) × (n ≡ 2 ^ k)
    go [] e is = absurd (omega (arith, e))
    go (k ∷ []) e is = (k, omega (arith, is))
    go (k ∷ j ∷ xs) e is = absurd (omega (arith, e))

-- the bits below c
has_bit-low : (c k : ℕ) → has_bit (2 ^ c - 1) k ≡ ltb k c
has_bit-low c k = elim (cases_below k c) [
  | inl lt ↦ ap (λ n. eqb n 1) (bit_at_ones c k lt) ∙ sym (lt-ltb k c lt)
  | inr ge ↦ ap (λ n. eqb n 1) (bit_at_ones_above c k ge) ∙ sym (le-ltb k c ge)
]

low_within : (a c l : Bool) → ((a && c) && l) ≡ ((a && l) && c)
low_within true true true = refl
low_within true true false = refl
low_within true false true = refl
low_within true false false = refl
low_within false c l = refl

below_range : (c k : ℕ) → (leb 0 k && ltb k (0 + c)) ≡ ltb k c
below_range c k = grind (arith, nat_tests)

columns_of-low : (m c : ℕ) → columns_of (bit_and m (2 ^ c - 1)) ≡ filter (has (columns_of m)) (range_with_len 0 c)
columns_of-low m c =
    same_sets (columns_of (bit_and m (2 ^ c - 1))) (filter (has (columns_of m)) (range_with_len 0 c)) (IsColSet-columns_of (bit_and m (2 ^ c - 1))).rising
    (rising_filter nat_cmp (has (columns_of m)) (range_with_len 0 c) (rising_range 0 c))
    (λ k. has-columns_of (bit_and m (2 ^ c - 1)) k ∙ ap (λ t. t && ltb k 32) (has_bit-and m (2 ^ c - 1) k ∙ ap (λ t. has_bit m k && t) (has_bit-low c k))
    ∙ low_within (has_bit m k) (ltb k c) (ltb k 32)
    ∙ sym (has-filter (has (columns_of m)) (range_with_len 0 c) k ∙ ap (λ t. t && has (range_with_len 0 c) k) (has-columns_of m k)
    ∙ ap (λ t. (has_bit m k && ltb k 32) && t) (has-range 0 c k ∙ below_range c k)))

-- the columns below c are the bits below it
pub rank-from_mask : (m c : ℕ) (xs : List ℕ) → columns_of m ≡ xs → m < 2 ^ 32 → count_ones (bit_and m (2 ^ c - 1)) ≡ rank xs c
rank-from_mask m c xs e h =
    count_ones-columns_of (bit_and m (2 ^ c - 1)) (below_left m (2 ^ c - 1) h (and_le_l m (2 ^ c - 1))) ∙ ap length (columns_of-low m c) ∙ ap (λ l. rank l c) e

-- at most one for each number below c
pub rank-le : (xs : List ℕ) (c : ℕ) → rank xs c ≤ c
rank-le xs zero = omega arith
rank-le xs (suc c) =
    let e : suc c ≡ c + 1 = omega arith in
    subst (λ n. rank xs n ≤ n) (sym e) (omega (arith, rank_more xs c, rank-le xs c, one_at_most (has xs c)))
  where
    one_at_most : (b : Bool) → cond b 1 0 ≤ 1
    one_at_most true = lit≤ tt
    one_at_most false = lit≤ tt

pub length-from_mask : (m : ℕ) (xs : List ℕ) → columns_of m ≡ xs → m < 2 ^ 32 → count_ones m ≡ length xs
length-from_mask m xs e h = count_ones-columns_of m h ∙ ap length e

-- the number of columns is the rank of the end
pub rank_all : (xs : List ℕ) → IsColSet xs → rank xs 32 ≡ length xs
rank_all xs set = ap length (columns_that_it_has xs set)

range_none : (a m : ℕ) → range_with_len a (0 + m) ≡ range_with_len (a + 0) m
range_none a m =
    let e : 0 + m ≡ m = omega arith in
    let z : a ≡ a + 0 = omega arith in
    ap (range_with_len a) e ∙ ap (λ n. range_with_len n m) z

range_step : (a n m : ℕ) → range_with_len (a + 1) (n + m) ≡ range_with_len (a + 1) n ++ range_with_len (a + 1 + n) m → range_with_len a (suc n + m) ≡ a ∷ range_with_len (a + 1) n ++ range_with_len (a + suc n) m
range_step a n m h =
    let e : suc n + m ≡ suc (n + m) = omega arith in
    let z : a + 1 + n ≡ a + suc n = omega arith in
    ap (range_with_len a) e ∙ ap (λ l. a ∷ l) (h ∙ ap (λ k. range_with_len (a + 1) n ++ range_with_len k m) z)

range_split : (a n m : ℕ) → range_with_len a (n + m) ≡ range_with_len a n ++ range_with_len (a + n) m
range_split a zero m = range_none a m
range_split a (suc n) m = range_step a n m (range_split (a + 1) n m)

range_cons : (a n : ℕ) → range_with_len a (1 + n) ≡ a ∷ range_with_len (a + 1) n
range_cons a n = let e : 1 + n ≡ suc n = omega arith in ap (range_with_len a) e

-- one more number at the end
pub range_with_len_more : (a n : ℕ) → range_with_len a (n + 1) ≡ range_with_len a n ++ (a + n) ∷ []
range_with_len_more a n = range_split a n 1

-- the set of the numbers below n, with n
pub range_with_next : (n : ℕ) → with_column (range_with_len 0 n) n ≡ range_with_len 0 (n + 1)
range_with_next n =
    let z : 0 + n ≡ n = omega arith in
    ap (put nat_cmp n) (sym (gather-rising nat_cmp nat_order (range_with_len 0 n) (rising_range 0 n)))
    ∙ sym (gather_more nat_cmp nat_order (range_with_len 0 n) n)
    ∙ ap (gather nat_cmp) (ap (λ k. range_with_len 0 n ++ k ∷ []) (sym z) ∙ sym (range_with_len_more 0 n))
    ∙ gather-rising nat_cmp nat_order (range_with_len 0 (n + 1)) (rising_range 0 (n + 1))

-- the numbers below n, at one of them
pub range_at : (n k : ℕ) → k < n → (after : List ℕ) × (range_with_len 0 n ≡ range_with_len 0 k ++ k ∷ after)
range_at n k h =
    let m : ℕ = n - (k + 1) in
    let e : n ≡ k + (1 + m) = omega (arith, h) in
    let z : 0 + k ≡ k = omega arith in (
      range_with_len (k + 1) m,
      ap (range_with_len 0) e ∙ range_split 0 k (1 + m) ∙ ap (λ a. range_with_len 0 k ++ range_with_len a (1 + m)) z ∙ ap (λ l. range_with_len 0 k ++ l) (range_cons k m),
    )

pub in_range_below : (n k : ℕ) → k < n → In k (range_with_len 0 n)
in_range_below n k l =
    let s : (after : List ℕ) × (range_with_len 0 n ≡ range_with_len 0 k ++ k ∷ after) = range_at n k l in
    subst (In k) (sym s.1) (append_in_right k (range_with_len 0 k) (k ∷ s.0) (inl refl))

filter_cons : (p : ℕ → Bool) (a n : ℕ) → p a ≡ true → filter p (range_with_len a (1 + n)) ≡ a ∷ filter p (range_with_len (a + 1) n)
filter_cons p a n h = ap (filter p) (range_cons a n) ∙ cond-true (p a) _ _ h

-- a set with the column c is the columns below it, c and those above it
split_at : (xs : List ℕ) (c : ℕ) → IsColSet xs → c < 32 → has xs c ≡ true → xs ≡ filter (has xs) (range_with_len 0 c) ++ c ∷ filter (has xs) (range_with_len (c + 1) (31 - c))
split_at xs c set lt h =
    let e : 32 ≡ c + (1 + (31 - c)) = omega arith in
    let z : 0 + c ≡ c = omega arith in
    sym (columns_that_it_has xs set) ∙ ap (λ n. filter (has xs) (range_with_len 0 n)) e ∙ ap (filter (has xs)) (range_split 0 c (1 + (31 - c)) ∙ ap (λ n. range_with_len 0 c ++ range_with_len n (1 + (31 - c))) z)
    ∙ filter-append (has xs) (range_with_len 0 c) (range_with_len c (1 + (31 - c)))
    ∙ ap (λ l. filter (has xs) (range_with_len 0 c) ++ l) (filter_cons (has xs) c (31 - c) h)

slice_get_at : (xs : List ℕ) (x : ℕ) (ys : List ℕ) → slice_get (xs ++ x ∷ ys) (length xs) ≡ Some x
slice_get_at [] x ys = refl
slice_get_at (y ∷ xs) x ys = slice_get_at xs x ys

-- the column with the rank i stands at i
pub slice_get-rank : (xs : List ℕ) (c : ℕ) → IsColSet xs → has xs c ≡ true → slice_get xs (rank xs c) ≡ Some c
slice_get-rank xs c set h =
    ap (λ l. slice_get l (rank xs c)) (split_at xs c set (set.below c (in_has xs c h)) h) ∙ slice_get_at (filter (has xs) (range_with_len 0 c)) c _

-- and so its rank is below the number of columns
pub rank_within : (xs : List ℕ) (c : ℕ) → IsColSet xs → has xs c ≡ true → rank xs c < length xs
rank_within xs c set h = slice_get_within xs (rank xs c) c (slice_get-rank xs c set h)

pub slice_get-at_rank : (xs : List ℕ) (c i : ℕ) → IsColSet xs → has xs c ≡ true → rank xs c ≡ i → Some c ≡ slice_get xs i
slice_get-at_rank xs c i set h e = sym (ap (slice_get xs) (sym e) ∙ slice_get-rank xs c set h)

pub slice_get-past_rank : (xs : List ℕ) (i : ℕ) → IsColSet xs → rank xs 32 ≤ i → None ≡ slice_get xs i
slice_get-past_rank xs i set h = let e : rank xs 32 ≡ length xs = rank_all xs set in sym (slice_get_past xs i (omega arith))
