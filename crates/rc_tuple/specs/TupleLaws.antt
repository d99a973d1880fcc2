-- Laws of tuples: projection, agreement, merging and matching by their pairs.
use Rattle.std.specs.Prelude.{◌≡◌, ℕ, ◌<◌, ◌≤◌, ◌^◌, Bool, true, false, List, [], ◌∷◌, ◌++◌, ◌⊎◌, ◌||◌, ◌&&◌, ◌==◌, Some, filter, cond, not, length}
use Rattle.rc_tuple.specs.Imports.{list_all, slice_get, zip, Ordering, Less, Equal, Greater, ordering_then, nat_cmp, is_eq, nat_cmp_is, tied_itself}
use Rattle.std.proofs.Common.{◌+◌, inl, inr, refl, sym, ap, subst, ◌∙◌, arith, take, drop, get_or}
use Rattle.std.proofs.lemmas.List.{take_more, take_all, map-append, append_assoc, append-nil, length-take, length-map}
use Rattle.std.proofs.lemmas.Option.{get_or_from_slice_get}
use Rattle.rc_tuple.specs.ColSetLaws.{rank_all, rank_more, rank_within, slice_get-rank}
use Rattle.std.proofs.lemmas.Bool.{false≢true, eqb-true, eq-eqb, or_cases, and_parts, and_from, or_left, or_right, cases_Bool}
use Rattle.std.proofs.lemmas.Cmp.{nat_cmp_total, then_total, on_total, lists_total}
use Rattle.rc_tuple.specs.RisingSet.{In, IsRising, AreDistinct, put, gather}
use Rattle.rc_tuple.specs.ColSet.{has, rank, Within, IsColSet}
use Rattle.rc_tuple.specs.Tuple.{Pairs, IsTuple, cols_of, project, agrees, pair_cmp, tuple_cmp, tuple_eq, agree_on, matches, has_pair, same_at, merge, tuple_of}
use Rattle.rc_tuple.specs.RisingSetLaws.{IsOrder, is_eq_equal, rising_gather, in_gather, gather_in, gather-rising, gather_more, put_behind, same_rising, not_below_itself, in_filter, filter_in, filter-filter, rising_filter, in_map, map_in, in_append, append_in_left, append_in_right, nat_order, in_has, has_in, same_bool, list_all_in, in_list_all}

-- the orders

pub then_equal : (a b : Ordering) → ordering_then a b ≡ Equal → (a ≡ Equal) × (b ≡ Equal)
then_equal Less b e = cc
then_equal Equal b e = (refl, e)
then_equal Greater b e = cc

pair_ties : (p q : ℕ × ℕ) → pair_cmp p q ≡ Equal → p ≡ q
pair_ties p q e =
    let f : (nat_cmp p.0 q.0 ≡ Equal) × (nat_cmp p.1 q.1 ≡ Equal) = then_equal (nat_cmp p.0 q.0) (nat_cmp p.1 q.1) e in
    let a : p.0 ≡ q.0 = nat_order.ties p.0 q.0 f.0 in
    let b : p.1 ≡ q.1 = nat_order.ties p.1 q.1 f.1 in λ i. (a i, b i)

pub pair_order : IsOrder pair_cmp
pair_order = record { total = then_total (on_total (λ (p : ℕ × ℕ). p.0) nat_cmp_total) (on_total (λ (p : ℕ × ℕ). p.1) nat_cmp_total); ties = pair_ties }

tuple_ties : (t u : Pairs) → tuple_cmp t u ≡ Equal → t ≡ u
tuple_ties [] [] e = refl
tuple_ties [] (q ∷ u) e = cc
tuple_ties (p ∷ t) [] e = cc
tuple_ties (p ∷ t) (q ∷ u) e =
    let f : (pair_cmp p q ≡ Equal) × (tuple_cmp t u ≡ Equal) = then_equal (pair_cmp p q) (tuple_cmp t u) e in
    let a : p ≡ q = pair_ties p q f.0 in
    let b : t ≡ u = tuple_ties t u f.1 in cc

pub tuple_order : IsOrder tuple_cmp
tuple_order = record { total = lists_total pair_order.total; ties = tuple_ties }

-- projections

pub in_project : (xs : List ℕ) (p : ℕ × ℕ) (t : Pairs) → In p (project xs t) → In p t × In p.0 xs
in_project xs p t h =
    let q : In p t × (has xs p.0 ≡ true) = in_filter (λ (w : ℕ × ℕ). has xs w.0) p t h in (q.0, in_has xs p.0 q.1)

pub project_in : (xs : List ℕ) (p : ℕ × ℕ) (t : Pairs) → In p t → In p.0 xs → In p (project xs t)
project_in xs p t h k = filter_in (λ (w : ℕ × ℕ). has xs w.0) p t h (has_in xs p.0 k)

pub rising_cols : (t : Pairs) → IsRising nat_cmp (cols_of t) → IsRising pair_cmp t
rising_cols [] h = tt
rising_cols (p ∷ t) h = ((λ q k. subst (λ a. ordering_then a (nat_cmp p.1 q.1) ≡ Less) (sym (h.0 q.0 (map_in (λ (w : ℕ × ℕ). w.0) q t k))) refl), rising_cols t h.1)

pub project-project : (xs ys : List ℕ) (t : Pairs) → Within xs ys → project xs (project ys t) ≡ project xs t
project-project xs ys t w = filter-filter (λ (p : ℕ × ℕ). has xs p.0) (λ (p : ℕ × ℕ). has ys p.0) (λ p h. has_in ys p.0 (w p.0 (in_has xs p.0 h))) t

-- who agrees on more agrees on less
pub project_less : (xs ys : List ℕ) (t u : Pairs) → Within xs ys → project ys t ≡ project ys u → project xs t ≡ project xs u
project_less xs ys t u w e = sym (project-project xs ys t w) ∙ ap (project xs) e ∙ project-project xs ys u w

-- agreement

abbrev pub Agree : Pairs → Pairs → Type 0
Agree t u = (p q : ℕ × ℕ) → In p t → In q u → p.0 ≡ q.0 → p ≡ q

same_pair : (p q : ℕ × ℕ) → p.0 ≡ q.0 → p.1 ≡ q.1 → p ≡ q
same_pair p q a b = λ i. (a i, b i)

pair_test : (p q : ℕ × ℕ) → (not (p.0 == q.0) || p.1 == q.1) ≡ true → p.0 ≡ q.0 → p ≡ q
pair_test p q h e =
    elim (or_cases (not (p.0 == q.0)) (p.1 == q.1) h)
    [ inl f ↦ absurd (false≢true (ap not (sym (eq-eqb p.0 q.0 e)) ∙ f)) | inr g ↦ same_pair p q e (eqb-true p.1 q.1 g) ]

test_pair : (p q : ℕ × ℕ) → (p.0 ≡ q.0 → p ≡ q) → (not (p.0 == q.0) || p.1 == q.1) ≡ true
test_pair p q f =
    elim (cases_Bool (p.0 == q.0)) [
      | inl e ↦ or_right (not (p.0 == q.0)) (p.1 == q.1) (eq-eqb p.1 q.1 (ap (λ (w : ℕ × ℕ). w.1) (f (eqb-true p.0 q.0 e))))
      | inr e ↦ or_left (not (p.0 == q.0)) (p.1 == q.1) (ap not e)
    ]

pub agree_from : (t u : Pairs) → agrees t u ≡ true → Agree t u
agree_from t u e p q h k c =
    pair_test p q (list_all_in (λ (z : ℕ × ℕ). not (p.0 == z.0) || p.1 == z.1) u (list_all_in (λ (w : ℕ × ℕ). list_all (λ (z : ℕ × ℕ). not (w.0 == z.0) || w.1 == z.1) u) t e p h) q k) c

pub agrees_to : (t u : Pairs) → Agree t u → agrees t u ≡ true
agrees_to t u f =
    in_list_all (λ (w : ℕ × ℕ). list_all (λ (z : ℕ × ℕ). not (w.0 == z.0) || w.1 == z.1) u) t
    (λ p h. in_list_all (λ (z : ℕ × ℕ). not (p.0 == z.0) || p.1 == z.1) u (λ q k. test_pair p q (f p q h k)))

-- merges

pub in_merge : (t u : Pairs) (p : ℕ × ℕ) → In p (merge t u) → In p t ⊎ In p u
in_merge t u p h = in_append p t u (in_gather pair_cmp pair_order p (t ++ u) h)

pub merge_left : (t u : Pairs) (p : ℕ × ℕ) → In p t → In p (merge t u)
merge_left t u p h = gather_in pair_cmp pair_order p (t ++ u) (append_in_left p t u h)

pub merge_right : (t u : Pairs) (p : ℕ × ℕ) → In p u → In p (merge t u)
merge_right t u p h = gather_in pair_cmp pair_order p (t ++ u) (append_in_right p t u h)

pub rising_merge : (t u : Pairs) → IsRising pair_cmp (merge t u)
rising_merge t u = rising_gather pair_cmp pair_order (t ++ u)

-- ---- tuples

pub rising_pairs : (t : Pairs) → IsTuple t → IsRising pair_cmp t
rising_pairs t h = rising_cols t h.rising

below_its_column : (x : ℕ × ℕ) (t : Pairs) → IsRising nat_cmp (cols_of (x ∷ t)) → (q : ℕ × ℕ) → In q t → x.0 ≡ q.0 → ⊥
below_its_column x t r q n e =
    let l : nat_cmp x.0 x.0 ≡ Less = subst (λ k. nat_cmp x.0 k ≡ Less) (sym e) (r.0 q.0 (map_in (λ (w : ℕ × ℕ). w.0) q t n)) in
    not_below_itself nat_cmp nat_order x.0 x.0 l l

-- a tuple has one pair at a column
pub one_pair : (t : Pairs) → IsRising nat_cmp (cols_of t) → (p q : ℕ × ℕ) → In p t → In q t → p.0 ≡ q.0 → p ≡ q
one_pair [] r p q m n e = absurd m
one_pair (x ∷ t) r p q (inl a) (inl b) e = a ∙ sym b
one_pair (x ∷ t) r p q (inl a) (inr n) e = absurd (below_its_column x t r q n (ap (λ (w : ℕ × ℕ). w.0) (sym a) ∙ e))
one_pair (x ∷ t) r p q (inr m) (inl b) e = absurd (below_its_column x t r p m (ap (λ (w : ℕ × ℕ). w.0) (sym b) ∙ sym e))
one_pair (x ∷ t) r p q (inr m) (inr n) e = one_pair t r.1 p q m n e

-- ---- equality of tuples as a test

itself : (t : Pairs) → tuple_cmp t t ≡ Equal
itself [] = refl
itself (p ∷ t) =
    let a : nat_cmp p.0 p.0 ≡ Equal = tied_itself nat_order.total p.0 in
    let b : nat_cmp p.1 p.1 ≡ Equal = tied_itself nat_order.total p.1 in
    ap (λ x. ordering_then (ordering_then x (nat_cmp p.1 p.1)) (tuple_cmp t t)) a ∙ ap (λ x. ordering_then x (tuple_cmp t t)) b ∙ itself t

pub same_from_test : (t u : Pairs) → tuple_eq t u ≡ true → t ≡ u
same_from_test t u e = tuple_order.ties t u (is_eq_equal (tuple_cmp t u) e)

pub test_from_same : (t u : Pairs) → t ≡ u → tuple_eq t u ≡ true
test_from_same t u e = ap (λ x. tuple_eq t x) (sym e) ∙ ap is_eq (itself t)

-- ---- a tuple gathered from pairs

-- the pairs give no column two values
abbrev pub GivesOne : Pairs → Type 0
GivesOne ps = (p q : ℕ × ℕ) → In p ps → In q ps → p.0 ≡ q.0 → p ≡ q

below_or_same : (a b : ℕ) (o : Ordering) → ordering_then (nat_cmp a b) o ≡ Less → (a ≡ b → ⊥) → nat_cmp a b ≡ Less
below_or_same a b o h d = go (nat_cmp a b) refl h
  where
    go : (x : Ordering) → nat_cmp a b ≡ x → ordering_then x o ≡ Less → x ≡ Less
    go Less e h = refl
    go Equal e h = absurd (d (nat_order.ties a b e))
    go Greater e h = cc

pub rising_columns : (ps : Pairs) → IsRising pair_cmp ps → GivesOne ps → IsRising nat_cmp (cols_of ps)
rising_columns [] r g = tt
rising_columns (p ∷ ps) r g = (first p ps r g, rising_columns ps r.1 (λ x y m n e. g x y (inr m) (inr n) e))
  where
    not_itself : (p q : ℕ × ℕ) → pair_cmp p q ≡ Less → p ≡ q → ⊥
    not_itself p q l e = let k : pair_cmp p p ≡ Less = subst (λ x. pair_cmp p x ≡ Less) (sym e) l in not_below_itself pair_cmp pair_order p p k k

    first : (p : ℕ × ℕ) (ps : Pairs) → IsRising pair_cmp (p ∷ ps) → GivesOne (p ∷ ps) → (c : ℕ) → In c (cols_of ps) → nat_cmp p.0 c ≡ Less
    first p ps r g c m =
        let w = in_map (λ (x : ℕ × ℕ). x.0) c ps m in
        let lt : nat_cmp p.0 w.0.0 ≡ Less = below_or_same p.0 w.0.0 (nat_cmp p.1 w.0.1) (r.0 w.0 w.1) (λ e. not_itself p w.0 (r.0 w.0 w.1) (g p w.0 (inl refl) (inr w.1) e)) in
        subst (λ k. nat_cmp p.0 k ≡ Less) (sym w.2) lt

pub IsTuple-gather : (ps : Pairs) → GivesOne ps → ((p : ℕ × ℕ) → In p ps → p.0 < 32) → ((p : ℕ × ℕ) → In p ps → p.1 < 2 ^ 64) → IsTuple (gather pair_cmp ps)
IsTuple-gather ps g c v = record {
  rising = rising_columns (gather pair_cmp ps) (rising_gather pair_cmp pair_order ps) (λ p q m n e. g p q (in_gather pair_cmp pair_order p ps m) (in_gather pair_cmp pair_order q ps n) e);
  columns = λ p m. c p (in_gather pair_cmp pair_order p ps m);
  values = λ p m. v p (in_gather pair_cmp pair_order p ps m);
}

-- two tuples that agree give one
pub GivesOne-append : (t u : Pairs) → IsTuple t → IsTuple u → Agree t u → GivesOne (t ++ u)
GivesOne-append t u a b g p q m n e = go (in_append p t u m) (in_append q t u n)
  where
    go : (In p t ⊎ In p u) → (In q t ⊎ In q u) → p ≡ q
    go (inl x) (inl y) = one_pair t a.rising p q x y e
    go (inl x) (inr y) = g p q x y e
    go (inr x) (inl y) = sym (g q p y x (sym e))
    go (inr x) (inr y) = one_pair u b.rising p q x y e

pub IsTuple-merge : (t u : Pairs) → IsTuple t → IsTuple u → Agree t u → IsTuple (merge t u)
IsTuple-merge t u a b g =
    IsTuple-gather (t ++ u) (GivesOne-append t u a b g)
    (λ p m. elim (in_append p t u m) [ inl x ↦ a.columns p x | inr x ↦ b.columns p x ])
    (λ p m. elim (in_append p t u m) [ inl x ↦ a.values p x | inr x ↦ b.values p x ])

pub IsTuple-filter : (f : ℕ × ℕ → Bool) (t : Pairs) → IsTuple t → IsTuple (filter f t)
IsTuple-filter f t h = record {
  rising = rising_columns (filter f t) (rising_filter pair_cmp f t (rising_pairs t h)) (λ p q m n e. one_pair t h.rising p q (in_filter f p t m).0 (in_filter f q t n).0 e);
  columns = λ p m. h.columns p (in_filter f p t m).0;
  values = λ p m. h.values p (in_filter f p t m).0;
}

-- ---- matching

pub in_has_pair : (t : Pairs) (p : ℕ × ℕ) → has_pair t p ≡ true → In p t
in_has_pair [] p h = absurd (false≢true h)
in_has_pair (q ∷ t) p h = elim (or_cases (q.0 == p.0 && q.1 == p.1) (has_pair t p) h) [
  | inl e ↦ let both = and_parts (q.0 == p.0) (q.1 == p.1) e in inl (same_pair p q (sym (eqb-true q.0 p.0 both.0)) (sym (eqb-true q.1 p.1 both.1)))
  | inr e ↦ inr (in_has_pair t p e)
]

pub has_pair_in : (t : Pairs) (p : ℕ × ℕ) → In p t → has_pair t p ≡ true
has_pair_in [] p m = absurd m
has_pair_in (q ∷ t) p (inl e) =
    or_left (q.0 == p.0 && q.1 == p.1) (has_pair t p)
    (and_from (q.0 == p.0) (q.1 == p.1) (eq-eqb q.0 p.0 (ap (λ (w : ℕ × ℕ). w.0) (sym e))) (eq-eqb q.1 p.1 (ap (λ (w : ℕ × ℕ). w.1) (sym e))))
has_pair_in (q ∷ t) p (inr m) = or_right (q.0 == p.0 && q.1 == p.1) (has_pair t p) (has_pair_in t p m)

-- a tuple matches a pattern exactly where it has each of its pairs
pub matches_within : (s t : Pairs) → IsTuple s → IsTuple t → ((p : ℕ × ℕ) → In p s → In p t) → matches s t ≡ true
matches_within s t a b f =
    test_from_same (project (cols_of s) t) s
    (same_rising pair_cmp pair_order (project (cols_of s) t) s (rising_filter pair_cmp (λ (p : ℕ × ℕ). has (cols_of s) p.0) t (rising_pairs t b)) (rising_pairs s a)
    (λ p m. back p (in_project (cols_of s) p t m))
    (λ p m. project_in (cols_of s) p t (f p m) (map_in (λ (w : ℕ × ℕ). w.0) p s m)))
  where
    back : (p : ℕ × ℕ) → In p t × In p.0 (cols_of s) → In p s
    back p h =
        let w = in_map (λ (x : ℕ × ℕ). x.0) p.0 s h.1 in
        subst (λ x. In x s) (one_pair t b.rising w.0 p (f w.0 w.1) h.0 (sym w.2)) w.1

pub within_matches : (s t : Pairs) → matches s t ≡ true → (p : ℕ × ℕ) → In p s → In p t
within_matches s t e p m =
    (in_project (cols_of s) p t (subst (λ x. In p x) (sym (same_from_test (project (cols_of s) t) s e)) m)).0

pub matches_has_pairs : (s t : Pairs) → IsTuple s → IsTuple t → list_all (has_pair t) s ≡ matches s t
matches_has_pairs s t a b =
    same_bool _ _
    (λ h. matches_within s t a b (λ p m. in_has_pair t p (list_all_in (has_pair t) s h p m)))
    (λ h. in_list_all (has_pair t) s (λ p m. has_pair_in t p (within_matches s t h p m)))

-- ---- agreement of tuples over the same columns, pair by pair

pub agree_on_zip : (xs : List ℕ) (t u : Pairs) → cols_of t ≡ cols_of u → list_all (same_at xs) (zip t u) ≡ agree_on xs t u
agree_on_zip xs [] [] e = refl
agree_on_zip xs [] (q ∷ u) e = cc
agree_on_zip xs (p ∷ t) [] e = cc
agree_on_zip xs (p ∷ t) (q ∷ u) e = step (has xs p.0) refl (agree_on_zip xs t u tails)
  where
    heads : p.0 ≡ q.0
    heads = let f : List ℕ → ℕ = λ l. get_or l 0 0 in ap f e

    tails : cols_of t ≡ cols_of u
    tails = ap (drop 1) e

    agree_step : Bool → Bool → Bool
    agree_step a b = tuple_eq (cond a (p ∷ project xs t) (project xs t)) (cond b (q ∷ project xs u) (project xs u))

    first_same : (p ∷ project xs t) ≡ (q ∷ project xs u) → p ≡ q
    first_same y = cc

    equal_heads : (b : Bool) → (p.1 == q.1) ≡ b → tuple_eq (p ∷ project xs t) (q ∷ project xs u) ≡ (b && tuple_eq (project xs t) (project xs u))
    equal_heads true h =
        let v : p ≡ q = same_pair p q heads (eqb-true p.1 q.1 h) in
        ap (λ x. is_eq (ordering_then (pair_cmp p x) (tuple_cmp (project xs t) (project xs u)))) (sym v)
        ∙ ap (λ x. is_eq (ordering_then x (tuple_cmp (project xs t) (project xs u)))) (tied_itself pair_order.total p)
    equal_heads false h =
        same_bool _ _
        (λ y. absurd (false≢true (sym h ∙ eq-eqb p.1 q.1 (ap (λ (w : ℕ × ℕ). w.1) (first_same (same_from_test (p ∷ project xs t) (q ∷ project xs u) y))))))
        (λ y. absurd (false≢true y))

    step : (b : Bool) → has xs p.0 ≡ b → list_all (same_at xs) (zip t u) ≡ agree_on xs t u
        → ((not b || p.1 == q.1) && list_all (same_at xs) (zip t u)) ≡ agree_step b (has xs q.0)
    step true h ih =
        ap (λ x. (p.1 == q.1) && x) ih ∙ sym (equal_heads (p.1 == q.1) refl)
        ∙ sym (ap (agree_step true) (ap (has xs) (sym heads) ∙ h))
    step false h ih = ih ∙ sym (ap (agree_step false) (ap (has xs) (sym heads) ∙ h))

-- ---- the tuple of columns and values

zip_columns : (cols vals : List ℕ) (p : ℕ × ℕ) → In p (zip cols vals) → In p.0 cols × In p.1 vals
zip_columns [] vals p m = absurd m
zip_columns (c ∷ cols) [] p m = absurd m
zip_columns (c ∷ cols) (v ∷ vals) p (inl e) = (inl (ap (λ (w : ℕ × ℕ). w.0) e), inl (ap (λ (w : ℕ × ℕ). w.1) e))
zip_columns (c ∷ cols) (v ∷ vals) p (inr m) = let w = zip_columns cols vals p m in (inr w.0, inr w.1)

GivesOne-zip : (cols vals : List ℕ) → AreDistinct cols → GivesOne (zip cols vals)
GivesOne-zip [] vals d p q m n e = absurd m
GivesOne-zip (c ∷ cols) [] d p q m n e = absurd m
GivesOne-zip (c ∷ cols) (v ∷ vals) d p q (inl a) (inl b) e = a ∙ sym b
GivesOne-zip (c ∷ cols) (v ∷ vals) d p q (inl a) (inr n) e =
    absurd (d.0 (subst (λ k. In k cols) (sym e ∙ ap (λ (w : ℕ × ℕ). w.0) a) (zip_columns cols vals q n).0))
GivesOne-zip (c ∷ cols) (v ∷ vals) d p q (inr m) (inl b) e =
    absurd (d.0 (subst (λ k. In k cols) (e ∙ ap (λ (w : ℕ × ℕ). w.0) b) (zip_columns cols vals p m).0))
GivesOne-zip (c ∷ cols) (v ∷ vals) d p q (inr m) (inr n) e = GivesOne-zip cols vals d.1 p q m n e

pub IsTuple-tuple_of : (cols vals : List ℕ) → AreDistinct cols → ((c : ℕ) → In c cols → c < 32) → ((v : ℕ) → In v vals → v < 2 ^ 64) → IsTuple (tuple_of cols vals)
IsTuple-tuple_of cols vals d c v =
    IsTuple-gather (zip cols vals) (GivesOne-zip cols vals d)
    (λ p m. c p.0 (zip_columns cols vals p m).0)
    (λ p m. v p.1 (zip_columns cols vals p m).1)

pub zip_more : (cols vals : List ℕ) (c v : ℕ) → length cols ≡ length vals → zip (cols ++ c ∷ []) (vals ++ v ∷ []) ≡ zip cols vals ++ (c, v) ∷ []
zip_more [] [] c v e = refl
zip_more [] (w ∷ vals) c v e = absurd (omega arith)
zip_more (d ∷ cols) [] c v e = absurd (omega arith)
zip_more (d ∷ cols) (w ∷ vals) c v e = ap (λ l. (d, w) ∷ l) (zip_more cols vals c v (omega arith))

-- one more column with its value
pub tuple_of_more : (cols vals : List ℕ) (c v : ℕ) → length cols ≡ length vals → tuple_of (cols ++ c ∷ []) (vals ++ v ∷ []) ≡ put pair_cmp (c, v) (tuple_of cols vals)
tuple_of_more cols vals c v e = ap (gather pair_cmp) (zip_more cols vals c v e) ∙ gather_more pair_cmp pair_order (zip cols vals) (c, v)

pub cols_of-zip : (cols vals : List ℕ) → length vals ≡ length cols → cols_of (zip cols vals) ≡ cols
cols_of-zip [] vals e = refl
cols_of-zip (c ∷ cols) [] e = absurd (omega arith)
cols_of-zip (c ∷ cols) (v ∷ vals) e = ap (λ l. c ∷ l) (cols_of-zip cols vals (omega arith))

pub IsTuple-zip : (cols vals : List ℕ) → length vals ≡ length cols → IsColSet cols → ((v : ℕ) → In v vals → v < 2 ^ 64) → IsTuple (zip cols vals)
IsTuple-zip cols vals e s v = record {
  rising = subst (IsRising nat_cmp) (sym (cols_of-zip cols vals e)) s.rising;
  columns = λ p m. s.below p.0 (zip_columns cols vals p m).0;
  values = λ p m. v p.1 (zip_columns cols vals p m).1;
}

-- the columns so far, with one more
pub columns_more : (t : Pairs) (i : ℕ) (d : ℕ × ℕ) → i < length t → gather nat_cmp (cols_of (take (i + 1) t)) ≡ put nat_cmp (get_or t i d).0 (gather nat_cmp (cols_of (take i t)))
columns_more t i d h =
    ap (λ l. gather nat_cmp (cols_of l)) (take_more t i d h)
    ∙ ap (gather nat_cmp) (map-append (λ (p : ℕ × ℕ). p.0) (take i t) (get_or t i d ∷ []))
    ∙ gather_more nat_cmp nat_order (cols_of (take i t)) (get_or t i d).0

-- the pairs of both so far, with one more
pub merge_more : (t u : Pairs) (i : ℕ) (d : ℕ × ℕ) → i < length u → merge t (take (i + 1) u) ≡ put pair_cmp (get_or u i d) (merge t (take i u))
merge_more t u i d h =
    ap (λ l. gather pair_cmp (t ++ l)) (take_more u i d h) ∙ ap (gather pair_cmp) (sym (append_assoc t (take i u) (get_or u i d ∷ [])))
    ∙ gather_more pair_cmp pair_order (t ++ take i u) (get_or u i d)

-- one more pair of the second
pub merge_with : (t u : Pairs) (p : ℕ × ℕ) → merge t (u ++ p ∷ []) ≡ put pair_cmp p (merge t u)
merge_with t u p = ap (gather pair_cmp) (sym (append_assoc t u (p ∷ []))) ∙ gather_more pair_cmp pair_order (t ++ u) p

-- a pair at a column above the last one goes behind all
pub put_above : (t : Pairs) (c v : ℕ) (p : ℕ × ℕ) (i : ℕ) → IsRising pair_cmp t → slice_get t i ≡ Some p → i + 1 ≡ length t → p.0 < c → put pair_cmp (c, v) t ≡ t ++ (c, v) ∷ []
put_above t c v p i r e l below =
    put_behind pair_cmp pair_order (c, v) p t i r e l (ap (λ a. ordering_then a (nat_cmp v p.1)) (sym (nat_cmp_is c p.0 Greater below)))

pub merge_none : (t : Pairs) → IsRising pair_cmp t → merge t [] ≡ t
merge_none t r = ap (gather pair_cmp) (append-nil t) ∙ gather-rising pair_cmp pair_order t r

-- one more column with its value, by place
pub tuple_of_next : (cols vals : List ℕ) (i : ℕ) → length vals ≡ length cols → i < length cols
    → tuple_of (take (i + 1) cols) (take (i + 1) vals) ≡ put pair_cmp (get_or cols i 0, get_or vals i 0) (tuple_of (take i cols) (take i vals))
tuple_of_next cols vals i e h =
    let k : i < length vals = omega arith in
    let same : length (take i cols) ≡ length (take i vals) = omega (arith, length-take i cols, length-take i vals) in
    ap (λ l. tuple_of l (take (i + 1) vals)) (take_more cols i 0 h) ∙ ap (tuple_of (take i cols ++ get_or cols i 0 ∷ [])) (take_more vals i 0 k)
    ∙ tuple_of_more (take i cols) (take i vals) (get_or cols i 0) (get_or vals i 0) same

pub zip_next : (cols vals : List ℕ) (i c : ℕ) → length vals ≡ length cols → i < length cols → c ≡ get_or cols i 0
    → zip (take (i + 1) cols) (take (i + 1) vals) ≡ zip (take i cols) (take i vals) ++ (c, get_or vals i 0) ∷ []
zip_next cols vals i c e h f =
    let k : i < length vals = omega arith in
    let same : length (take i cols) ≡ length (take i vals) = omega (arith, length-take i cols, length-take i vals) in
    ap (λ l. zip l (take (i + 1) vals)) (take_more cols i 0 h) ∙ ap (zip (take i cols ++ get_or cols i 0 ∷ [])) (take_more vals i 0 k)
    ∙ zip_more (take i cols) (take i vals) (get_or cols i 0) (get_or vals i 0) same
    ∙ ap (λ x. zip (take i cols) (take i vals) ++ (x, get_or vals i 0) ∷ []) (sym f)

-- the pairs of the columns below one, each with the value at its rank
abbrev pub zip_below : List ℕ → List ℕ → ℕ → Pairs
zip_below cols vals c = zip (take (rank cols c) cols) (take (rank cols c) vals)

pub length-zip_below : (cols vals : List ℕ) (c : ℕ) → length vals ≡ length cols → rank cols c ≤ length cols → length (zip_below cols vals c) ≡ rank cols c
length-zip_below cols vals c e le =
    let same : length (take (rank cols c) vals) ≡ length (take (rank cols c) cols) = omega (arith, length-take (rank cols c) cols, length-take (rank cols c) vals) in
    sym (length-map (zip_below cols vals c) (λ p. p.0)) ∙ ap length (cols_of-zip (take (rank cols c) cols) (take (rank cols c) vals) same) ∙ omega (arith, length-take (rank cols c) cols)

pub zip_below_with : (cols vals : List ℕ) (c : ℕ) → IsColSet cols → length vals ≡ length cols → has cols c ≡ true
    → zip_below cols vals c ++ (c, get_or vals (rank cols c) 0) ∷ [] ≡ zip_below cols vals (c + 1)
zip_below_with cols vals c set e h =
    let there : c ≡ get_or cols (rank cols c) 0 = sym (get_or_from_slice_get cols (rank cols c) c 0 (slice_get-rank cols c set h)) in
    sym (zip_next cols vals (rank cols c) c e (rank_within cols c set h) there) ∙ ap (λ n. zip (take n cols) (take n vals)) (sym (rank_more cols c ∙ ap (λ b. rank cols c + cond b 1 0) h))

pub zip_below_without : (cols vals : List ℕ) (c : ℕ) → has cols c ≡ false → zip_below cols vals c ≡ zip_below cols vals (c + 1)
zip_below_without cols vals c h =
    let same : rank cols (c + 1) ≡ rank cols c = rank_more cols c ∙ ap (λ b. rank cols c + cond b 1 0) h ∙ omega arith in
    ap (λ n. zip (take n cols) (take n vals)) (sym same)

pub zip_below_all : (cols vals : List ℕ) → IsColSet cols → length vals ≡ length cols → zip_below cols vals 32 ≡ zip cols vals
zip_below_all cols vals set e =
    let all : rank cols 32 ≡ length cols = rank_all cols set in
    ap (λ l. zip l (take (rank cols 32) vals)) (take_all (rank cols 32) cols (omega arith)) ∙ ap (zip cols) (take_all (rank cols 32) vals (omega arith))

-- the columns of a tuple of columns and values
pub cols_of-tuple_of : (cols vals : List ℕ) → AreDistinct cols → length vals ≡ length cols → cols_of (tuple_of cols vals) ≡ gather nat_cmp cols
cols_of-tuple_of cols vals d e =
    same_rising nat_cmp nat_order (cols_of (tuple_of cols vals)) (gather nat_cmp cols)
    (rising_columns (tuple_of cols vals) (rising_gather pair_cmp pair_order (zip cols vals))
    (λ p q m n f. GivesOne-zip cols vals d p q (in_gather pair_cmp pair_order p (zip cols vals) m) (in_gather pair_cmp pair_order q (zip cols vals) n) f))
    (rising_gather nat_cmp nat_order cols)
    (λ c m.
    let w = in_map (λ (p : ℕ × ℕ). p.0) c (tuple_of cols vals) m in
    gather_in nat_cmp nat_order c cols (subst (λ k. In k cols) (sym w.2) (zip_columns cols vals w.0 (in_gather pair_cmp pair_order w.0 (zip cols vals) w.1)).0))
    (λ c m.
    let n : In c (cols_of (zip cols vals)) = subst (In c) (sym (cols_of-zip cols vals e)) (in_gather nat_cmp nat_order c cols m) in
    let w = in_map (λ (p : ℕ × ℕ). p.0) c (zip cols vals) n in
    subst (λ k. In k (cols_of (tuple_of cols vals))) (sym w.2) (map_in (λ (p : ℕ × ℕ). p.0) w.0 (tuple_of cols vals) (gather_in pair_cmp pair_order w.0 (zip cols vals) w.1)))

-- ---- the columns of a projection

pub fewer_cols : (xs : List ℕ) (t : Pairs) (c : ℕ) → In c (cols_of (project xs t)) → In c (cols_of t)
fewer_cols xs t c m =
    let p : (p : ℕ × ℕ) × In p (project xs t) × (c ≡ p.0) = in_map (λ (q : ℕ × ℕ). q.0) c (project xs t) m in
    subst (λ z. In z (cols_of t)) (sym p.2) (map_in (λ (q : ℕ × ℕ). q.0) p.0 t (in_project xs p.0 t p.1).0)

rising_with : (xs : List ℕ) (p : ℕ × ℕ) (t : Pairs) (b : Bool) → ((c : ℕ) → In c (cols_of t) → nat_cmp p.0 c ≡ Less) → IsRising nat_cmp (cols_of (project xs t))
    → IsRising nat_cmp (cols_of (cond b (p ∷ project xs t) (project xs t)))
rising_with xs p t true h ih = ((λ c m. h c (fewer_cols xs t c m)), ih)
rising_with xs p t false h ih = ih

pub rising_cols-project : (xs : List ℕ) (t : Pairs) → IsRising nat_cmp (cols_of t) → IsRising nat_cmp (cols_of (project xs t))
rising_cols-project xs [] h = tt
rising_cols-project xs (p ∷ t) h = rising_with xs p t (has xs p.0) h.0 (rising_cols-project xs t h.1)

-- the columns of a projection on columns of the tuple
pub cols-project : (columns xs : List ℕ) (t : Pairs) → IsRising nat_cmp columns → IsRising nat_cmp xs → Within xs columns → cols_of t ≡ columns → cols_of (project xs t) ≡ xs
cols-project columns xs t r s w over =
    same_rising nat_cmp nat_order (cols_of (project xs t)) xs (rising_cols-project xs t (subst (IsRising nat_cmp) (sym over) r)) s
    (λ c m.
    let p : (p : ℕ × ℕ) × In p (project xs t) × (c ≡ p.0) = in_map (λ (q : ℕ × ℕ). q.0) c (project xs t) m in
    subst (λ z. In z xs) (sym p.2) (in_project xs p.0 t p.1).1)
    (λ c m.
    let p : (p : ℕ × ℕ) × In p t × (c ≡ p.0) = in_map (λ (q : ℕ × ℕ). q.0) c t (subst (In c) (sym over) (w c m)) in
    subst (λ z. In z (cols_of (project xs t))) (sym p.2) (map_in (λ (q : ℕ × ℕ). q.0) p.0 (project xs t) (project_in xs p.0 t p.1 (subst (λ z. In z xs) p.2 m))))

-- ---- agreement on several sets

part_by : (xs : List ℕ) (t u : Pairs) → ((c : ℕ) → In c xs → (ys : List ℕ) × In c ys × (project ys t ≡ project ys u)) → (p : ℕ × ℕ) → In p (project xs t) → In p (project xs u)
part_by xs t u f p h =
    let q : In p t × In p.0 xs = in_project xs p t h in
    let g : (ys : List ℕ) × In p.0 ys × (project ys t ≡ project ys u) = f p.0 q.1 in
    project_in xs p u (in_project g.0 p u (subst (In p) g.2 (project_in g.0 p t q.0 g.1))).0 q.1

-- tuples that agree on columns that together hold xs agree on xs
pub project_by : (xs : List ℕ) (t u : Pairs) → IsRising pair_cmp t → IsRising pair_cmp u → ((c : ℕ) → In c xs → (ys : List ℕ) × In c ys × (project ys t ≡ project ys u)) → project xs t ≡ project xs u
project_by xs t u a b f =
    same_rising pair_cmp pair_order (project xs t) (project xs u)
    (rising_filter pair_cmp (λ (p : ℕ × ℕ). has xs p.0) t a) (rising_filter pair_cmp (λ (p : ℕ × ℕ). has xs p.0) u b)
    (part_by xs t u f) (part_by xs u t (λ c h. ((f c h).0, (f c h).1, sym (f c h).2)))
