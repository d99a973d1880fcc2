-- Lists by their members: one element more, none, and numbers that stand once.
use Rattle.std.proofs.Common.{◌≡◌, ℕ, ◌<◌, ◌||◌, not, eqb, false, List, [], ◌∷◌, ◌++◌, length, refl, sym, ap, ◌∙◌, subst, inl, inr, arith}
use Rattle.std.proofs.lemmas.Bool.{or_parts, cases_Bool, false≢true, not-false, eqb-true}
use Rattle.rc_reader.specs.Imports.{nat_cmp, In, AreDistinct, gather, in_append, append_in_right, in_filter, filter_in, gather_in, in_gather, in_has, has_in, put_new, nat_order, has, inter}
use Rattle.rc_reader.specs.Names.{has_repeat}

-- what holds of each element and of one more
pub each_push : {A : Type 0} (P : A → Type 0) (xs : List A) (x : A) → ((y : A) → In y xs → P y) → P x → (y : A) → In y (xs ++ x ∷ []) → P y
each_push P xs x all here y m = elim (in_append y xs (x ∷ []) m) [
  | inl old ↦ all y old
  | inr (inl same) ↦ subst P (sym same) here
  | inr (inr none) ↦ absurd none
]

-- of the elements of an empty list all holds
pub each_of_none : {A : Type 0} (P : A → Type 0) (xs : List A) → length xs ≡ 0 → (y : A) → In y xs → P y
each_of_none P [] e y m = absurd m
each_of_none P (x ∷ xs) e y m = absurd (omega arith)

-- one element more, which is new
pub distinct_push : {A : Type 0} (xs : List A) (x : A) → AreDistinct xs → (In x xs → ⊥) → AreDistinct (xs ++ x ∷ [])
distinct_push [] x distinct new = ((λ m. m), tt)
distinct_push (y ∷ ys) x distinct new = (
  (λ m. elim (in_append y ys (x ∷ []) m) [ inl old ↦ distinct.0 old | inr (inl same) ↦ new (inl (sym same)) | inr (inr none) ↦ none ]),
  distinct_push ys x distinct.1 (λ m. new (inr m)),
)

-- the test that no number stands twice
pub distinct_from_test : (ns : List ℕ) → has_repeat ns ≡ false → AreDistinct ns
distinct_from_test [] e = tt
distinct_from_test (n ∷ ns) e =
    let parts = or_parts (has ns n) (has_repeat ns) e in
    ((λ m. absurd (false≢true (sym parts.0 ∙ has_in ns n m))), distinct_from_test ns parts.1)

pub test_from_distinct : (ns : List ℕ) → AreDistinct ns → has_repeat ns ≡ false
test_from_distinct [] distinct = refl
test_from_distinct (n ∷ ns) distinct = elim (cases_Bool (has ns n)) [
  | inl e ↦ absurd (distinct.0 (in_has ns n e))
  | inr e ↦ ap (λ b. b || has_repeat ns) e ∙ test_from_distinct ns distinct.1
]

-- two lists together, each of which has no element twice, and none of the other
pub distinct_append : {A : Type 0} (xs ys : List A) → AreDistinct xs → AreDistinct ys → ((x : A) → In x xs → In x ys → ⊥) → AreDistinct (xs ++ ys)
distinct_append [] ys first second apart = second
distinct_append (x ∷ xs) ys first second apart = (
  (λ m. elim (in_append x xs ys m) [ inl here ↦ first.0 here | inr there ↦ apart x (inl refl) there ]),
  distinct_append xs ys first.1 second (λ y m n. apart y (inr m) n),
)

pub distinct_right : {A : Type 0} (xs ys : List A) → AreDistinct (xs ++ ys) → AreDistinct ys
distinct_right [] ys distinct = distinct
distinct_right (x ∷ xs) ys distinct = distinct_right xs ys distinct.1

pub distinct_apart : {A : Type 0} (xs ys : List A) → AreDistinct (xs ++ ys) → (x : A) → In x xs → In x ys → ⊥
distinct_apart [] ys distinct x m n = m
distinct_apart (z ∷ xs) ys distinct x (inl same) n = distinct.0 (append_in_right z xs ys (subst (λ y. In y ys) same n))
distinct_apart (z ∷ xs) ys distinct x (inr m) n = distinct_apart xs ys distinct.1 x m n

some_member : {A : Type 0} (xs : List A) (x : A) → length xs ≡ 0 → In x xs → ⊥
some_member [] x none m = m
some_member (y ∷ ys) x none m = absurd (omega arith)

-- the test that two lists name nothing together
pub apart_from_test : (xs ys : List ℕ) → not (eqb (length (inter (gather nat_cmp xs) (gather nat_cmp ys))) 0) ≡ false → (x : ℕ) → In x xs → In x ys → ⊥
apart_from_test xs ys e x m n =
    let both = filter_in (has (gather nat_cmp ys)) x (gather nat_cmp xs) (gather_in nat_cmp nat_order x xs m) (has_in (gather nat_cmp ys) x (gather_in nat_cmp nat_order x ys n)) in
    some_member (inter (gather nat_cmp xs) (gather nat_cmp ys)) x (eqb-true (length (inter (gather nat_cmp xs) (gather nat_cmp ys))) 0 (not-false (eqb (length (inter (gather nat_cmp xs) (gather nat_cmp ys))) 0) e)) both

no_member : {A : Type 0} (xs : List A) → ((x : A) → In x xs → ⊥) → length xs ≡ 0
no_member [] none = refl
no_member (x ∷ xs) none = absurd (none x (inl refl))

pub test_from_apart : (xs ys : List ℕ) → ((x : ℕ) → In x xs → In x ys → ⊥) → not (eqb (length (inter (gather nat_cmp xs) (gather nat_cmp ys))) 0) ≡ false
test_from_apart xs ys apart =
    let none = no_member (inter (gather nat_cmp xs) (gather nat_cmp ys)) (λ x m.
    let both = in_filter (has (gather nat_cmp ys)) x (gather nat_cmp xs) m in
    apart x (in_gather nat_cmp nat_order x xs both.0) (in_gather nat_cmp nat_order x ys (in_has (gather nat_cmp ys) x both.1))) in
    ap (λ n. not (eqb n 0)) none

-- the set of some numbers is not empty
pub gather_some : (ns : List ℕ) → 0 < length ns → gather nat_cmp ns ≡ [] → ⊥
gather_some [] more e = absurd (omega arith)
gather_some (n ∷ ns) more e = subst (In n) e (put_new nat_cmp nat_order n (gather nat_cmp ns))
