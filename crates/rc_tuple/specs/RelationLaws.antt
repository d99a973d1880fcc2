-- Laws of relations and of the dependencies that they satisfy.
use Rattle.std.proofs.Common.{◌≡◌, ℕ, Bool, true, false, ◌&&◌, ◌||◌, not, cond, List, [], ◌∷◌, refl, sym, ap, ◌∙◌, subst, ◌⊎◌, inl, inr}
use Rattle.rc_tuple.specs.Imports.{list_any, nat_cmp}
use Rattle.std.proofs.lemmas.Bool.{and_parts, or_cases, and_from, or_left, or_right, not-true, false≢true}
use Rattle.std.specs.Prelude.{◌↔◌}
use Rattle.rc_tuple.specs.RisingSet.{In, IsRising, put}
use Rattle.rc_tuple.specs.RisingSetLaws.{in_put, put_new, put_old, same_bool}
use Rattle.rc_tuple.specs.ColSet.{has}
use Rattle.rc_tuple.specs.Tuple.{Pairs, pair_cmp, project, tuple_cmp, tuple_eq, agree_on}
use Rattle.rc_tuple.specs.TupleLaws.{tuple_order, rising_cols, same_from_test, test_from_same}
use Rattle.rc_tuple.specs.Relation.{IsRelation, SatisfiesOne, Satisfies, Follows, breaks_pair, breaks_with, breaks}
use Rattle.rc_tuple.specs.declared.dep.Dep.{Dep}

-- ---- some element passes a test

pub in_list_any : {A : Type 0} (p : A → Bool) (xs : List A) → list_any p xs ≡ true → (x : A) × In x xs × (p x ≡ true)
in_list_any p [] h = absurd (false≢true h)
in_list_any p (y ∷ ys) h = elim (or_cases (p y) (list_any p ys) h) [
  | inl e ↦ (y, inl refl, e)
  | inr e ↦ let r = in_list_any p ys e in (r.0, inr r.1, r.2)
]

pub list_any_in : {A : Type 0} (p : A → Bool) (xs : List A) (x : A) → In x xs → p x ≡ true → list_any p xs ≡ true
list_any_in p [] x m h = absurd m
list_any_in p (y ∷ ys) x (inl e) h = or_left (p y) (list_any p ys) (ap p (sym e) ∙ h)
list_any_in p (y ∷ ys) x (inr m) h = or_right (p y) (list_any p ys) (list_any_in p ys x m h)

-- ---- agreement

pub agree_from_test : (xs : List ℕ) (t u : Pairs) → agree_on xs t u ≡ true → project xs t ≡ project xs u
agree_from_test xs t u h = same_from_test (project xs t) (project xs u) h

pub test_from_agree : (xs : List ℕ) (t u : Pairs) → project xs t ≡ project xs u → agree_on xs t u ≡ true
test_from_agree xs t u e = test_from_same (project xs t) (project xs u) e

pub agree_on-itself : (xs : List ℕ) (t : Pairs) → agree_on xs t t ≡ true
agree_on-itself xs t = test_from_agree xs t t refl

pub agree_on-swap : (xs : List ℕ) (t u : Pairs) → agree_on xs t u ≡ agree_on xs u t
agree_on-swap xs t u =
    same_bool _ _ (λ h. test_from_agree xs u t (sym (agree_from_test xs t u h))) (λ h. test_from_agree xs t u (sym (agree_from_test xs u t h)))

-- two lists that have the same columns project alike
pub project-same : (xs ys : List ℕ) → ((c : ℕ) → has xs c ≡ has ys c) → (t : Pairs) → project xs t ≡ project ys t
project-same xs ys h [] = refl
project-same xs ys h (p ∷ t) = ap (λ b. cond b (p ∷ project xs t) (project xs t)) (h p.0) ∙ ap (λ l. cond (has ys p.0) (p ∷ l) l) (project-same xs ys h t)

pub agree_on-same : (xs ys : List ℕ) → ((c : ℕ) → has xs c ≡ has ys c) → (t u : Pairs) → agree_on xs t u ≡ agree_on ys t u
agree_on-same xs ys h t u = ap (λ l. tuple_eq l (project xs u)) (project-same xs ys h t) ∙ ap (tuple_eq (project ys t)) (project-same xs ys h u)

-- ---- dependencies

breaks_pair_swap : (d : Dep) (t u : Pairs) → breaks_pair d t u ≡ breaks_pair d u t
breaks_pair_swap d t u = ap (λ b. b && not (agree_on d.right t u)) (agree_on-swap d.left t u) ∙ ap (λ b. agree_on d.left u t && not b) (agree_on-swap d.right t u)

breaks_pair_itself : (d : Dep) (t : Pairs) → breaks_pair d t t ≡ true → ⊥
breaks_pair_itself d t h = false≢true (sym (not-true (agree_on d.right t t) (and_parts (agree_on d.left t t) (not (agree_on d.right t t)) h).1) ∙ agree_on-itself d.right t)

pub breaks_from : (r : List Pairs) (d : Dep) (t u : Pairs) → In t r → In u r → breaks_pair d t u ≡ true → breaks r d ≡ true
breaks_from r d t u m n h = list_any_in (λ x. breaks_with d x r) r t m (list_any_in (breaks_pair d t) r u n h)

-- a relation with one more tuple breaks what it broke, and what the tuple breaks with one of its own
pub breaks-put : (t : Pairs) (r : List Pairs) (d : Dep) → breaks (put tuple_cmp t r) d ≡ (breaks r d || breaks_with d t r)
breaks-put t r d = same_bool _ _ there back
  where
    pair : (x y : Pairs) → (x ≡ t) ⊎ In x r → (y ≡ t) ⊎ In y r → breaks_pair d x y ≡ true → (breaks r d || breaks_with d t r) ≡ true
    pair x y (inl e) (inl f) h = absurd (breaks_pair_itself d t (ap (λ z. breaks_pair d z t) (sym e) ∙ ap (breaks_pair d x) (sym f) ∙ h))
    pair x y (inl e) (inr n) h = or_right (breaks r d) (breaks_with d t r) (list_any_in (breaks_pair d t) r y n (ap (λ z. breaks_pair d z y) (sym e) ∙ h))
    pair x y (inr m) (inl f) h = or_right (breaks r d) (breaks_with d t r) (list_any_in (breaks_pair d t) r x m (breaks_pair_swap d t x ∙ ap (breaks_pair d x) (sym f) ∙ h))
    pair x y (inr m) (inr n) h = or_left (breaks r d) (breaks_with d t r) (breaks_from r d x y m n h)

    there : breaks (put tuple_cmp t r) d ≡ true → (breaks r d || breaks_with d t r) ≡ true
    there h =
        let x = in_list_any (λ z. breaks_with d z (put tuple_cmp t r)) (put tuple_cmp t r) h in
        let y = in_list_any (breaks_pair d x.0) (put tuple_cmp t r) x.2 in
        pair x.0 y.0 (in_put tuple_cmp tuple_order x.0 t r x.1) (in_put tuple_cmp tuple_order y.0 t r y.1) y.2

    back : (breaks r d || breaks_with d t r) ≡ true → breaks (put tuple_cmp t r) d ≡ true
    back h = elim (or_cases (breaks r d) (breaks_with d t r) h) [
      | inl e ↦
          let x = in_list_any (λ z. breaks_with d z r) r e in
          let y = in_list_any (breaks_pair d x.0) r x.2 in
          breaks_from (put tuple_cmp t r) d x.0 y.0 (put_old tuple_cmp tuple_order x.0 t r x.1) (put_old tuple_cmp tuple_order y.0 t r y.1) y.2
      | inr e ↦
          let y = in_list_any (breaks_pair d t) r e in
          breaks_from (put tuple_cmp t r) d t y.0 (put_new tuple_cmp tuple_order t r) (put_old tuple_cmp tuple_order y.0 t r y.1) y.2
    ]

-- the test of a dependency is the fact
pub satisfies_from_test : (r : List Pairs) (d : Dep) → breaks r d ≡ false → SatisfiesOne r d.left d.right
satisfies_from_test r d h t u m n e = go (agree_on d.right t u) refl
  where
    go : (b : Bool) → agree_on d.right t u ≡ b → project d.right t ≡ project d.right u
    go true k = agree_from_test d.right t u k
    go false k = absurd (false≢true (sym h ∙ breaks_from r d t u m n (and_from (agree_on d.left t u) (not (agree_on d.right t u)) (test_from_agree d.left t u e) (ap not k))))

pub test_from_satisfies : (r : List Pairs) (d : Dep) → SatisfiesOne r d.left d.right → breaks r d ≡ false
test_from_satisfies r d s = go (breaks r d) refl
  where
    go : (b : Bool) → breaks r d ≡ b → b ≡ false
    go false h = refl
    go true h =
        let x = in_list_any (λ z. breaks_with d z r) r h in
        let y = in_list_any (breaks_pair d x.0) r x.2 in
        let both = and_parts (agree_on d.left x.0 y.0) (not (agree_on d.right x.0 y.0)) y.2 in
        absurd (false≢true (sym (not-true (agree_on d.right x.0 y.0) both.1)
        ∙ test_from_agree d.right x.0 y.0 (s x.0 y.0 x.1 y.1 (agree_from_test d.left x.0 y.0 both.0))))

-- fewer tuples satisfy what more do
pub satisfies_fewer : (r s : List Pairs) (deps : List Dep) → ((t : Pairs) → In t s → In t r) → Satisfies r deps → Satisfies s deps
satisfies_fewer r s deps f h d m t u a b = h d m t u (f t a) (f u b)

pub satisfies_none : (deps : List Dep) → Satisfies [] deps
satisfies_none deps d m t u a b = absurd a

-- ---- implication

-- the tuples of a relation rise
pub rising_of : (columns : List ℕ) (r : List Pairs) → IsRising nat_cmp columns → IsRelation columns r → (t : Pairs) → In t r → IsRising pair_cmp t
rising_of columns r a i t h = rising_cols t (subst (IsRising nat_cmp) (sym (i.each t h).over) a)

-- a test of implication, at equal lists
pub follows_at : (deps others : List Dep) (xs xs' ys ys' : List ℕ) (b : Bool) → deps ≡ others → xs ≡ xs' → ys ≡ ys' → (b ≡ true) ↔ Follows deps xs ys → (b ≡ true) ↔ Follows others xs' ys'
follows_at deps others xs xs' ys ys' b d x y h =
    subst (λ l. (b ≡ true) ↔ Follows l xs' ys') d (subst (λ l. (b ≡ true) ↔ Follows deps l ys') x (subst (λ l. (b ≡ true) ↔ Follows deps xs l) y h))
