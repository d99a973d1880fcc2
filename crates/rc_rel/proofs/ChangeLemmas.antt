-- What a change of the list of tuples does, in the words of the plain step.
use Rattle.std.proofs.Common.{◌≡◌, ℕ, zero, suc, ◌+◌, ◌<◌, Bool, true, false, cond, not, ltb, List, [], ◌∷◌, length, Option, Some, None, drop, get_or, position, refl, sym, ap, ◌∙◌, inl, inr, subst, arith}
use Rattle.rc_rel.proofs.Imports.{remove, list_any, filter, position_or_len, cond_both, cond-true, cond-false, ltb-true, ltb-false, not-false, drop_all, drop_more, prefix_len_stops, Less, nat_cmp, In, IsRising, put, gather, each_in, get_or_in, put_old, rising_put, rising_filter, in_filter, not_below_itself, has, has-gather, Pairs, agree_on, cols_of, tuple_cmp, tuple_eq, tuple_order, same_from_test, test_from_same, agree_on-same, satisfies_fewer, Satisfies, Dep, Remove, Removed, Outcome, first_broken_dependency, removed_first, updated_first, updated_unless, plain_by, satisfies_from_none, rising_after, in_after_remove, IsKnownToSatisfy, IsFirst, AreOver}

-- one of the tuples over some columns, by its place
pub over_at : (columns : List ℕ) (tuples : List Pairs) (k : ℕ) (t : Pairs) → AreOver columns tuples → k < length tuples → t ≡ get_or tuples k t → columns ≡ cols_of t
over_at columns tuples k t over within is =
    subst (λ (u : Pairs). columns ≡ cols_of u) (sym is) (each_in (λ (u : Pairs). columns ≡ cols_of u) tuples over (get_or tuples k t) (get_or_in tuples k t within))

filter_drop : (test : Pairs → Bool) (r : List Pairs) → filter test r ≡ filter test (drop (position_or_len test r) r)
filter_drop test [] = refl
filter_drop test (t ∷ r) = go (test t) refl (filter_drop test r)
  where
    go : (b : Bool) → test t ≡ b → filter test r ≡ filter test (drop (position_or_len test r) r) → filter test (t ∷ r) ≡ filter test (drop (cond (not b) (1 + position_or_len test r) 0) (t ∷ r))
    go true e h = refl
    go false e h =
        let n : ℕ = position_or_len test r in
        let next : suc n ≡ 1 + n = omega arith in
        cond-false (test t) (t ∷ filter test r) (filter test r) e ∙ subst (λ k. filter test r ≡ filter test (drop k (t ∷ r))) next h

-- the place that `position` finds is that of the first tuple that passes
pub first_found : (test : Pairs → Bool) (r : List Pairs) (found : Option ℕ) → found ≡ position test r → IsFirst test r found
first_found test r found is =
    let at : ℕ = position_or_len test r in
    subst (IsFirst test r) (sym is) (cond_both (ltb at (length r)) (Some at) None (IsFirst test r)
    (λ y.
    let within : at < length r = ltb-true at (length r) y in
    let passes : test (get_or r at []) ≡ true = not-false (test (get_or r at [])) (prefix_len_stops (λ t. not (test t)) r [] within) in (
      within,
      (filter test (drop (at + 1) r), filter_drop test r ∙ ap (filter test) (drop_more r at [] within) ∙ cond-true (test (get_or r at [])) _ _ passes),
    ))
    (λ n. filter_drop test r ∙ ap (filter test) (drop_all at r (ltb-false at (length r) n))))

any_agrees_same : (xs ys : List ℕ) → ((c : ℕ) → has xs c ≡ has ys c) → (t : Pairs) (r : List Pairs) → list_any (agree_on xs t) r ≡ list_any (agree_on ys t) r
any_agrees_same xs ys h t [] = refl
any_agrees_same xs ys h t (u ∷ r) =
    let a : agree_on xs t u ≡ agree_on ys t u = agree_on-same xs ys h t u in
    let b : list_any (agree_on xs t) r ≡ list_any (agree_on ys t) r = any_agrees_same xs ys h t r in
    cc

-- agreeing on the set of a pattern is agreeing on the pattern
pub any_agrees-set : (pattern : List ℕ) (t : Pairs) (r : List Pairs) → list_any (agree_on (gather nat_cmp pattern) t) r ≡ list_any (agree_on pattern t) r
any_agrees-set pattern t r = any_agrees_same (gather nat_cmp pattern) pattern (has-gather pattern) t r

differs_above : (x u : Pairs) → tuple_cmp x u ≡ Less → tuple_eq u x ≡ false
differs_above x u l = go (tuple_eq u x) refl
  where
    go : (b : Bool) → tuple_eq u x ≡ b → b ≡ false
    go false e = refl
    go true e = let k : tuple_cmp x x ≡ Less = subst (λ z. tuple_cmp x z ≡ Less) (same_from_test u x e) l in absurd (not_below_itself tuple_cmp tuple_order x x k k)

differs_below : (x u : Pairs) → tuple_cmp u x ≡ Less → tuple_eq u x ≡ false
differs_below x u l = go (tuple_eq u x) refl
  where
    go : (b : Bool) → tuple_eq u x ≡ b → b ≡ false
    go false e = refl
    go true e = let k : tuple_cmp x x ≡ Less = subst (λ z. tuple_cmp z x ≡ Less) (same_from_test u x e) l in absurd (not_below_itself tuple_cmp tuple_order x x k k)

keeps_all : (x : Pairs) (r : List Pairs) → ((u : Pairs) → In u r → tuple_eq u x ≡ false) → filter (λ u. not (tuple_eq u x)) r ≡ r
keeps_all x [] f = refl
keeps_all x (u ∷ r) f =
    ap (λ b. cond (not b) (u ∷ filter (λ u. not (tuple_eq u x)) r) (filter (λ u. not (tuple_eq u x)) r)) (f u (inl refl))
    ∙ ap (λ l. u ∷ l) (keeps_all x r (λ w m. f w (inr m)))

-- to leave one tuple of a rising list out is to remove its place
pub filter-remove : (r : List Pairs) (at : ℕ) → IsRising tuple_cmp r → at < length r → filter (λ u. not (tuple_eq u (get_or r at []))) r ≡ remove r at
filter-remove [] at h lt = absurd (omega arith)
filter-remove (x ∷ r) zero h lt =
    ap (λ b. cond (not b) (x ∷ filter (λ u. not (tuple_eq u x)) r) (filter (λ u. not (tuple_eq u x)) r)) (test_from_same x x refl)
    ∙ keeps_all x r (λ u m. differs_above x u (h.0 u m))
filter-remove (x ∷ r) (suc at) h lt =
    let k : at < length r = omega arith in
    ap (λ b. cond (not b) (x ∷ filter (λ u. not (tuple_eq u (get_or r at []))) r) (filter (λ u. not (tuple_eq u (get_or r at []))) r))
    (differs_below (get_or r at []) x (h.0 (get_or r at []) (get_or_in r at [] k)))
    ∙ ap (λ l. x ∷ l) (filter-remove r at h.1 k)

pub removed_at : (found r others : List Pairs) (at : ℕ) → IsRising tuple_cmp r → at < length r → found ≡ get_or r at [] ∷ others
    → removed_first found r ≡ record { reply = Removed (get_or r at []); relation = remove r at }
removed_at found r others at h lt e =
    ap (λ f. removed_first f r) e
    ∙ ap (λ l. let o : Outcome = record { reply = Removed (get_or r at []); relation = l } in o) (filter-remove r at h lt)

-- the tuples without one, by its place
pub rising_remove : (r : List Pairs) (at : ℕ) → IsRising tuple_cmp r → at < length r → IsRising tuple_cmp (remove r at)
rising_remove r at h lt = subst (IsRising tuple_cmp) (filter-remove r at h lt) (rising_filter tuple_cmp (λ u. not (tuple_eq u (get_or r at []))) r h)

pub satisfies_remove : (known : List Dep) (r : List Pairs) (at : ℕ) → IsKnownToSatisfy r known → at < length r → Satisfies (remove r at) known
satisfies_remove known r at k lt =
    satisfies_fewer r (remove r at) known
    (λ u m. (in_filter (λ x. not (tuple_eq x (get_or r at []))) u r (subst (In u) (sym (filter-remove r at k.rising lt)) m)).0) k.satisfies

-- the tuples that agree at the set of a pattern are those that agree on the pattern
pub agreeing-set : (pattern : List ℕ) (t : Pairs) (r : List Pairs) → filter (agree_on pattern t) r ≡ filter (agree_on (gather nat_cmp pattern) t) r
agreeing-set pattern t r = ap (λ p. filter p r) (λ i u. (sym (agree_on-same (gather nat_cmp pattern) pattern (has-gather pattern) t u)) i)

pub updated_at : (found r others : List Pairs) (deps : List Dep) (t : Pairs) (at : ℕ) → IsRising tuple_cmp r → at < length r → found ≡ get_or r at [] ∷ others
    → updated_first found deps t r ≡ updated_unless (first_broken_dependency 1 deps (put tuple_cmp t (remove r at))) (get_or r at []) (put tuple_cmp t (remove r at)) r
updated_at found r others deps t at h lt e =
    ap (λ f. updated_first f deps t r) e
    ∙ ap (λ l. updated_unless (first_broken_dependency 1 deps (put tuple_cmp t l)) (get_or r at []) (put tuple_cmp t l) r) (filter-remove r at h lt)

-- what the code found among the tuples at the set of a pattern
pub agreement_found : (found : Bool) (set list pattern : List ℕ) (t : Pairs) (rows r : List Pairs) → found ≡ list_any (agree_on set t) rows → set ≡ gather nat_cmp list → list ≡ pattern → rows ≡ r
    → list_any (agree_on pattern t) r ≡ found
agreement_found found set list pattern t rows r a b e f =
    sym (any_agrees-set pattern t r) ∙ ap (λ l. list_any (agree_on (gather nat_cmp l) t) r) (sym e) ∙ ap (λ s. list_any (agree_on s t) r) (sym b)
    ∙ ap (λ l. list_any (agree_on set t) l) (sym f) ∙ sym a

-- a relation that breaks no dependency with one more tuple keeps them, with and without it
pub kept_with : (deps : List Dep) (t : Pairs) (r : List Pairs) → IsRising tuple_cmp r → first_broken_dependency 1 deps (put tuple_cmp t r) ≡ None → IsKnownToSatisfy (put tuple_cmp t r) deps
kept_with deps t r h e = record { rising = rising_put tuple_cmp tuple_order t r h; satisfies = satisfies_from_none 1 deps (put tuple_cmp t r) e }

pub kept_without : (deps : List Dep) (t : Pairs) (r : List Pairs) → IsRising tuple_cmp r → first_broken_dependency 1 deps (put tuple_cmp t r) ≡ None → IsKnownToSatisfy r deps
kept_without deps t r h e = record {
  rising = h;
  satisfies = satisfies_fewer (put tuple_cmp t r) r deps (λ u m. put_old tuple_cmp tuple_order u t r m) (satisfies_from_none 1 deps (put tuple_cmp t r) e);
}

-- to leave tuples out keeps what is known
pub kept_after_remove : (pattern : List ℕ) (deps known : List Dep) (args : Pairs) (r : List Pairs) → IsKnownToSatisfy r known
    → IsKnownToSatisfy (plain_by 0 Remove pattern deps args [] r).relation known
kept_after_remove pattern deps known args r h = record {
  rising = rising_after 0 Remove pattern deps args [] r h.rising;
  satisfies = satisfies_fewer r (plain_by 0 Remove pattern deps args [] r).relation known (in_after_remove 0 pattern deps args [] r) h.satisfies;
}
