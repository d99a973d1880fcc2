-- The columns in which two tuples differ.
use Rattle.std.specs.Prelude.{◌≡◌, ℕ, ◌+◌, ◌<◌, ◌==◌, ◌&&◌, ◌||◌, Bool, true, false, List, [], ◌∷◌, cond, drop, get_or, length, not}
use Rattle.rc_machine.proofs.Imports.{list_all, zip, eq-eqb, eqb-true, false≢true, drop_more, has, inter, with_column, has-with_column, Pairs, agree_on, cols_of, same_at, agree_on_zip}
use Rattle.std.proofs.Common.{refl, sym, ap, ◌∙◌, arith}

-- whether none of the columns is in the set
abbrev pub is_apart : List ℕ → List ℕ → Bool
is_apart cols set = length (inter cols set) == 0

and_false : (b : Bool) → (b && false) ≡ false
and_false true = refl
and_false false = refl

not_empty : (x : ℕ) (xs : List ℕ) → (length (x ∷ xs) == 0) ≡ false
not_empty x xs = go (length (x ∷ xs) == 0) refl
  where
    go : (b : Bool) → (length (x ∷ xs) == 0) ≡ b → b ≡ false
    go true e = absurd (let q : length (x ∷ xs) ≡ 0 = eqb-true (length (x ∷ xs)) 0 e in omega (arith, q))
    go false e = refl

-- so it is with one column more
apart_with : (cols set : List ℕ) (c : ℕ) → is_apart cols (with_column set c) ≡ (not (has cols c) && is_apart cols set)
apart_with [] set c = refl
apart_with (x ∷ cols) set c = go (has (with_column set c) x) (has set x) (x == c) (has-with_column set c x) (apart_with cols set c)
  where
    go : (w a b : Bool) → w ≡ (a || b) → is_apart cols (with_column set c) ≡ (not (has cols c) && is_apart cols set)
        → (length (cond w (x ∷ inter cols (with_column set c)) (inter cols (with_column set c))) == 0) ≡ (not (b || has cols c) && (length (cond a (x ∷ inter cols set) (inter cols set)) == 0))
    go true true b e ih = not_empty x (inter cols (with_column set c)) ∙ sym (ap (λ z. not (b || has cols c) && z) (not_empty x (inter cols set)) ∙ and_false (not (b || has cols c)))
    go true false true e ih = not_empty x (inter cols (with_column set c))
    go true false false e ih = absurd (false≢true (sym e))
    go false true b e ih = absurd (false≢true e)
    go false false true e ih = absurd (false≢true e)
    go false false false e ih = ih

-- the pairs that are left agree at the columns, and none of the columns is in the set
abbrev pub is_same_yet : List ℕ → Pairs → Pairs → List ℕ → Bool
is_same_yet cols t u set = list_all (same_at cols) (zip t u) && is_apart cols set

pub pair_same : (cols : List ℕ) (p q : ℕ × ℕ) (t u : Pairs) (set : List ℕ) → (p.1 == q.1) ≡ true → is_same_yet cols (p ∷ t) (q ∷ u) set ≡ is_same_yet cols t u set
pair_same cols p q t u set e = go (has cols p.0) (p.1 == q.1) e
  where
    go : (h b : Bool) → b ≡ true → (((not h || b) && list_all (same_at cols) (zip t u)) && is_apart cols set) ≡ (list_all (same_at cols) (zip t u) && is_apart cols set)
    go true true e = refl
    go false true e = refl
    go h false e = absurd (false≢true e)

pub pair_differs : (cols : List ℕ) (p q : ℕ × ℕ) (t u : Pairs) (set : List ℕ) → (p.1 == q.1) ≡ false → is_same_yet cols (p ∷ t) (q ∷ u) set ≡ is_same_yet cols t u (with_column set p.0)
pair_differs cols p q t u set e = go (has cols p.0) (p.1 == q.1) (list_all (same_at cols) (zip t u)) e ∙ ap (λ b. list_all (same_at cols) (zip t u) && b) (sym (apart_with cols set p.0))
  where
    go : (h b rest : Bool) → b ≡ false → (((not h || b) && rest) && is_apart cols set) ≡ (rest && (not h && is_apart cols set))
    go true false true e = refl
    go true false false e = refl
    go false false rest e = refl
    go h true rest e = absurd (false≢true (sym e))

-- ---- the pairs one after another

unequal : (m n : ℕ) → (m ≡ n → ⊥) → (m == n) ≡ false
unequal m n apart = go (m == n) refl
  where
    go : (b : Bool) → (m == n) ≡ b → b ≡ false
    go true e = absurd (apart (eqb-true m n e))
    go false e = refl

module _ (t u : Pairs) (n : ℕ) (d : ℕ × ℕ) (l : n < length t) (m : n < length u) where
  next : (cols set : List ℕ) → is_same_yet cols (drop n t) (drop n u) set ≡ is_same_yet cols (get_or t n d ∷ drop (n + 1) t) (get_or u n d ∷ drop (n + 1) u) set
  next cols set = ap (λ z. is_same_yet cols z (drop n u) set) (drop_more t n d l) ∙ ap (λ z. is_same_yet cols (get_or t n d ∷ drop (n + 1) t) z set) (drop_more u n d m)

  pub next_same : (cols set : List ℕ) → (get_or t n d).1 ≡ (get_or u n d).1 → is_same_yet cols (drop (n + 1) t) (drop (n + 1) u) set ≡ is_same_yet cols (drop n t) (drop n u) set
  next_same cols set e = sym (next cols set ∙ pair_same cols (get_or t n d) (get_or u n d) (drop (n + 1) t) (drop (n + 1) u) set (eq-eqb (get_or t n d).1 (get_or u n d).1 e))

  pub next_differs : (cols set : List ℕ) → ((get_or t n d).1 ≡ (get_or u n d).1 → ⊥) → is_same_yet cols (drop (n + 1) t) (drop (n + 1) u) (with_column set (get_or t n d).0) ≡ is_same_yet cols (drop n t) (drop n u) set
  next_differs cols set e = sym (next cols set ∙ pair_differs cols (get_or t n d) (get_or u n d) (drop (n + 1) t) (drop (n + 1) u) set (unequal (get_or t n d).1 (get_or u n d).1 e))

and_true : (b : Bool) → (b && true) ≡ b
and_true true = refl
and_true false = refl

none_in_none : (cols : List ℕ) → is_apart cols [] ≡ true
none_in_none [] = refl
none_in_none (x ∷ cols) = none_in_none cols

-- where no pair is left, the tuples agree at the columns exactly where none of these is in the set
pub none_left : (cols set : List ℕ) (t u rest : Pairs) → cols_of t ≡ cols_of u → is_same_yet cols [] rest set ≡ is_same_yet cols t u [] → agree_on cols t u ≡ is_apart cols set
none_left cols set t u rest e same =
    sym (agree_on_zip cols t u e) ∙ sym (ap (λ b. list_all (same_at cols) (zip t u) && b) (none_in_none cols) ∙ and_true (list_all (same_at cols) (zip t u))) ∙ sym same
