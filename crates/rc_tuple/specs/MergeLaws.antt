-- Laws of projections: their values, agreement with them, and merges with them.
use Rattle.std.specs.Prelude.{◌≡◌, ℕ, Bool, true, false, Option, Some, List, [], ◌∷◌, ◌==◌, cond, unwrap_or}
use Rattle.std.specs.Ordering.{nat_cmp}
use Rattle.std.proofs.Common.{inl, inr, refl, sym, ap, subst, ◌∙◌}
use Rattle.std.proofs.lemmas.Bool.{false≢true, eqb-true, eqb-false}
use Rattle.rc_tuple.specs.RisingSet.{In, IsRising}
use Rattle.rc_tuple.specs.RisingSetLaws.{same_rising, rising_filter, in_map, map_in, has_in}
use Rattle.rc_tuple.specs.ColSet.{has, Within, union, inter}
use Rattle.rc_tuple.specs.ColSetLaws.{in_union, union_left, union_right, in_inter, inter_in}
use Rattle.rc_tuple.specs.Tuple.{Pairs, cols_of, get, value, project, pair_cmp, merge}
use Rattle.rc_tuple.specs.TupleLaws.{Agree, pair_order, in_project, project_in, rising_cols, in_merge, merge_left, merge_right, rising_merge}

-- ---- projections

pub project-nothing : (t : Pairs) → project [] t ≡ []
project-nothing [] = refl
project-nothing (p ∷ t) = project-nothing t

-- the projection on columns that hold all is the tuple
pub project_all : (xs : List ℕ) (t : Pairs) → IsRising pair_cmp t → Within (cols_of t) xs → project xs t ≡ t
project_all xs t a w =
    same_rising pair_cmp pair_order (project xs t) t (rising_filter pair_cmp (λ (p : ℕ × ℕ). has xs p.0) t a) a
    (λ p h. (in_project xs p t h).0)
    (λ p h. project_in xs p t h (w p.0 (map_in (λ (q : ℕ × ℕ). q.0) p t h)))

-- ---- values

get-project : (xs : List ℕ) (t : Pairs) (c : ℕ) → has xs c ≡ true → get (project xs t) c ≡ get t c
get-project xs [] c h = refl
get-project xs (p ∷ t) c h = go (has xs p.0) (p.0 == c) refl refl (get-project xs t c h)
  where
    go : (a b : Bool) → has xs p.0 ≡ a → (p.0 == c) ≡ b → get (project xs t) c ≡ get t c → get (cond a (p ∷ project xs t) (project xs t)) c ≡ cond b (Some p.1) (get t c)
    go true b f g ih = ap (λ z. cond z (Some p.1) (get (project xs t) c)) g ∙ ap (cond b (Some p.1)) ih
    go false true f g ih = absurd (false≢true (sym f ∙ ap (has xs) (eqb-true p.0 c g) ∙ h))
    go false false f g ih = ih

-- a projection keeps the values at its columns
pub value-project : (xs : List ℕ) (t : Pairs) (c : ℕ) → In c xs → value (project xs t) c ≡ value t c
value-project xs t c m = ap (λ (o : Option ℕ). unwrap_or o 0) (get-project xs t c (has_in xs c m))

-- the value at a column of the tuple is that of one of its pairs
pub value_in : (t : Pairs) (c : ℕ) → In c (cols_of t) → In (c, value t c) t
value_in [] c m = absurd m
value_in (p ∷ t) c m = go (p.0 == c) refl m (value_in t c)
  where
    go : (b : Bool) → (p.0 == c) ≡ b → In c (cols_of (p ∷ t)) → (In c (cols_of t) → In (c, value t c) t) → In (c, unwrap_or (cond b (Some p.1) (get t c)) 0) (p ∷ t)
    go true e m ih = inl (let d : c ≡ p.0 = sym (eqb-true p.0 c e) in λ i. (d i, p.1))
    go false e (inl q) ih = absurd (eqb-false p.0 c e (sym q))
    go false e (inr q) ih = inr (ih q)

-- ---- agreement

-- tuples that agree have one value at a column of both
pub Agree-value : (t u : Pairs) (c : ℕ) → Agree t u → In c (cols_of t) → In c (cols_of u) → value t c ≡ value u c
Agree-value t u c f m n = ap (λ (p : ℕ × ℕ). p.1) (f (c, value t c) (c, value u c) (value_in t c m) (value_in u c n) refl)

pub Agree-back : (t u : Pairs) → Agree t u → Agree u t
Agree-back t u f p q h k e = sym (f q p k h (sym e))

pub Agree-union : (s t : Pairs) (xs ys : List ℕ) → Agree s (project xs t) → Agree s (project ys t) → Agree s (project (union xs ys) t)
Agree-union s t xs ys f g p q h k e =
    let m : In q t × In q.0 (union xs ys) = in_project (union xs ys) q t k in
    elim (in_union xs ys q.0 m.1) [ inl a ↦ f p q h (project_in xs q t m.0 a) e | inr a ↦ g p q h (project_in ys q t m.0 a) e ]

pub Agree-less : (s t : Pairs) (xs ys : List ℕ) → Within xs ys → Agree s (project ys t) → Agree s (project xs t)
Agree-less s t xs ys w f p q h k e =
    let m : In q t × In q.0 xs = in_project xs q t k in
    f p q h (project_in ys q t m.0 (w q.0 m.1)) e

-- ---- merges

-- merged with the projections on xs and then on ys is merged with that on both
pub merge-merge : (s t : Pairs) (xs ys : List ℕ) → merge (merge s (project xs t)) (project ys t) ≡ merge s (project (union xs ys) t)
merge-merge s t xs ys =
    same_rising pair_cmp pair_order (merge (merge s (project xs t)) (project ys t)) (merge s (project (union xs ys) t))
    (rising_merge (merge s (project xs t)) (project ys t)) (rising_merge s (project (union xs ys) t))
    (λ p h. elim (in_merge (merge s (project xs t)) (project ys t) p h) [
      | inl a ↦ elim (in_merge s (project xs t) p a) [
        | inl b ↦ merge_left s (project (union xs ys) t) p b
        | inr b ↦ merge_right s (project (union xs ys) t) p (let m : In p t × In p.0 xs = in_project xs p t b in project_in (union xs ys) p t m.0 (union_left xs ys p.0 m.1))
      ]
      | inr a ↦ merge_right s (project (union xs ys) t) p (let m : In p t × In p.0 ys = in_project ys p t a in project_in (union xs ys) p t m.0 (union_right xs ys p.0 m.1))
    ])
    (λ p h. elim (in_merge s (project (union xs ys) t) p h) [
      | inl a ↦ merge_left (merge s (project xs t)) (project ys t) p (merge_left s (project xs t) p a)
      | inr a ↦ let m : In p t × In p.0 (union xs ys) = in_project (union xs ys) p t a in elim (in_union xs ys p.0 m.1) [
        | inl b ↦ merge_left (merge s (project xs t)) (project ys t) p (merge_right s (project xs t) p (project_in xs p t m.0 b))
        | inr b ↦ merge_right (merge s (project xs t)) (project ys t) p (project_in ys p t m.0 b)
      ]
    ])

-- ---- common columns

common_in_other : (columns xs ys : List ℕ) (t u : Pairs) → cols_of t ≡ columns → cols_of u ≡ columns → Agree (project xs t) (project ys u)
    → (p : ℕ × ℕ) → In p (project (inter xs ys) t) → In p (project (inter xs ys) u)
common_in_other columns xs ys t u a b f p h =
    let m : In p t × In p.0 (inter xs ys) = in_project (inter xs ys) p t h in
    let w : In p.0 xs × In p.0 ys = in_inter xs ys p.0 m.1 in
    let c : In p.0 (cols_of u) = subst (In p.0) (a ∙ sym b) (map_in (λ (q : ℕ × ℕ). q.0) p t m.0) in
    let q : (q : ℕ × ℕ) × In q u × (p.0 ≡ q.0) = in_map (λ (q : ℕ × ℕ). q.0) p.0 u c in
    let e : p ≡ q.0 = f p q.0 (project_in xs p t m.0 w.0) (project_in ys q.0 u q.1 (subst (λ z. In z ys) q.2 w.1)) q.2 in
    project_in (inter xs ys) p u (subst (λ z. In z u) (sym e) q.1) m.1

swap_inter : (xs ys : List ℕ) (t : Pairs) (p : ℕ × ℕ) → In p (project (inter xs ys) t) → In p (project (inter ys xs) t)
swap_inter xs ys t p h =
    let m : In p t × In p.0 (inter xs ys) = in_project (inter xs ys) p t h in
    let w : In p.0 xs × In p.0 ys = in_inter xs ys p.0 m.1 in
    project_in (inter ys xs) p t m.0 (inter_in ys xs p.0 w.1 w.0)

-- two tuples over the same columns whose projections on xs and on ys agree have one projection on the columns of both
pub inter-same : (columns xs ys : List ℕ) (t u : Pairs) → IsRising nat_cmp columns → cols_of t ≡ columns → cols_of u ≡ columns → Agree (project xs t) (project ys u)
    → project (inter xs ys) t ≡ project (inter xs ys) u
inter-same columns xs ys t u o a b f =
    same_rising pair_cmp pair_order (project (inter xs ys) t) (project (inter xs ys) u)
    (rising_filter pair_cmp (λ (p : ℕ × ℕ). has (inter xs ys) p.0) t (rising_cols t (subst (IsRising nat_cmp) (sym a) o)))
    (rising_filter pair_cmp (λ (p : ℕ × ℕ). has (inter xs ys) p.0) u (rising_cols u (subst (IsRising nat_cmp) (sym b) o)))
    (common_in_other columns xs ys t u a b f)
    (λ p h. swap_inter ys xs t p (common_in_other columns ys xs u t b a (Agree-back (project xs t) (project ys u) f) p (swap_inter xs ys u p h)))
