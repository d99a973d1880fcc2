-- Laws of stripes: which tuples fall on one, and that each is of one class.
use Rattle.std.specs.Prelude.{◌≡◌, ℕ, ◌+◌, ◌%◌, ◌<◌, ◌≤◌, List, [], ◌∷◌, length, take, get_or}
use Rattle.rc_spec.specs.Imports.{fold, sum_by, In, Pairs, value, project, agree_from, value-project, Agree-value}
use Rattle.std.proofs.Common.{inl, inr, refl, sym, ap, subst, ◌∙◌, arith}
use Rattle.std.proofs.lemmas.Bool.{cases_order}
use Rattle.std.proofs.lemmas.List.{take-take, get_or-take, length-take}
use Rattle.std.proofs.lemmas.List.Sums.{sum_by_more_le}
use Rattle.std.proofs.Math.Nat.{mod-lt}
use Rattle.rc_spec.specs.declared.items.Class.{Class}
use Rattle.rc_spec.specs.declared.spec.Spec.{Spec}
use Rattle.rc_spec.specs.Decomposition.{bound, edge_at}
use Rattle.rc_spec.specs.Laws.{AgreeingTuplesShareStripes, StripesAreOfOneClass, RowsFallWithTuples}
use Rattle.rc_spec.specs.Placement.{no_class, class_at, class_of}
use Rattle.rc_spec.specs.Stripes.{mix, hash_of, stripe_of, band_start, physical_stripe}

-- ---- one stripe for equal values

hashed_alike : (t u : Pairs) (cols : List ℕ) (hash : ℕ) → ((c : ℕ) → In c cols → value t c ≡ value u c)
    → fold (λ hash c. mix hash (value t c)) hash cols ≡ fold (λ hash c. mix hash (value u c)) hash cols
hashed_alike t u [] hash f = refl
hashed_alike t u (c ∷ cols) hash f = ap (λ v. fold (λ hash c. mix hash (value t c)) (mix hash v) cols) (f c (inl refl)) ∙ hashed_alike t u cols (mix hash (value u c)) (λ d m. f d (inr m))

-- tuples with the same values at the class's columns fall on one stripe
pub stripe_by_values : (spec : Spec) (c : ℕ) (t u : Pairs) → ((k : ℕ) → In k (class_at spec c).cols → value t k ≡ value u k) → physical_stripe spec c t ≡ physical_stripe spec c u
stripe_by_values spec c t u f = ap (λ h. band_start spec c + h % (class_at spec c).stripes) (hashed_alike t u (class_at spec c).cols 7 f)

pub agreeing_law : AgreeingTuplesShareStripes
agreeing_law spec c t u a b e = stripe_by_values spec c t u (λ k m. Agree-value t u k (agree_from t u e) (a k m) (b k m))

pub rows_fall_law : RowsFallWithTuples
rows_fall_law spec ok placed e l t count =
    let xs : List ℕ = bound spec (edge_at spec e).to in
    stripe_by_values spec (class_of spec e) (project xs t) t (λ k m. value-project xs t k ((ok.a3 e l).inside k (placed.p2 e l k m)))

-- ---- bands

-- a class's band ends before a later class's begins
pub band_before : (spec : Spec) (c d : ℕ) → c < d → d < length spec.classes → band_start spec c + (class_at spec c).stripes ≤ band_start spec d
band_before spec c d l m =
    let count : Class → ℕ = λ class. class.stripes in
    let front : List Class = take d spec.classes in
    let n : c < length front = omega (arith, l, m, length-take d spec.classes) in
    let k : sum_by count (take c front) + (get_or front c no_class).stripes ≤ sum_by count front = sum_by_more_le count front c no_class n in
    let a : take c front ≡ take c spec.classes = take-take c d spec.classes (omega arith) in
    let b : get_or front c no_class ≡ class_at spec c = get_or-take d spec.classes c no_class l in
    subst (λ (z : Class). band_start spec c + z.stripes ≤ sum_by count front) b
    (subst (λ (z : List Class). sum_by count z + (get_or front c no_class).stripes ≤ sum_by count front) a k)

-- a stripe lies before the end of its class's band
pub stripe_in_band : (spec : Spec) (c : ℕ) (t : Pairs) → 0 < (class_at spec c).stripes → physical_stripe spec c t < band_start spec c + (class_at spec c).stripes
stripe_in_band spec c t some =
    let stripe : stripe_of (class_at spec c) t < (class_at spec c).stripes = mod-lt (hash_of (class_at spec c).cols t) some in
    omega (arith, stripe)

pub one_class_law : StripesAreOfOneClass
one_class_law spec placed c d k l t u e = elim (cases_order c d) [
  | inl q ↦ q
  | inr m ↦ absurd (elim m [ inl q ↦ later c d t u k l q e | inr q ↦ later d c u t l k q (sym e) ])
]
  where
    later : (c d : ℕ) (t u : Pairs) → c < length spec.classes → d < length spec.classes → c < d → physical_stripe spec c t ≡ physical_stripe spec d u → ⊥
    later c d t u k l q e =
        let a : physical_stripe spec c t < band_start spec c + (class_at spec c).stripes = stripe_in_band spec c t (placed.p6 c k).some in
        let b : band_start spec c + (class_at spec c).stripes ≤ band_start spec d = band_before spec c d q l in
        let f : band_start spec d ≤ physical_stripe spec d u = omega arith in omega (arith, a, b, f, e)
